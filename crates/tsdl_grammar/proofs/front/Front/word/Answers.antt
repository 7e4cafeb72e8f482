use Rattle.std.proofs.Common.{◌≡◌, ℕ, true, false, List, Option, Some, None, refl, ap, MatchOption, option_map}
use Rattle.std.specs.Str.{is_utf8}
use Rattle.tsdl_grammar.specs.Atoms.{word_atom}
use Rattle.tsdl_grammar.specs.Fronts.{word_in}
use Rattle.tsdl_grammar.proofs.front.Front.word.Goals as goal

as_word : {A : Type 0} (now : A → List ℕ) (o : Option A) (bytes : List ℕ) → MatchOption o (is_utf8 bytes ≡ false) (λ t. (now t ≡ bytes) × (is_utf8 bytes ≡ true)) → option_map now o ≡ word_in (word_atom bytes)
as_word now None bytes h = rw h refl
as_word now (Some t) bytes h = rw h.1 (ap Some h.0)

pub returns-in-Identifier : goal.returns-in-Identifier
returns-in-Identifier c = rw c.in-Identifier.is (as_word _ c.text_in.result c.args.self.now.bytes.now c.text_in.ensures)
