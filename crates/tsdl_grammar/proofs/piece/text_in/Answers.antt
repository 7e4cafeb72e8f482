use Rattle.std.proofs.Common.{◌≡◌, true, false, ℕ, List, Result, Ok, Err, MatchOption, MatchResult, IsUtf8}
use Rattle.std.specs.{Result.result_ok, Str.is_utf8}
use Rattle.std.proofs.{lemmas.Bool.false_from_ne_true, lemmas.Str.{IsUtf8-from_is_utf8, is_utf8-from_IsUtf8}}
use Rattle.tsdl_grammar.proofs.piece.text_in.Goals as goal

as_text : {T E : Type 0} (now : T → List ℕ) (Q : E → Type 0) (bytes : List ℕ) (r : Result T E) → MatchResult r (λ t. (now t ≡ bytes) × IsUtf8 bytes) (λ e. ¬ (IsUtf8 bytes) × Q e)
    → MatchOption (result_ok r) (is_utf8 bytes ≡ false) (λ t. (now t ≡ bytes) × (is_utf8 bytes ≡ true))
as_text now Q bytes (Ok t) h = (h.0, is_utf8-from_IsUtf8 bytes h.1)
as_text now Q bytes (Err e) h = false_from_ne_true (is_utf8 bytes) (λ t. h.0 (IsUtf8-from_is_utf8 bytes t))

pub returns : goal.returns
returns c = rw c.ok.ensures.value (as_text _ _ c.args.bytes.now c.from_utf8.result c.from_utf8.ensures.cases)
