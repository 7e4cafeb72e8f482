use Rattle.std.proofs.Common.{◌≡◌, List, ℕ, [], ◌∷◌, ◌∙◌, arith, codes, length, string_bytes, sym}
use Rattle.std.proofs.lemmas.Bool.{eqb-true}
use Rattle.std.proofs.lemmas.Result.{IfOk-weaker}
use Rattle.tsdl_grammar.specs.{FaultWords.IsSaidOf, Pieces.piece_at}
use Rattle.tsdl_grammar.proofs.position.standing.Goals as goal

-- what is said where no bytes are left
ending : (bytes found : List ℕ) → length bytes ≡ 0 → found ≡ codes "the end of the text" → IsSaidOf bytes found
unfolding piece_at
ending [] found none e = record { ending = λ _. e; piece = tt; wrong = λ some _. absurd (omega (arith, some)) }
ending (b ∷ bytes) found none e = absurd (omega (arith, none))

pub returns-then-is_empty : goal.returns-then-is_empty
returns-then-is_empty c =
    IfOk-weaker c.from_str.result _ _ (λ found e. ending c.args.bytes.now (string_bytes found) (eqb-true (length c.args.bytes.now) 0 (sym c.is_empty.ensures ∙ c.if-is_empty.true)) e) c.from_str.ensures.ok
