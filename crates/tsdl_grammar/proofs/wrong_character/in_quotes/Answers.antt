use Rattle.std.proofs.Common.{◌≡◌, List, ℕ, string_bytes, subst, IfSome}
use Rattle.std.specs.Fmt.{debug_str}
use Rattle.std.proofs.lemmas.Result.{IfOk-weaker}
use Rattle.tsdl_grammar.proofs.wrong_character.in_quotes.Goals as goal

pub returns : goal.returns
returns c = IfOk-weaker c.format.result _ _
    (λ found said. subst (λ (t : List ℕ). IfSome (debug_str t) (λ shown. string_bytes found ≡ shown)) c.in_ok-text.ensures.lossy said)
    c.format.ensures.ok
