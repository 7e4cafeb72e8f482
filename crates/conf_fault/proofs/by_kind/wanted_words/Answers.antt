use Rattle.std.proofs.Common.{◌≡◌, ◌∙◌, ℕ, List, ap, refl, string_bytes, subst, sym}
use Rattle.std.specs.Prelude.{MatchOption, Option, option_map}
use Rattle.std.proofs.lemmas.Result.{IfOk-weaker}
use Rattle.conf_fault.specs.Wanted.{IsToldAndHinted}
use Rattle.conf_fault.proofs.by_kind.wanted_words.Goals as goal

pub returns-in-Some : goal.returns-in-Some
returns-in-Some c =
    let fault = c.args.fault.now in
    let words = string_bytes c.in-Some.words in
    subst (λ (o : Option (List ℕ)). MatchOption o (IsToldAndHinted c.args.found.now.source.text.now fault words) (λ said. words ≡ said))
    (sym (ap (option_map string_bytes) c.in-Some.is) ∙ c.in_ok-words.ensures) refl

pub returns-in-None : goal.returns-in-None
returns-in-None c =
    let fault = c.args.fault.now in
    let text = c.args.found.now.source.text.now in
    IfOk-weaker c.told_words.result _ _
    (λ words is. subst (λ (o : Option (List ℕ)). MatchOption o (IsToldAndHinted text fault (string_bytes words)) (λ said. string_bytes words ≡ said))
    (sym (ap (option_map string_bytes) c.in-None.is) ∙ c.in_ok-words.ensures) is)
    c.told_words.ensures
