use Rattle.std.proofs.Common.{◌≡◌, ℕ, List, ◌++◌, ◌∙◌, Option, Some, sym, ap, append_assoc, codes, decimal, string_bytes}
use Rattle.std.proofs.lemmas.Result.{IfOk-weaker}
use Rattle.tsdl_grammar.specs.declared.fault.MetaFaultKind.TheVariants as faults
use Rattle.tsdl_grammar.specs.FaultWords.{kind_words}
use Rattle.tsdl_flaw.specs.FlawWords.{before_words}
use Rattle.tsdl_flaw.proofs.flaw.Numbered.words.Goals as goal

in_order : (a b c d e f g : List ℕ) → a ++ ((b ++ c) ++ (d ++ (e ++ (f ++ g)))) ≡ a ++ b ++ (c ++ d ++ e ++ f ++ g)
in_order a b c d e f g = simp append_assoc

pub returns : goal.returns
returns c =
    let n = c.args.self.now in
    let event = c.in-Some.event in
    let twice = string_bytes c.in_ok-twice.twice in
    let said = λ (w : List ℕ). λ (of : Option ℕ). w ++ codes ": " ++ before_words n.stream of in
    IfOk-weaker c.format-in-Some.result _ _
    (λ text e. e ∙ in_order twice (codes ": ") (codes "an event with number ") (decimal event) (codes " in stream ") (decimal n.stream) (codes " stands before")
    ∙ ap (λ (w : List ℕ). said w (Some event)) c.in_ok-twice.ensures.ok ∙ ap (said (kind_words faults.Duplicate)) (sym c.in-Some.is)) c.format-in-Some.ensures.ok
