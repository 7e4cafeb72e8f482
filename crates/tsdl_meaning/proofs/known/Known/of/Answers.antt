use Rattle.std.proofs.Common.{arith, List, ℕ, ◌∷◌, ◌++◌, ap, ◌∙◌, []}
use Rattle.tsdl_meaning.proofs.Fronts.{made_up_to}
use Rattle.tsdl_meaning.proofs.known.Known.of.Goals as goal

pub loop-clock-preserved : goal.loop-clock-preserved
loop-clock-preserved c =
    made_up_to (λ k. k.name) c.args.clocks.now c.loop-clock.clock-index c.clock-item.result c.loop-clock.names c.push.new.self (omega arith) c.clock-item.is c.loop-clock.invariant
    (c.in_ok-push.ensures.ok ∙ ap (λ (n : List ℕ). c.loop-clock.names ++ n ∷ []) c.in_ok-copy.ensures)
