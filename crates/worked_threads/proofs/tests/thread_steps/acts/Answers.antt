use Rattle.std.proofs.Common.{sym, subst}
use Rattle.std.proofs.lemmas.List.Elements.{All-push}
use Rattle.std.specs.List.{All}
use Rattle.trace_stack.specs.Working.{IsOfStream}
use Rattle.worked_threads.proofs.tests.thread_steps.acts.Goals as goal

pub loop-line-preserved : goal.loop-line-preserved
loop-line-preserved c =
    subst (All IsOfStream) (sym c.in_ok-push.ensures.items)
    (All-push IsOfStream c.loop-line.acts.items c.in_ok-own_act.field-0 c.loop-line.invariant c.in_ok-own_act.ensures)
