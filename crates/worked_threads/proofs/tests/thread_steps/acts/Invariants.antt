use Rattle.std.specs.List.{All}
use Rattle.trace_stack.specs.Working.{IsOfStream}
use Rattle.worked_threads.proofs.tests.thread_steps.acts.Given as goal

-- so far each act is of a stream alone
abbrev pub invariant-loop-line : goal.invariant-loop-line
invariant-loop-line l = All IsOfStream l.acts.items
