use Rattle.std.specs.List.{All}
use Rattle.trace_stack.specs.Working.{IsOfStream}
use Rattle.trace_bench.proofs.made.acts.Given as goal

-- so far each act is of a stream alone
abbrev pub invariant-loop : goal.invariant-loop
invariant-loop l = All IsOfStream l.acts.items
