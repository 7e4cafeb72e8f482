use Rattle.std.proofs.Common.{◌≤◌}
use Rattle.trace_bench.proofs.tracing.traced.Given as goal

-- no more calls were accepted than were made
abbrev pub invariant-loop-call : goal.invariant-loop-call
invariant-loop-call g l = l.accepted ≤ l.call
