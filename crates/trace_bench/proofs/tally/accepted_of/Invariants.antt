use Rattle.std.proofs.Common.{◌≡◌, ◌≤◌, take}
use Rattle.trace_bench.specs.Tally.{accepted}
use Rattle.trace_bench.proofs.tally.accepted_of.Given as goal

-- so many of those before are accepted
abbrev pub invariant-loop-answer : goal.invariant-loop-answer
invariant-loop-answer l = (l.count ≡ accepted (take l.answer-index l.answers)) × (l.count ≤ l.answer-index)
