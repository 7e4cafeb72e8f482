use Rattle.std.proofs.Common.{◌≡◌}
use Rattle.trace_text.proofs.script_event.doing_in.Given as goal

-- the loop ends at its first property
abbrev pub invariant-loop-word : goal.invariant-loop-word
invariant-loop-word l = l.members.entries ≡ l.word-iterator
