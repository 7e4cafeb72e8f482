use Rattle.std.proofs.Common.{◌≡◌, ◌<◌, ℕ, true}
use Rattle.trace_text.specs.ScriptValues.{is_value_at}
use Rattle.trace_text.proofs.script_bad_value.first_bad_value.Given as goal

-- each item before is a value
abbrev pub invariant-loop-i : goal.invariant-loop-i
invariant-loop-i l = (j : ℕ) → j < l.i → is_value_at l.structure.members l.items j ≡ true
