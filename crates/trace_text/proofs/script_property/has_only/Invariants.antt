use Rattle.std.proofs.Common.{◌≡◌}
use Rattle.serde_json.specs.View.{members_view}
use Rattle.trace_text.specs.ScriptEntries.{has_only}
use Rattle.trace_text.proofs.script_property.has_only.Given as goal

-- what is left of the object has no others where the whole has none
abbrev pub invariant-loop-name : goal.invariant-loop-name
invariant-loop-name l = has_only l.object (members_view l.members.entries) ≡ has_only l.object (members_view l.name-iterator)
