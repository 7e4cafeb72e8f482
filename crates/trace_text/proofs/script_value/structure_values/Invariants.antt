use Rattle.std.proofs.Common.{◌≡◌, drop}
use Rattle.serde_json.specs.View.{items_view}
use Rattle.trace_text.specs.ScriptValues.{members_values, values_from}
use Rattle.trace_text.proofs.script_value.structure_values.Given as goal

-- the values of the members that are left go behind those that were read
abbrev pub invariant-loop-index : goal.invariant-loop-index
invariant-loop-index l =
    members_values l.structure.members (items_view l.items) ≡ values_from l.structure.members l.index l.values (items_view (drop l.index l.items))
