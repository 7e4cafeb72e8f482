use Rattle.std.proofs.Common.{◌≡◌}
use Rattle.serde_json.specs.View.{members_view}
use Rattle.conf_draft.specs.FieldTypes.{element}
use Rattle.conf_draft.proofs.field_type.+field_type.Given as goal

abbrev pub invariant-element-loop-name : goal.invariant-element-loop-name
invariant-element-loop-name l = element (members_view l.members.entries) ≡ element (members_view l.name-iterator)
