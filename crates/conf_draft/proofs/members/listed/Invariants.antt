use Rattle.std.proofs.Common.{◌≡◌, drop}
use Rattle.serde_json.specs.View.{items_view, members_view}
use Rattle.conf_draft.specs.Members.{members_behind}
use Rattle.conf_draft.specs.Structures.{listed}
use Rattle.conf_draft.proofs.members.listed.Given as goal

abbrev pub invariant-loop-entry : goal.invariant-loop-entry
invariant-loop-entry l = members_behind l.listed (items_view (drop l.entry-index l.entry-items)) ≡ listed l.name (members_view l.members.entries)
