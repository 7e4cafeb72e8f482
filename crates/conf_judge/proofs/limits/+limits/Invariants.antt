use Rattle.std.proofs.Common.{◌≡◌, ◌≤◌, ◌+◌, ◌*◌, drop}
use Rattle.serde_json.specs.Data.{items_depth, members_depth}
use Rattle.serde_json.specs.View.{items_view, members_view}
use Rattle.conf_judge.specs.Limits.{item_limits, member_limits}
use Rattle.conf_judge.proofs.limits.+limits.Given as goal

-- what is left of the list has all that is passed
abbrev pub invariant-check_items-loop-index : goal.invariant-check_items-loop-index
invariant-check_items-loop-index l =
    (items_depth (items_view (drop l.index l.items.items)) ≤ items_depth (items_view l.items.items))
    × (item_limits l.place 0 (items_view l.items.items) ≡ item_limits l.place l.index (items_view (drop l.index l.items.items)))

-- what is left of the object has all that is passed
abbrev pub invariant-check_members-loop-name : goal.invariant-check_members-loop-name
invariant-check_members-loop-name l =
    (members_depth (members_view l.name-iterator) ≤ members_depth (members_view l.members.entries))
    × (member_limits l.place (members_view l.members.entries) ≡ member_limits l.place (members_view l.name-iterator))

abbrev pub decreases-check_content : goal.decreases-check_content
decreases-check_content l = 8 * goal.size-check_content l + 2

abbrev pub decreases-check_items : goal.decreases-check_items
decreases-check_items l = 8 * goal.size-check_items l + 6

abbrev pub decreases-check_members : goal.decreases-check_members
decreases-check_members l = 8 * goal.size-check_members l + 6

abbrev pub decreases-check_property : goal.decreases-check_property
decreases-check_property l = 8 * goal.size-check_property l + 3
