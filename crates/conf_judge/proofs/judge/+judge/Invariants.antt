use Rattle.std.proofs.Common.{◌≡◌, ◌≤◌, ◌+◌, ◌*◌, drop}
use Rattle.serde_json.specs.Data.{items_depth, members_depth}
use Rattle.serde_json.specs.View.{items_view, members_view}
use Rattle.conf_judge.specs.Flaws.{item_flaws, member_flaws}
use Rattle.conf_judge.specs.Known.{known_of, inside}
use Rattle.conf_judge.specs.Names.{names_beside}
use Rattle.conf_judge.proofs.judge.+judge.Given as goal

-- what is left of the list has all the flaws
abbrev pub invariant-check_items-loop-index : goal.invariant-check_items-loop-index
invariant-check_items-loop-index l =
    (items_depth (items_view (drop l.index l.items.items)) ≤ items_depth (items_view l.items.items))
    × (item_flaws (known_of l.around) l.place (names_beside l.place) 0 (items_view l.items.items) ≡ item_flaws (known_of l.around) l.place (members_view l.taken.entries) l.index (items_view (drop l.index l.items.items)))

-- what is left of the object has all the flaws
abbrev pub invariant-check_members-loop-name : goal.invariant-check_members-loop-name
invariant-check_members-loop-name l =
    (members_depth (members_view l.name-iterator) ≤ members_depth (members_view l.members.entries))
    × (member_flaws (inside l.place (members_view l.members.entries) (known_of l.around)) l.place (members_view l.members.entries) ≡ member_flaws (known_of l.here) l.place (members_view l.name-iterator))

abbrev pub decreases-check_inner : goal.decreases-check_inner
decreases-check_inner l = 8 * goal.size-check_inner l + 1

abbrev pub decreases-check_items : goal.decreases-check_items
decreases-check_items l = 8 * goal.size-check_items l + 6

abbrev pub decreases-check_item : goal.decreases-check_item
decreases-check_item l = 8 * goal.size-check_item l + 3

abbrev pub decreases-check_object : goal.decreases-check_object
decreases-check_object l = 8 * goal.size-check_object l + 7

abbrev pub decreases-check_members : goal.decreases-check_members
decreases-check_members l = 8 * goal.size-check_members l + 6

abbrev pub decreases-check_property : goal.decreases-check_property
decreases-check_property l = 8 * goal.size-check_property l + 3
