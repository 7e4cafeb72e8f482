use Rattle.std.proofs.Common.{◌≡◌, ◌+◌, ◌*◌, drop, Some}
use Rattle.serde_json.specs.{Data.no_members, View.{items_view, members_view}}
use Rattle.conf_inherit.specs.{Asked.asked_of, Flaws.{item_flaws, member_flaws}, SeenNames.seen_names}
use Rattle.conf_inherit.proofs.flaws.+flaws.Given as goal

-- what is left of the list has all the flaws
abbrev pub invariant-check_items-loop-index : goal.invariant-check_items-loop-index
invariant-check_items-loop-index l =
    item_flaws (asked_of l.known) (Some (members_view l.known.resolved.now.entries)) l.known.outside l.place 0 no_members (items_view l.items.items) ≡ item_flaws (asked_of l.known) (Some (members_view l.known.resolved.now.entries)) l.known.outside l.place l.index (seen_names l.seen) (items_view (drop l.index l.items.items))

-- what is left of the object has all the flaws
abbrev pub invariant-check_members-loop-name : goal.invariant-check_members-loop-name
invariant-check_members-loop-name l =
    member_flaws (asked_of l.known) (Some (members_view l.known.resolved.now.entries)) l.known.outside l.place (seen_names l.seen) (members_view l.members.entries) ≡ member_flaws (asked_of l.known) (Some (members_view l.known.resolved.now.entries)) l.known.outside l.place (seen_names l.seen) (members_view l.name-iterator)

abbrev pub decreases-check_flaws : goal.decreases-check_flaws
decreases-check_flaws l = 4 * goal.size-check_flaws l + 1

abbrev pub decreases-check_items : goal.decreases-check_items
decreases-check_items l = 4 * goal.size-check_items l + 3

abbrev pub decreases-check_members : goal.decreases-check_members
decreases-check_members l = 4 * goal.size-check_members l + 3

abbrev pub decreases-check_member : goal.decreases-check_member
decreases-check_member l = 4 * goal.size-check_member l + 2
