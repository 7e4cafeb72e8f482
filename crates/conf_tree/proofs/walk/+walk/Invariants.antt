use Rattle.std.proofs.Common.{◌≡◌, drop}
use Rattle.serde_json.specs.View.{items_view, members_view}
use Rattle.conf_tree.specs.Order.{ItemsAscend, MembersAscend}
use Rattle.conf_tree.specs.Walk.{item_flaws, member_flaws}
use Rattle.conf_tree.proofs.walk.+walk.Given as goal

-- what is left of the list has all the flaws, and decides its order
abbrev pub invariant-check_items-loop-index : goal.invariant-check_items-loop-index
invariant-check_items-loop-index l =
    (item_flaws (items_view l.items.items) 0 l.levels ≡ item_flaws (items_view (drop l.index l.items.items)) l.index l.levels)
    × (ItemsAscend (items_view (drop l.index l.items.items)) → ItemsAscend (items_view l.items.items))

-- what is left of the object has all the flaws, and decides its order
abbrev pub invariant-check_members-loop-name : goal.invariant-check_members-loop-name
invariant-check_members-loop-name l =
    (member_flaws (members_view l.members.entries) l.levels ≡ member_flaws (members_view l.name-iterator) l.levels)
    × (MembersAscend (members_view l.name-iterator) → MembersAscend (members_view l.members.entries))
