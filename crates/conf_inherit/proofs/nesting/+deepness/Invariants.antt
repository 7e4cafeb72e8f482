use Rattle.std.proofs.Common.{◌≡◌, drop}
use Rattle.serde_json.specs.View.{items_view, members_view}
use Rattle.conf_inherit.specs.Nesting.{deep_item_flaws, deep_member_flaws}
use Rattle.conf_inherit.proofs.nesting.+deepness.Given as goal

-- what is left of the list has all that is too deep in it
abbrev pub invariant-check_items_nesting-loop-index : goal.invariant-check_items_nesting-loop-index
invariant-check_items_nesting-loop-index l =
    deep_item_flaws 0 (items_view l.items.items) l.levels ≡ deep_item_flaws l.index (items_view (drop l.index l.items.items)) l.levels

-- what is left of the object has all that is too deep in it
abbrev pub invariant-check_members_nesting-loop-name : goal.invariant-check_members_nesting-loop-name
invariant-check_members_nesting-loop-name l =
    deep_member_flaws (members_view l.members.entries) l.levels ≡ deep_member_flaws (members_view l.name-iterator) l.levels
