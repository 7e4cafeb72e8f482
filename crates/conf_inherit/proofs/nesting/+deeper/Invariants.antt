use Rattle.std.proofs.Common.{◌≡◌, drop, nat_lt}
use Rattle.serde_json.specs.{Data.{items_depth, members_depth}, View.{items_view, members_view}}
use Rattle.conf_inherit.proofs.nesting.+deeper.Given as goal

abbrev pub invariant-are_items_deeper-loop-item : goal.invariant-are_items_deeper-loop-item
invariant-are_items_deeper-loop-item l = nat_lt l.levels (items_depth (items_view l.items.items)) ≡ nat_lt l.levels (items_depth (items_view (drop l.item-index l.items.items)))

abbrev pub invariant-are_members_deeper-loop-name : goal.invariant-are_members_deeper-loop-name
invariant-are_members_deeper-loop-name l = nat_lt l.levels (members_depth (members_view l.members.entries)) ≡ nat_lt l.levels (members_depth (members_view l._name-iterator))
