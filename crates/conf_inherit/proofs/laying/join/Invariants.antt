use Rattle.std.proofs.Common.{◌≡◌, drop}
use Rattle.serde_json.specs.View.{items_view}
use Rattle.conf_inherit.specs.Names.{join_items}
use Rattle.conf_inherit.proofs.laying.join.Given as goal

abbrev pub invariant-loop-item : goal.invariant-loop-item
invariant-loop-item l = join_items (items_view l.list.items) (items_view (drop l.item-index l.items.items)) ≡ join_items (items_view l.initial.list.items) (items_view l.items.items)
