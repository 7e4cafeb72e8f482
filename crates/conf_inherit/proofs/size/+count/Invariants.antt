use Rattle.std.proofs.Common.{◌≡◌, ◌+◌, drop}
use Rattle.serde_json.specs.View.{items_view, members_view}
use Rattle.conf_inherit.specs.Size.{items_size, members_size}
use Rattle.conf_inherit.proofs.size.+count.Given as goal

-- what is counted so far and what is left of the list are the whole list
abbrev pub invariant-count_items-loop-item : goal.invariant-count_items-loop-item
invariant-count_items-loop-item l = l.limit + items_size (items_view (drop l.item-index l.items.items)) ≡ l.left + items_size (items_view l.items.items)

abbrev pub invariant-count_members-loop-name : goal.invariant-count_members-loop-name
invariant-count_members-loop-name l = l.limit + members_size (members_view l._name-iterator) ≡ l.left + members_size (members_view l.members.entries)
