use Rattle.std.proofs.Common.{◌≡◌, ◌+◌, ◌*◌, drop, length, Option, ℕ, List, ◌++◌}
use Rattle.std.specs.Vec.Iter.{into_iter_items, into_iter_len}
use Rattle.serde_json.specs.{Data.{Data, Items}, View.{view, items_view, members_view}}
use Rattle.serde_json.proofs.Views.{Entry}
use Rattle.conf_inherit.specs.Laying.{lay_base, lay_members, lay_over, lay_over_member, lay_new, lay_new_entry, lay_new_member}
use Rattle.conf_inherit.specs.{Names.{join_items, map_items}, Size.{items_size, Leaves}}
use Rattle.conf_inherit.proofs.laying.+laying.Given as goal

abbrev pub decreases-lay : goal.decreases-lay
decreases-lay l = 5 * goal.size-lay l

abbrev pub decreases-lay_inherited : goal.decreases-lay_inherited
decreases-lay_inherited l = 5 * goal.size-lay_inherited l + 2

abbrev pub decreases-lay_properties : goal.decreases-lay_properties
decreases-lay_properties l = 5 * goal.size-lay_properties l + 2

abbrev pub decreases-lay_list : goal.decreases-lay_list
decreases-lay_list l = 5 * goal.size-lay_list l + 4

abbrev pub decreases-lay_over_entries : goal.decreases-lay_over_entries
decreases-lay_over_entries l = 5 * goal.size-lay_over_entries l + 3

abbrev pub decreases-lay_over : goal.decreases-lay_over
decreases-lay_over l = 5 * goal.size-lay_over l + 2

abbrev pub decreases-lay_new_entries : goal.decreases-lay_new_entries
decreases-lay_new_entries l = 5 * goal.size-lay_new_entries l + 2

abbrev pub decreases-push_new_item : goal.decreases-push_new_item
decreases-push_new_item l = 5 * goal.size-push_new_item l

-- the properties that are left inherit what all of them do
abbrev pub invariant-lay_inherited-loop-name : goal.invariant-lay_inherited-loop-name
invariant-lay_inherited-loop-name l =
    (base : Option Data) → lay_base (members_view l.aliases.entries) l.place (members_view l.members.entries) base ≡ lay_base (members_view l.aliases.entries) l.place (members_view l.name-iterator) base

-- the properties that came so far, which are the last ones, are laid over the base
abbrev pub invariant-lay_properties-loop-name : goal.invariant-lay_properties-loop-name
invariant-lay_properties-loop-name l =
    (done : List Entry) × (l.members.entries ≡ l.name-iterator.iter ++ done) × (members_view l.laid.entries ≡ lay_members (members_view l.aliases.entries) l.place (members_view done) (members_view l.fn.below.entries))

-- the entries so far, and what is left of the base laid over; the room is what those so far leave
abbrev pub invariant-lay_over_entries-loop-entry : goal.invariant-lay_over_entries-loop-entry
invariant-lay_over_entries-loop-entry l = record {
  laid : join_items (items_view l.entries.items) (map_items (λ b. lay_over (members_view l.aliases.entries) (items_view l.own.items) b) (items_view (into_iter_items l.entry-iterator)))
      ≡ map_items (λ b. lay_over (members_view l.aliases.entries) (items_view l.own.items) b) (items_view l.fn.base.items);
  left : Leaves l.fn.limit (items_size (items_view l.entries.items)) l.room;
  count : into_iter_len l.entry-iterator ≡ length (into_iter_items l.entry-iterator);
}

-- the properties that are left are laid over the entry as the whole list is
abbrev pub invariant-lay_over-loop-name : goal.invariant-lay_over-loop-name
invariant-lay_over-loop-name l =
    lay_over (members_view l.aliases.entries) (items_view l.own.items) (view l.entry) ≡ lay_over_member (members_view l.aliases.entries) (members_view l.name-iterator) (view l.entry) (view l.entry)

-- the entries so far, and the new ones of what is left; the room is what those so far leave
abbrev pub invariant-lay_new_entries-loop-item : goal.invariant-lay_new_entries-loop-item
invariant-lay_new_entries-loop-item l = record {
  laid : join_items (items_view l.entries.items) (lay_new (members_view l.aliases.entries) (items_view (drop l.item-index l.own.items)) (items_view l.base.items))
      ≡ lay_new (members_view l.aliases.entries) (items_view l.own.items) (items_view l.base.items);
  left : Leaves l.fn.limit (items_size (items_view l.entries.items)) l.room;
}

abbrev pub invariant-push_new_item-loop-name : goal.invariant-push_new_item-loop-name
invariant-push_new_item-loop-name l = record {
  laid : (rest : Items) → join_items (items_view l.entries.items) (lay_new_member (members_view l.aliases.entries) (members_view l.name-iterator) (items_view l.base.entries.now.items) rest)
      ≡ join_items (items_view l.initial.entries.items) (lay_new_entry (members_view l.aliases.entries) (view l.item) (items_view l.base.entries.now.items) rest);
  left : (limit : Option ℕ) → Leaves limit (items_size (items_view l.initial.entries.items)) l.fn.room → Leaves limit (items_size (items_view l.entries.items)) l.left;
}
