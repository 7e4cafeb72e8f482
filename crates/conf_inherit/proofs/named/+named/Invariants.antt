use Rattle.std.proofs.Common.{◌≡◌, drop}
use Rattle.serde_json.specs.View.{items_view, members_view}
use Rattle.conf_inherit.specs.{Asked.passes, Named.{all_named_in_items, all_named_in_members}}
use Rattle.conf_inherit.proofs.named.+named.Given as goal

-- the items that are left pass where all of them do
abbrev pub invariant-all_named_in_items-loop-item : goal.invariant-all_named_in_items-loop-item
invariant-all_named_in_items-loop-item l =
    all_named_in_items (passes l.asked) l.place (items_view l.items.items) ≡ all_named_in_items (passes l.asked) l.place (items_view (drop l.item-index l.items.items))

abbrev pub invariant-all_named_in_members-loop-name : goal.invariant-all_named_in_members-loop-name
invariant-all_named_in_members-loop-name l =
    all_named_in_members (passes l.asked) l.place (members_view l.members.entries) ≡ all_named_in_members (passes l.asked) l.place (members_view l.name-iterator)
