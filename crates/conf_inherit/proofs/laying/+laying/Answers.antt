use Rattle.std.proofs.Common.{rules, ◌≡◌, ◌+◌, suc, length, None, true, false, string_bytes, [], ◌∷◌, ◌++◌, get_or, ap, sym, ◌∙◌, arith, append-nil, append_assoc, option_map, unwrap_or, refl, drop, subst}
use Rattle.std.proofs.{lemmas.Grind.common_steps, lemmas.List.{at_drop_all, at_drop_more, nil_from_length}, lemmas.Result.err_from_is_err_and}
use Rattle.std.specs.Vec.Iter.{into_iter_items}
use Rattle.serde_json.specs.{Data.{Data, Items, array, object, put}, View.{view, items_view, members_view}}
use Rattle.serde_json.proofs.Views.{Entry, view-Array, view-Object}
use Rattle.conf_inherit.specs.Laying.{lay, items_below, has_entry, lay_members, lay_over, lay_over_entry, lay_over_member, lay_new, lay_new_entry, lay_new_member}
use Rattle.conf_inherit.specs.{Names.{map_items, join_items}, FieldPlaces.{lists_members}}
use Rattle.conf_inherit.specs.Size.{size, items_size, Leaves, IsDue}
use Rattle.conf_inherit.proofs.LayingLemmas.{apart_of, join_none, join_pushed, join_appended}
use Rattle.conf_inherit.proofs.SizeLemmas.{leaves_all, leaves_within, leaves_pushed, due_next, due_more, list_parts, next_property}
use Rattle.conf_table.specs.declared.place.Place.TheVariants as places
use Rattle.conf_inherit.proofs.laying.+laying.Goals as goal

pub lay_over-loop-name-init : goal.lay_over-loop-name-init
lay_over-loop-name-init t c =
    let done = members_view c.args.aliases.now.entries in
    let b = view c.args.entry in
    ap (λ v. lay_over done (items_view v.items) b) (sym c.requires)
    ∙ c.first_over.ensures.found done
    ∙ ap (λ o. unwrap_or (option_map (λ e. lay_over_entry done e b b) (option_map (λ e. view e.now) o)) b) c.in-Some-Object.is
    ∙ ap (λ e. lay_over_entry done e b b) (ap view c.in-Some-Object.field-0-is ∙ view-Object c.in-Some-Object.members)
    ∙ ap (λ m. lay_over_member done (members_view m.entries) b b) (sym c.in-Some-Object.members-is)
    ∙ ap (λ es. lay_over_member done (members_view es) b b) (sym c.iter-name-items.ensures.rest ∙ sym c.into_iter-name-iterator.ensures.into_iter_gives)

pub lay_list-returns-in_err-entries-clause-past : goal.lay_list-returns-in_err-entries-clause-past
lay_list-returns-in_err-entries-clause-past t c =
    let p = err_from_is_err_and c.from_residual-in_err-entries.result c.from_residual-in_err-entries.ensures.1 in
    let is : lists_members c.args.place ≡ true = sym c.lists_members.ensures ∙ c.if-lists_members.true in
    rw (p.1, p.2)
    (due_more c.in_err-entries.field-0.0 c.args.limit _ _ (list_parts (members_view c.args.aliases.now.entries) c.args.place (items_view c.args.items.now.items) (option_map view c.args.base) is).0
    (rw c.items_under-below.ensures at c.in_err-entries.ensures.past))

pub lay_list-returns-in_err-added-clause-past : goal.lay_list-returns-in_err-added-clause-past
lay_list-returns-in_err-added-clause-past t c =
    let p = err_from_is_err_and c.from_residual.result c.from_residual.ensures.1 in
    let is : lists_members c.args.place ≡ true = sym c.lists_members.ensures ∙ c.if-lists_members.true in
    rw (p.1, p.2)
    (due_more c.in_err-added.field-0.0 c.args.limit _ _ (list_parts (members_view c.args.aliases.now.entries) c.args.place (items_view c.args.items.now.items) (option_map view c.args.base) is).1
    (rw c.items_under-below.ensures at c.in_err-added.ensures.past))

pub lay_list-returns-then-lists_members-clause-laid : goal.lay_list-returns-then-lists_members-clause-laid
lay_list-returns-then-lists_members-clause-laid t c =
    let done = members_view c.args.aliases.now.entries in
    let own = items_view c.args.items.now.items in
    let base = option_map view c.args.base in
    let over = λ (b : Data). lay_over done own b in
    let is : lists_members c.args.place ≡ true = sym c.lists_members.ensures ∙ c.if-lists_members.true in
    rw is
    (view-Array c.append.new.self
    ∙ ap (λ vs. array (items_view vs)) c.in_ok-append.ensures.items
    ∙ ap array (join_appended c.in_ok-entries.entries.items c.in_ok-added.added.items)
    ∙ ap (λ x. array (join_items x (items_view c.in_ok-added.added.items))) (c.in_ok-entries.ensures.laid ∙ ap (map_items over) c.items_under-below.ensures)
    ∙ ap (λ x. array (join_items (map_items over (items_below base)) x)) (c.in_ok-added.ensures.laid ∙ ap (lay_new done own) c.items_under-below.ensures))

pub lay_properties-loop-name-init : goal.lay_properties-loop-name-init
lay_properties-loop-name-init t c =
    ([], sym c.iter.ensures.rest ∙ sym c.rev-name-items.ensures.source ∙ ap (λ r. r.iter) (sym c.into_iter-name-iterator.ensures.into_iter_gives) ∙ sym (append-nil c.into_iter-name-iterator.result.iter), refl)

pub lay_properties-returns-clause-laid : goal.lay_properties-returns-clause-laid
lay_properties-returns-clause-laid t c =
    let aliases = members_view c.args.aliases.now.entries in
    let whole : c.loop-name.invariant.0 ≡ c.args.members.now.entries = sym (c.loop-name.invariant.1 ∙ ap (λ xs. xs ++ c.loop-name.invariant.0) c.in-None.ensures.steps.0) in
    c.loop-name.invariant.2 ∙ ap (λ es. lay_members aliases c.args.place (members_view es) (members_view c.args.below.entries)) whole

pub lay_properties-loop-name-preserved-in-Continue-branch-2 : goal.lay_properties-loop-name-preserved-in-Continue-branch-2
lay_properties-loop-name-preserved-in-Continue-branch-2 t c =
    let inv = c.loop-name.invariant in
    let e : Entry = (c.in-Some.name.now, c.in-Some.value.now) in
    let k = c.as_str-key.result.now in
    let taken = members_view c.take_property-base.new.members.entries in
    let split : c.args.members.now.entries ≡ c.next.new.self.iter ++ e ∷ inv.0 = inv.1 ∙ ap (λ xs. xs ++ inv.0) c.in-Some.ensures.steps ∙ append_assoc c.next.new.self.iter (e ∷ []) inv.0 in
    let next = next_property (members_view c.args.aliases.now.entries) c.args.place c.next.new.self.iter inv.0 c.args.members.now.entries e k (members_view c.args.below.entries) (members_view c.loop-name.laid.entries) split (apart_of c.args.members.now.entries c.iter.ensures.ordered) inv.2 c.as_str-key.ensures.value (sym c.is_base_name.ensures ∙ c.if-not-is_base_name.true) in
    let over = rw (c.place_under.ensures, c.take_property-base.ensures.found) at c.in_ok-over.ensures.laid in (
      e ∷ inv.0,
      split,
      c.in_ok-put_property.ensures ∙ ap (λ x. put x (view c.in_ok-over.over) taken) (sym c.as_str-key.ensures.value) ∙ ap (λ x. put k x taken) over ∙ c.take_property-base.ensures.others _ ∙ next.put,
    )

pub lay_properties-returns-in_err-over-clause-past : goal.lay_properties-returns-in_err-over-clause-past
lay_properties-returns-in_err-over-clause-past t c =
    let p = err_from_is_err_and c.from_residual.result c.from_residual.ensures.1 in
    let inv = c.loop-name.invariant in
    let e : Entry = (c.in-Some.name.now, c.in-Some.value.now) in
    let split : c.args.members.now.entries ≡ c.next.new.self.iter ++ e ∷ inv.0 = inv.1 ∙ ap (λ xs. xs ++ inv.0) c.in-Some.ensures.steps ∙ append_assoc c.next.new.self.iter (e ∷ []) inv.0 in
    let next = next_property (members_view c.args.aliases.now.entries) c.args.place c.next.new.self.iter inv.0 c.args.members.now.entries e c.as_str-key.result.now (members_view c.args.below.entries) (members_view c.loop-name.laid.entries) split (apart_of c.args.members.now.entries c.iter.ensures.ordered) inv.2 c.as_str-key.ensures.value (sym c.is_base_name.ensures ∙ c.if-not-is_base_name.true) in
    rw (p.1, p.2) (due_more c.in_err-over.field-0.0 c.args.limit _ _ next.part (rw (c.place_under.ensures, c.take_property-base.ensures.found) at c.in_err-over.ensures.past))

pub lay_over_entries-returns : goal.lay_over_entries-returns
lay_over_entries-returns t c =
    let l = c.loop-entry in
    let empty : into_iter_items l.entry-iterator ≡ [] = nil_from_length _ (sym l.invariant.count ∙ c.in-None.ensures.steps.0) in
    record { laid = sym (join_none (items_view l.entries.items)) ∙ (rw empty at l.invariant.laid); within = leaves_within c.args.limit l.room _ l.invariant.left; past = tt }

pub lay_over_entries-loop-entry-init : goal.lay_over_entries-loop-entry-init
lay_over_entries-loop-entry-init t c =
    let over = λ (b : Data). lay_over (members_view c.args.aliases.now.entries) (items_view c.args.own.now.items) b in
    record {
      laid = ap (λ xs. join_items (items_view xs) (map_items over (items_view (into_iter_items c.into_iter-entry-iterator.result)))) c.new-entries.ensures.items
          ∙ ap (λ xs. map_items over (items_view xs)) c.into_iter-entry-iterator.ensures.into_iter_gives.0;
      left = subst (λ vs. Leaves c.args.limit (items_size (items_view vs)) c.args.limit) (sym c.new-entries.ensures.items) (leaves_all c.args.limit);
      count = search rules;
    }

pub lay_over_entries-loop-entry-preserved : goal.lay_over_entries-loop-entry-preserved
lay_over_entries-loop-entry-preserved t c =
    let l = c.loop-entry in
    let next = rw c.in-Some.ensures.steps.0 at l.invariant.laid in
    record {
      laid = rw (c.in_ok-push.ensures.items, join_pushed, c.in_ok-laid.ensures.laid) next;
      left = rw c.in_ok-push.ensures.items (leaves_pushed c.args.limit l.room c.in_ok-room.room l.entries.items c.in_ok-laid.laid l.invariant.left c.in_ok-room.ensures.left);
      count =
          let before = l.invariant.count in
          let gone = c.in-Some.ensures.steps.1 in
          let short = ap length c.in-Some.ensures.steps.0 in
          omega (arith, before, gone, short);
    }

pub lay_new_entries-returns : goal.lay_new_entries-returns
lay_new_entries-returns t c =
    let l = c.loop-item in
    record {
      laid = sym (join_none (items_view l.entries.items))
          ∙ sym (at_drop_all (λ v. join_items (items_view l.entries.items) (lay_new (members_view c.args.aliases.now.entries) (items_view v) (items_view c.args.base.now.items))) c.args.own.now.items l.item-index (omega arith))
          ∙ l.invariant.laid;
      within = leaves_within c.args.limit l.room _ l.invariant.left;
      past = tt;
    }

pub lay_over_entries-returns-in_err-laid-clause-past : goal.lay_over_entries-returns-in_err-laid-clause-past
lay_over_entries-returns-in_err-laid-clause-past t c =
    let p = err_from_is_err_and c.from_residual-in_err-laid.result c.from_residual-in_err-laid.ensures.1 in
    let l = c.loop-entry in
    let next = rw c.in-Some.ensures.steps.0 at l.invariant.laid in
    rw (p.1, p.2) (due_next c.in_err-laid.field-0.0 c.args.limit l.room _ _ _ _ next l.invariant.left c.in_err-laid.ensures.past)

pub lay_over_entries-returns-in_err-room-clause-past : goal.lay_over_entries-returns-in_err-room-clause-past
lay_over_entries-returns-in_err-room-clause-past t c =
    let p = err_from_is_err_and c.from_residual-in_err-room.result c.from_residual-in_err-room.ensures.1 in
    let l = c.loop-entry in
    let next = rw c.in-Some.ensures.steps.0 at l.invariant.laid in
    let past : IsDue c.in_err-room.field-0.0 l.room (size (view c.in_ok-laid.laid)) = rw c.in_err-room.ensures.past.0 c.in_err-room.ensures.past.1 in
    rw (p.1, p.2) (due_next c.in_err-room.field-0.0 c.args.limit l.room _ _ _ _ next l.invariant.left (rw c.in_ok-laid.ensures.laid at past))

pub lay_new_entries-returns-in_err-room-clause-past : goal.lay_new_entries-returns-in_err-room-clause-past
lay_new_entries-returns-in_err-room-clause-past t c =
    let p = err_from_is_err_and c.from_residual-in_err-room.result c.from_residual-in_err-room.ensures.1 in
    let l = c.loop-item in
    let done = members_view c.args.aliases.now.entries in
    let seen = items_view c.args.base.now.items in
    let own = c.args.own.now.items in
    let rest = lay_new done (items_view (drop (l.item-index + 1) own)) seen in
    let base : c.in_ok-index.index.entries.now.items ≡ c.args.base.now.items = ap (λ v. v.items) c.in_ok-index.ensures in
    let next : join_items (items_view l.entries.items) (lay_new_entry done (view c.item-item.result) seen rest) ≡ lay_new done (items_view own) seen
    = ap (λ v. join_items (items_view l.entries.items) (lay_new_entry done (view v) seen rest)) (c.item-item.is ∙ ap (λ xs. get_or xs l.item-index c.item-item.result) c.deref-item-items.ensures.value)
    ∙ sym (at_drop_more (λ vs. join_items (items_view l.entries.items) (lay_new done (items_view vs) seen)) own l.item-index c.item-item.result (omega arith))
    ∙ l.invariant.laid in
    rw (p.1, p.2) (subst (λ ds. IsDue c.in_err-room.field-0.0 c.args.limit (items_size ds)) next (rw base at (c.in_err-room.ensures.past c.args.limit rest l.invariant.left)))

pub lay_new_entries-loop-item-preserved : goal.lay_new_entries-loop-item-preserved
lay_new_entries-loop-item-preserved t c =
    let base : c.in_ok-index.index.entries.now.items ≡ c.args.base.now.items = ap (λ v. v.items) c.in_ok-index.ensures in
    record { laid = grind (arith, common_steps, base); left = c.in_ok-room.ensures.left c.args.limit c.loop-item.invariant.left }

pub push_new_item-loop-name-init : goal.push_new_item-loop-name-init
push_new_item-loop-name-init t c =
    let done = members_view c.args.aliases.now.entries in
    let seen = items_view c.args.base.now.entries.now.items in
    let value : view c.args.item.now ≡ object (members_view c.in-Object.members.entries) = ap view c.in-Object.is ∙ view-Object c.in-Object.members in
    record {
      laid = λ rest.
          ap (λ es. join_items (items_view c.args.entries.now.items) (lay_new_member done (members_view es) seen rest)) (c.into_iter-name-iterator.ensures.into_iter_gives ∙ c.iter-name-items.ensures.rest)
          ∙ ap (λ d. join_items (items_view c.args.entries.now.items) (lay_new_entry done d seen rest)) (sym value);
      left = λ limit h. h;
    }

pub push_new_item-loop-name-preserved-in_ok-push : goal.push_new_item-loop-name-preserved-in_ok-push
push_new_item-loop-name-preserved-in_ok-push t c =
    let l = c.loop-name in
    let fresh : has_entry (string_bytes c.in-Some.name.now) (items_view c.args.base.now.entries.now.items) ≡ false = ap (λ x. has_entry x (items_view c.args.base.now.entries.now.items)) (sym c.as_str.ensures.value) ∙ sym c.has.ensures ∙ c.if-not-has.true in
    let next = λ (rest : Items). rw (c.in-Some.ensures.steps, fresh) at (l.invariant.laid rest) in
    let made = rw (c.in_ok-clone.ensures.cases, c.in_ok-laid.ensures.laid) at c.in_ok-entry.ensures in
    record {
      laid = λ rest. rw (c.in_ok-push.ensures.items, join_pushed, made) (next rest);
      left = λ limit h. rw c.in_ok-push.ensures.items (leaves_pushed limit l.left c.in_ok-left.left l.entries.items c.in_ok-entry.entry (l.invariant.left limit h) c.in_ok-left.ensures.left);
    }

pub push_new_item-returns-in_err-laid-clause-past : goal.push_new_item-returns-in_err-laid-clause-past
push_new_item-returns-in_err-laid-clause-past t c =
    let p = err_from_is_err_and c.from_residual.result c.from_residual.ensures.1 in
    let l = c.loop-name in
    let fresh : has_entry (string_bytes c.in-Some.name.now) (items_view c.args.base.now.entries.now.items) ≡ false = ap (λ x. has_entry x (items_view c.args.base.now.entries.now.items)) (sym c.as_str.ensures.value) ∙ sym c.has.ensures ∙ c.if-not-has.true in
    let next = λ (rest : Items). rw (c.in-Some.ensures.steps, fresh) at (l.invariant.laid rest) in
    let laid = lay (members_view c.args.aliases.now.entries) places.Member (view c.in-Some.value.now) None in
    let due : IsDue c.in_err-laid.field-0.0 l.left (suc (size laid + 0)) = due_more c.in_err-laid.field-0.0 l.left (size laid) _ (omega arith) c.in_err-laid.ensures.past in
    rw (p.1, p.2) (λ limit rest h. due_next c.in_err-laid.field-0.0 limit l.left _ _ _ _ (next rest) (l.invariant.left limit h) due)

pub push_new_item-returns-in_err-left-clause-past : goal.push_new_item-returns-in_err-left-clause-past
push_new_item-returns-in_err-left-clause-past t c =
    let p = err_from_is_err_and c.from_residual-in_err-left.result c.from_residual-in_err-left.ensures.1 in
    let l = c.loop-name in
    let fresh : has_entry (string_bytes c.in-Some.name.now) (items_view c.args.base.now.entries.now.items) ≡ false = ap (λ x. has_entry x (items_view c.args.base.now.entries.now.items)) (sym c.as_str.ensures.value) ∙ sym c.has.ensures ∙ c.if-not-has.true in
    let next = λ (rest : Items). rw (c.in-Some.ensures.steps, fresh) at (l.invariant.laid rest) in
    let made = rw (c.in_ok-clone.ensures.cases, c.in_ok-laid.ensures.laid) at c.in_ok-entry.ensures in
    let past : IsDue c.in_err-left.field-0.0 l.left (size (view c.in_ok-entry.entry)) = rw c.in_err-left.ensures.past.0 c.in_err-left.ensures.past.1 in
    rw (p.1, p.2) (λ limit rest h. due_next c.in_err-left.field-0.0 limit l.left _ _ _ _ (next rest) (l.invariant.left limit h) (rw made at past))
