-- Where nothing is wrong with a configuration, each field type in it fits by itself.
use Rattle.std.proofs.Common.{◌≡◌, inl, inr, ◌&&◌, ◌||◌, ℕ, zero, suc, Bool, true, false, not, true≢false, List, [], ◌∷◌, Some, None, is_some, refl, sym, subst, ap, ◌∙◌, arith}
use Rattle.std.proofs.lemmas.{Bool.{cases_Bool, and_parts, not-true}, Option.same_Some}
use Rattle.serde_json.specs.{Data.{Data, array, object, Items, no_items, item, Members, no_members, member}, Find.{get_item, get_member}}
use Rattle.conf_tree.specs.{Flaw.{Place as Step, key, index}, Order.{Ascends, ItemsAscend}, Walk.HasMember}
use Rattle.conf_table.specs.{declared.place.Place.Place, Table.{rows_of, entries_of, content_under, place_in}}
use Rattle.conf_inherit.specs.FieldPlaces.{field_place, place_under, place_of_items, names_alias, names_member_type, names_type, is_base_name, lists_members, is_entry}
use Rattle.conf_inherit.specs.{Faults.Leads, Limits.{Fits}, Flaws.{is_wrong, is_no_entry, known_in, is_alone, is_outside, value_flaws, whole_flaws}}
use Rattle.conf_inherit.specs.{Laying.{lay, lay_base, lay_members, lay_new, lay_new_entry, lay_new_member, has_entry, members_below}, Named.{Names, all_named, has}}
use Rattle.conf_inherit.specs.Looks.{AreResolved}
use Rattle.conf_inherit.proofs.{LaysOver.{laid_entry, property_stands, ground_base, lays, grows}, LayingLemmas.{each_has, has_found, lay_members-found, found_each}}
use Rattle.conf_inherit.proofs.FaultLemmas.{SoundAt, named, own_sound, single_entry, joined_empty, member_sound, item_sound, sound_under}
use Rattle.conf_inherit.proofs.SizeLemmas.{NoLargerItems, unchanged, items_through, next_value, further_value, none_more, fits_below, property_fits, item_fits}
use Rattle.conf_inherit.proofs.{LookedUp.{apart, member_in_order}, LimitLemmas.{alone_limit, limit_fits}}
use Rattle.conf_inherit.proofs.FieldPlaceLemmas.{list_place, unlisted_place, ignored_under}
use Rattle.conf_table.specs.declared.place.Place.TheVariants as places

-- no text in a list is the name of an alias
items_untyped : (s : Place) → names_type (place_of_items s) ≡ false
unfolding place_of_items names_alias names_member_type
items_untyped places.Members = refl
items_untyped places.ExtraMembers = refl
items_untyped _ = refl

item_in_order : (es : Items) (i : ℕ) (d : Data) → ItemsAscend es → get_item i es ≡ Some d → Ascends d
item_in_order no_items i d each there = absurd cc
item_in_order (item e es) zero d each there = subst Ascends (same_Some e d there) each.0
item_in_order (item e es) (suc i) d each there = item_in_order es i d each.1 there

-- ---- the entries of a members list that is laid over nothing

module _ (done : Members) where
  behind_members : (ms : Members) (seen rest : Items) → NoLargerItems rest (lay_new_member done ms seen rest)
  behind_members no_members seen rest = unchanged
  behind_members (member n d ms) seen rest = elim (cases_Bool (has_entry n seen)) [
    | inl is ↦ rw is (behind_members ms seen rest)
    | inr is ↦ rw is (further_value (laid_entry done n d) (behind_members ms seen rest))
  ]

  behind_entry : (e : Data) (seen rest : Items) → NoLargerItems rest (lay_new_entry done e seen rest)
  behind_entry (object ms) seen rest = behind_members ms seen rest
  behind_entry _ seen rest = unchanged

  -- an entry of one property stands in the list
  entry_stands : (es : Items) (i : ℕ) (n : List ℕ) (d : Data) → get_item i es ≡ Some (object (member n d no_members)) → NoLargerItems (item (laid_entry done n d) no_items) (lay_new done es no_items)
  entry_stands no_items i n d there = absurd cc
  entry_stands (item e es) zero n d there =
      subst (λ x. NoLargerItems (item (laid_entry done n d) no_items) (lay_new_entry done x no_items (lay_new done es no_items))) (sym (same_Some e (object (member n d no_members)) there))
      (next_value (laid_entry done n d) (laid_entry done n d) unchanged none_more)
  entry_stands (item e es) (suc i) n d there =
      items_through (entry_stands es i n d there) (behind_entry e no_items (lay_new done es no_items))

  -- an entry by itself is laid as it is in its list
  entry_laid : (n : List ℕ) (d : Data) → lay done places.Entry (object (member n d no_members)) None ≡ laid_entry done n d
  unfolding place_under content_under entries_of rows_of place_in field_place is_base_name
  entry_laid n d = refl

  list_laid : (s : Place) (es : Items) → lists_members s ≡ true → Fits (lay done s (array es) None) → Fits (array (lay_new done es no_items))
  list_laid s es is h = rw is at h

  entry_fits : (s : Place) (es : Items) (i : ℕ) (e : Data) → lists_members s ≡ true → is_no_entry e ≡ false → get_item i es ≡ Some e → Fits (lay done s (array es) None) → Fits (lay done places.Entry e None)
  entry_fits s es i (object (member n d no_members)) is single there h =
      subst Fits (sym (entry_laid n d)) (item_fits (laid_entry done n d) (lay_new done es no_items) (entry_stands es i n d there) (list_laid s es is h))
  entry_fits s es i (object (member n d (member m c ms))) is single there h = absurd (true≢false single)
  entry_fits s es i (object no_members) is single there h = absurd (true≢false single)
  entry_fits s es i _ is single there h = absurd (true≢false single)

-- ---- all of a configuration

inside_alone : (base out type : Bool) → (base || (out && type)) ≡ false → (out && not type) ≡ false → (base ≡ false) × (out ≡ false)
inside_alone base out type alone inside = grind arith

module _ (al done : Members) (known : AreResolved al done) (all : (n : List ℕ) → has al n ≡ true → has done n ≡ true) where
  -- nothing is wrong with a value, and what is no part of a field type is none; any other, laid over nothing, fits
  pub record IsFit (s : Place) (v : Data) : Type 0 where
    pub outside : Bool
    pub taken : Bool
    pub seen : Members
    pub sound : value_flaws (known_in al) (Some done) outside s taken seen v ≡ []
    pub in_order : Ascends v
    pub untyped : outside ≡ true → names_type s ≡ false
    pub whole : outside ≡ false → (s ≡ places.Ignored → ⊥) → Fits (lay done s v None)

  pub fit_sound : (s : Place) (v : Data) → IsFit s v → SoundAt al s v
  fit_sound s v h = record { resolved = Some done; outside = h.outside; taken = h.taken; seen = h.seen; sound = h.sound }

  pub sound_named : (s : Place) (v : Data) → SoundAt al s v → all_named (has done) s v ≡ true
  sound_named s v h = named al h.resolved (has done) all v h.outside s h.taken h.seen h.sound

  -- a field type that is no part of another, or a property of one
  property_fit : (s : Place) (ms : Members) (k : List ℕ) (d : Data) (h : IsFit s (object ms)) → HasMember k d ms → is_outside h.outside (place_under s k) ≡ false → (s ≡ places.Ignored → ⊥) → Fits (lay done (place_under s k) d None)
  property_fit s ms k d h there inside known_place =
      let t = place_under s k in
      let sound = fit_sound s (object ms) h in
      let part = sound_under al s ms k d sound there in
      let whole_named = sound_named t d part in
      elim (cases_Bool (is_alone h.outside s k)) [
        | inl is ↦ (let none = (member_sound (known_in al) (Some done) h.outside s h.seen ms k d (joined_empty _ _ h.sound).1 there).1 in
            (limit_fits done t d).0 (sym (alone_limit (Some done) h.outside s k d is) ∙ none) whole_named)
        | inr is ↦ (let (no_base, within) = inside_alone (is_base_name s k) h.outside (names_type t) is inside in
            let base = members_below (lay_base done s ms None) in
            let found = each_has (λ n e. get_member n ms ≡ Some e) ms k d (found_each ms (apart ms h.in_order.0)) there in
            let (cs, g) = ground_base al done known s ms (λ n e at. let one = sound_under al s ms n e sound at in lays al done known e (place_under s n) one (sound_named (place_under s n) e one)) in
            let (vs, stands) = property_stands al done s k cs base g in
            let laid = lay done t d (get_member k base) in
            fits_below (lay done t d None) laid (grows al done d t part whole_named vs (get_member k base) stands)
            (property_fits k laid (lay_members done s ms base) (has_found k _ _ (lay_members-found done s k d ms base no_base found)) (h.whole within known_place)))
      ]

  fit_under : (s : Place) (ms : Members) (k : List ℕ) (d : Data) → IsFit s (object ms) → HasMember k d ms → IsFit (place_under s k) d
  fit_under s ms k d h there =
      let t = place_under s k in
      record {
        outside = is_outside h.outside t;
        taken = is_entry s && is_some (get_member k h.seen);
        seen = no_members;
        sound = (member_sound (known_in al) (Some done) h.outside s h.seen ms k d (joined_empty _ _ h.sound).1 there).0;
        in_order = member_in_order ms k d h.in_order.1 there;
        untyped = λ out. not-true (names_type t) (and_parts h.outside (not (names_type t)) out).1;
        whole = λ inside away. property_fit s ms k d h there inside (λ is. away (ap (λ x. place_under x k) is ∙ ignored_under k));
      }

  fit_item : (s : Place) (es : Items) (i : ℕ) (e : Data) → IsFit s (array es) → get_item i es ≡ Some e → IsFit (place_of_items s) e
  unfolding place_of_items
  fit_item s es i e h there =
      let (before, none) = item_sound (known_in al) (Some done) h.outside s 0 no_members es i e (joined_empty _ _ h.sound).1 there in
      let right = (own_sound (known_in al) (place_of_items s) false e (joined_empty _ _ none).0).right in
      record {
        outside = h.outside;
        taken = false;
        seen = before;
        sound = none;
        in_order = item_in_order es i e h.in_order there;
        untyped = λ out. items_untyped s;
        whole = λ inside away. elim (cases_Bool (lists_members s)) [
          | inl is ↦ (let place = list_place s is in
              subst (λ t. Fits (lay done t e None)) (sym place) (entry_fits done s es i e is (single_entry e (subst (λ t. is_wrong t e ≡ false) place right)) there (h.whole inside (λ no. away (ap place_of_items no)))))
          | inr is ↦ absurd (away (unlisted_place s is))
        ];
      }

  -- so is each value that a path leads to
  pub fit_along : (path : List Step) (s : Place) (v : Data) (t : Place) (w : Data) → IsFit s v → Leads s v path t w → IsFit t w
  fit_along [] s v t w h (place, value) = subst (λ x. IsFit x w) place (subst (IsFit s) value h)
  fit_along (key k ∷ path) s v t w h (ms, d, is, there, leads) = fit_along path (place_under s k) d t w (fit_under s ms k d (subst (IsFit s) is h) there) leads
  fit_along (index i ∷ path) s v t w h (es, d, is, there, leads) = fit_along path (place_of_items s) d t w (fit_item s es i d (subst (IsFit s) is h) there) leads

  pub root_fit : (v : Data) → Ascends v → whole_flaws al done v ≡ [] → IsFit places.Root v
  unfolding names_alias names_member_type
  root_fit v ordered none = record { outside = true; taken = false; seen = no_members; sound = none; in_order = ordered; untyped = λ out. refl; whole = λ inside. absurd (true≢false inside) }

  -- each field type fits by itself
  pub type_fit : (s : Place) (v : Data) → IsFit s v → Names s → Fits (lay done s v None)
  unfolding names_alias names_member_type
  type_fit s v h names = elim (cases_Bool h.outside) [
    | inl out ↦ absurd (true≢false (sym names ∙ h.untyped out))
    | inr inside ↦ h.whole inside (λ is. true≢false (sym names ∙ ap names_type is))
  ]
