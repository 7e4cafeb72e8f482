-- A value laid over what stands for other values is looked up among itself and those values.
use Rattle.std.proofs.Common.{arith, ◌≡◌, ℕ, suc, List, [], ◌∷◌, Option, Some, None, Bool, true, false, refl, sym, ap, ◌∙◌, subst, if◌then◌else◌, true≢false, inl, inr, bytes_eq}
use Rattle.std.proofs.lemmas.{Bool.{and_parts, cases_Bool, or_left, or_right}, Option.same_Some}
use Rattle.std.specs.List.{list_any}
use Rattle.serde_json.specs.{Data.{Data, string, array, object, Items, no_items, item, Members, no_members, member}, Find.get_member}
use Rattle.conf_table.specs.declared.place.Place.{Place}
use Rattle.conf_table.specs.declared.place.Place.TheVariants as places
use Rattle.conf_inherit.specs.FieldPlaces.{place_under, place_of_items, is_base_name, lists_members, names_alias, names_member_type, field_type_name}
use Rattle.conf_inherit.specs.Laying.{lay, has_entry, lay_base, lay_members, lay_over, lay_over_member, lay_new, lay_new_member, members_below}
use Rattle.conf_inherit.specs.Looks.{Chain, Looks, looks, Entries, no_entry, an_entry, base_of, if_objects, values_at, AreResolved, nothing, alias, member_alias, heir, own, a_list, plain, Shows, a_scalar, an_object, the_members, a_join, if_lists, IsPlain}
use Rattle.conf_inherit.specs.Names.{NoClash, properties_of, items_in, entries_of, entry_values, join_items, map_items, IsInOrder, names_of, new_names, cons_some, values_in, member_names, joined}
use Rattle.conf_inherit.specs.{Flaws.{known_in, is_outside, item_flaws, member_flaws, value_flaws, mark}, Named.{Names, all_named, all_named_in_items, all_named_in_members, has}}
use Rattle.conf_inherit.proofs.LayingLemmas.{cases_Option, has_found, each_has, same, other, meets, get_other, get_same, lay_base-own, lay_base-heir, in_order_lay, lay_members-base, lay_members-absent, lay_members-found, AllEntries, all_along, over_entries, over_found, new_entries, entry_found, all_joined, has_entry_names, over_absent, entry_names, entries_joined, found_each, no_values, some_is_none}
use Rattle.conf_inherit.proofs.SizeLemmas.{NoLarger, NoLargerItems, unchanged, items_through, one_more, next_value, further_value, turned_items, none_more, joined_behind, joined_larger, item_first, covered}
use Rattle.conf_inherit.proofs.FieldPlaceLemmas.{base_named, list_place, entry_place, inheriting_place, alias_place, member_value_place, member_type_place, type_is_no_base, alias_field, base_place, SamePlace}
use Rattle.conf_inherit.proofs.FaultLemmas.{SoundAt, sound_entries, passes_text, some_of, part_empty, joined_empty}
use Rattle.conf_tree.specs.{Flaw.{key, index, within}, Walk.HasMember}

-- what a base stands for: no values, or those that are looked up as it
abbrev pub StandsFor : Members → Place → List Data → Option Data → Type 0
StandsFor al s vs None = vs ≡ []
StandsFor al s vs (Some b) = Looks al s vs b

module _ (al done : Members) where
  -- laid over what stands for other values, it is looked up among itself and them
  abbrev pub Lays : Place → Data → Type 0
  Lays s v = (vs : List Data) (base : Option Data) → StandsFor al s vs base → Looks al s (v ∷ vs) (lay done s v base)

-- what the objects of a chain show, name by name
pub record Ground (al : Members) (s : Place) (cs : List Data) (acc : Members) : Type 0 where
  pub in_order : IsInOrder acc
  pub found : (k : List ℕ) (r : Data) → get_member k acc ≡ Some r → Looks al (place_under s k) (values_at s k cs) r
  pub absent : (k : List ℕ) → get_member k acc ≡ None → values_at s k cs ≡ []

module _ (al : Members) where
  no_values_at : (s : Place) (k : List ℕ) → values_at s k [] ≡ []
  no_values_at s k = elim (cases_Bool (is_base_name s k)) [ inl is ↦ rw is refl | inr is ↦ rw is refl ]

  values_at-base : (s : Place) (k : List ℕ) (cs : List Data) → is_base_name s k ≡ true → values_at s k cs ≡ []
  values_at-base s k cs is = rw is refl

  values_at-other : (s : Place) (k : List ℕ) (cs : List Data) → is_base_name s k ≡ false → values_at s k cs ≡ values_in k cs
  values_at-other s k cs is = rw is refl

  pub no_ground : (s : Place) → Ground al s [] no_members
  no_ground s = record { in_order = tt; found = λ k r e. cc; absent = λ k e. no_values_at s k }

  ground_scalar : (s : Place) (v : Data) → IsPlain s v → Ground al s (if_objects (v ∷ [])) (properties_of v)
  ground_scalar s (array es) p = absurd p
  ground_scalar s (object ms) p = absurd p
  ground_scalar s _ p = no_ground s

  pub ground_shown : {s : Place} {cs : List Data} {b : Data} → Shows al s cs b → Ground al s (if_objects cs) (properties_of b)
  ground_shown {s} (a_scalar {v = v} p) = ground_scalar s v p
  ground_shown (an_object o f g) = record { in_order = o; found = f; absent = g }
  ground_shown {s} (the_members m e) = no_ground s
  ground_shown {s} (a_join m) = no_ground s

  -- the chain of what a base stands for, and what its objects show
  pub ground_below : (s : Place) (vs : List Data) (base : Option Data) → StandsFor al s vs base → (cs : List Data) × Chain al s vs cs × Ground al s (if_objects cs) (members_below base)
  ground_below s vs None e = ([], subst (λ x. Chain al s x []) (sym e) nothing, no_ground s)
  ground_below s vs (Some b) (looks {cs = cs} c h) = (cs, c, ground_shown h)

  pub ground_along : (s : Place) (cs : List Data) (acc : Members) → SamePlace s → Ground al places.FieldType cs acc → Ground al s cs acc
  ground_along s cs acc alike g = record {
    in_order = g.in_order;
    found = λ k r e. subst (λ x. Looks al x (values_at s k cs) r) (sym (alike.under k)) (subst (λ b. Looks al (place_under places.FieldType k) (if b then [] else values_in k cs) r) (sym (alike.base k)) (g.found k r e));
    absent = λ k e. rw (alike.base k) (g.absent k e);
  }

module _ (al done : Members) where
  -- an object laid over what other objects show
  object_shown : (s : Place) (ms : Members) (cs : List Data) (acc : Members) → Ground al s cs acc
      → ((k : List ℕ) (d : Data) → get_member k ms ≡ Some d → Lays al done (place_under s k) d)
      → Shows al s (object ms ∷ cs) (object (lay_members done s ms acc))
  object_shown s ms cs acc g each = an_object (in_order_lay done s ms acc g.in_order) found absent
    where
      base_below : (k : List ℕ) (o : Option Data) → get_member k acc ≡ o → is_base_name s k ≡ false → StandsFor al (place_under s k) (values_in k cs) o
      base_below k None e is = sym (values_at-other al s k cs is) ∙ g.absent k e
      base_below k (Some b) e is = subst (λ x. Looks al (place_under s k) x b) (values_at-other al s k cs is) (g.found k b e)

      by_value : (k : List ℕ) (r : Data) (o : Option Data) → get_member k ms ≡ o → is_base_name s k ≡ false → get_member k (lay_members done s ms acc) ≡ Some r → Looks al (place_under s k) (cons_some o (values_in k cs)) r
      by_value k r None e is h = subst (λ x. Looks al (place_under s k) x r) (values_at-other al s k cs is) (g.found k r (sym (lay_members-absent done s k ms acc e) ∙ h))
      by_value k r (Some d) e is h =
          let f : Some (lay done (place_under s k) d (get_member k acc)) ≡ Some r = sym (lay_members-found done s k d ms acc is e) ∙ h in
          let same : lay done (place_under s k) d (get_member k acc) ≡ r = cc in
          subst (λ x. Looks al (place_under s k) (d ∷ values_in k cs) x) same (each k d e (values_in k cs) (get_member k acc) (base_below k (get_member k acc) refl is))

      found : (k : List ℕ) (r : Data) → get_member k (lay_members done s ms acc) ≡ Some r → Looks al (place_under s k) (values_at s k (object ms ∷ cs)) r
      found k r h = elim (cases_Bool (is_base_name s k)) [
        | inl is ↦ subst (λ x. Looks al (place_under s k) x r) (values_at-base al s k cs is ∙ sym (values_at-base al s k (object ms ∷ cs) is)) (g.found k r (sym (lay_members-base done s k ms acc is) ∙ h))
        | inr is ↦ subst (λ x. Looks al (place_under s k) x r) (sym (values_at-other al s k (object ms ∷ cs) is)) (by_value k r (get_member k ms) refl is h)
      ]

      absent : (k : List ℕ) → get_member k (lay_members done s ms acc) ≡ None → values_at s k (object ms ∷ cs) ≡ []
      absent k h = go (is_base_name s k) refl (get_member k ms) refl
        where
          go : (t : Bool) → is_base_name s k ≡ t → (o : Option Data) → get_member k ms ≡ o → values_at s k (object ms ∷ cs) ≡ []
          go true is o e = values_at-base al s k (object ms ∷ cs) is
          go false is None e = values_at-other al s k (object ms ∷ cs) is ∙ rw e (sym (values_at-other al s k cs is) ∙ g.absent k (sym (lay_members-absent done s k ms acc e) ∙ h))
          go false is (Some d) e = absurd (let f : Some (lay done (place_under s k) d (get_member k acc)) ≡ None = sym (lay_members-found done s k d ms acc is e) ∙ h in cc)

  -- the base's entries, each with the entry of its name over it
  entries_over : (es : Items) (cs : List Data) → ((n : List ℕ) (d : Data) → get_member n (entries_of es) ≡ Some d → Lays al done places.Member d)
      → {ns : List (List ℕ)} {rs : Items} → Entries al cs ns rs → Entries al (array es ∷ cs) ns (map_items (λ b. lay_over done es b) rs)
  entries_over es cs each no_entry = no_entry
  entries_over es cs each (an_entry {n = n} {r = r} {ns = ns} {rs = rs} l e) = elim (cases_Option (get_member n (entries_of es))) [
    | inl is ↦ (let kept = over_entries done es (object (member n r no_members)) ∙ over_absent done n r (entries_of es) (object (member n r no_members)) is in
        let here : Looks al places.Member (entry_values n (array es ∷ cs)) r = rw is l in
        subst (λ x. Entries al (array es ∷ cs) (n ∷ ns) (item x (map_items (λ b. lay_over done es b) rs))) (sym kept) (an_entry here (entries_over es cs each e)))
    | inr (d, is) ↦ (let laid = over_entries done es (object (member n r no_members)) ∙ over_found done n r (entries_of es) (object (member n r no_members)) d is in
        let here : Looks al places.Member (entry_values n (array es ∷ cs)) (lay done places.Member d (Some r)) = rw is (each n d is (entry_values n cs) (Some r) l) in
        subst (λ x. Entries al (array es ∷ cs) (n ∷ ns) (item x (map_items (λ b. lay_over done es b) rs))) (sym laid) (an_entry here (entries_over es cs each e)))
  ]

  -- the entries that the base has not
  entries_new : (es : Items) (cs : List Data) → ((n : List ℕ) (d : Data) → get_member n (entries_of es) ≡ Some d → Lays al done places.Member d)
      → (seen : Items) → ((n : List ℕ) → has_entry n seen ≡ list_any (bytes_eq n) (member_names cs))
      → (ms : Members) → AllEntries (λ n d. get_member n (entries_of es) ≡ Some d) ms
      → Entries al (array es ∷ cs) (new_names (member_names cs) (names_of ms)) (lay_new_member done ms seen no_items)
  entries_new es cs each seen agree no_members all = no_entry
  entries_new es cs each seen agree (member n d ms) all = elim (cases_Bool (list_any (bytes_eq n) (member_names cs))) [
    | inl is ↦ rw (is, agree n ∙ is) (entries_new es cs each seen agree ms all.1)
    | inr is ↦ (let below : StandsFor al places.Member (entry_values n cs) None = no_values n cs is in
        let here : Looks al places.Member (entry_values n (array es ∷ cs)) (lay done places.Member d None) = rw all.0 (each n d all.0 (entry_values n cs) None below) in
        rw (is, agree n ∙ is) (an_entry here (entries_new es cs each seen agree ms all.1)))
  ]

-- ---- what holds of each value without a flaw whose names are all resolved

module _ (al done : Members) (P : Place → Data → Type 0) (of_plain : (s : Place) (v : Data) → IsPlain s v → P s v)
    (of_text : (s : Place) (n : List ℕ) → (Names s → (r : Data) × (get_member n done ≡ Some r)) → P s (string n))
    (of_list : (s : Place) (es : Items) → (lists_members s ≡ true → NoClash (entries_of es)) → (lists_members s ≡ true → (n : List ℕ) (d : Data) → get_member n (entries_of es) ≡ Some d → P places.Member d) → P s (array es))
    (of_object : (s : Place) (ms : Members) → ((k : List ℕ) (d : Data) → HasMember k d ms → P (place_under s k) d) → P s (object ms)) where
  mutual
    pub of_sound : (v : Data) (s : Place) → SoundAt al s v → all_named (has done) s v ≡ true → P s v
    of_sound (string n) s h named = of_text s n (λ names. some_of (get_member n done) (passes_text (has done) s n names named))
    of_sound (array es) s h named =
        of_list s es (λ is. sound_entries al s es is h) (λ is. entry_found (λ n d. P places.Member d) (entries_of es) (of_entries es h.resolved h.outside s 0 no_members (list_place s is) (joined_empty _ _ h.sound).1 named))
    of_sound (object ms) s h named = of_object s ms (λ k d there. each_has (λ k d. P (place_under s k) d) ms k d (of_members ms h.resolved h.outside s h.seen (joined_empty _ _ h.sound).1 named) there)
    of_sound _ s h named = of_plain s _ tt

    of_members : (ms : Members) (resolved : Option Members) (outside : Bool) (s : Place) (seen : Members) → member_flaws (known_in al) resolved outside s seen ms ≡ [] → all_named_in_members (has done) s ms ≡ true → AllEntries (λ k d. P (place_under s k) d) ms
    of_members no_members resolved outside s seen h named = tt
    of_members (member k d ms) resolved outside s seen h named =
        let (mine, later) = part_empty (within (key k)) _ _ h in
        let parts = and_parts (all_named (has done) (place_under s k) d) (all_named_in_members (has done) s ms) named in
        let sound = (joined_empty _ _ mine).0 in
        (of_sound d (place_under s k) (record { resolved = resolved; outside = is_outside outside (place_under s k); taken = _; seen = no_members; sound = sound }) parts.0, of_members ms resolved outside s seen later parts.1)

    of_entries : (es : Items) (resolved : Option Members) (outside : Bool) (s : Place) (i : ℕ) (seen : Members) → place_of_items s ≡ places.Entry → item_flaws (known_in al) resolved outside s i seen es ≡ [] → all_named_in_items (has done) (place_of_items s) es ≡ true → AllEntries (λ n d. P places.Member d) (entries_of es)
    of_entries no_items resolved outside s i seen place h named = tt
    of_entries (item v es) resolved outside s i seen place h named =
        let (mine, later) = part_empty (within (index i)) _ _ h in
        let parts = and_parts (all_named (has done) (place_of_items s) v) (all_named_in_items (has done) (place_of_items s) es) named in
        all_joined (λ n d. P places.Member d) (properties_of v) (entries_of es)
        (of_entry v resolved outside seen (subst (λ t. value_flaws (known_in al) resolved outside t false seen v ≡ []) place mine) (subst (λ t. all_named (has done) t v ≡ true) place parts.0)) (of_entries es resolved outside s (suc i) (mark v seen) place later parts.1)

    of_entry : (v : Data) (resolved : Option Members) (outside : Bool) (seen : Members) → value_flaws (known_in al) resolved outside places.Entry false seen v ≡ [] → all_named (has done) places.Entry v ≡ true → AllEntries (λ n d. P places.Member d) (properties_of v)
    of_entry (object ms) resolved outside seen h named =
        all_along (λ k d. P (place_under places.Entry k) d) (λ n d. P places.Member d) (λ k d x. subst (λ t. P t d) (entry_place k) x) ms (of_members ms resolved outside places.Entry seen (joined_empty _ _ h).1 named)
    of_entry _ resolved outside seen h named = tt

-- ---- members lists and other lists

module _ (al done : Members) where
  plain_lists : (s : Place) (v : Data) → IsPlain s v → (items_in v ≡ no_items) × (if_lists (v ∷ []) ≡ [])
  plain_lists s (array es) p = absurd p
  plain_lists s _ p = (refl, refl)

  -- the items of a base, where lists are joined
  items_joined : {s : Place} {cs : List Data} {b : Data} → lists_members s ≡ false → Shows al s cs b → items_in b ≡ joined (if_lists cs)
  items_joined {s} single (a_scalar {v = v} p) = let (none, off) = plain_lists s v p in rw (none, off) refl
  items_joined single (an_object o f g) = refl
  items_joined single (the_members m e) = absurd (true≢false (sym m ∙ single))
  items_joined single (a_join m) = refl

  -- the entries of a base, at a members list
  pub base_entries : {s : Place} {cs : List Data} {b : Data} → lists_members s ≡ true → Shows al s cs b → Entries al (if_lists cs) (member_names (if_lists cs)) (items_in b)
  base_entries {s} named (a_scalar {v = v} p) = let (none, off) = plain_lists s v p in rw (none, off) no_entry
  base_entries named (an_object o f g) = no_entry
  base_entries named (the_members m e) = e
  base_entries named (a_join m) = absurd (true≢false (sym named ∙ m))

  list_shown : (s : Place) (es rs : Items) (cs : List Data) → lists_members s ≡ true → NoClash (entries_of es)
      → ((n : List ℕ) (d : Data) → get_member n (entries_of es) ≡ Some d → Lays al done places.Member d)
      → Entries al cs (member_names cs) rs
      → Shows al s (array es ∷ cs) (array (join_items (map_items (λ b. lay_over done es b) rs) (lay_new done es rs)))
  list_shown s es rs cs named apart each e =
      let old = entries_over al done es cs each e in
      let agree : (n : List ℕ) → has_entry n rs ≡ list_any (bytes_eq n) (member_names cs) = λ n. has_entry_names n rs ∙ ap (list_any (bytes_eq n)) (entry_names e) in
      let new = entries_new al done es cs each rs agree (entries_of es) (found_each (entries_of es) apart) in
      let same : lay_new_member done (entries_of es) rs no_items ≡ lay_new done es rs = sym (new_entries done es rs) in
      the_members named (entries_joined old (subst (λ x. Entries al (array es ∷ cs) (new_names (member_names cs) (names_of (entries_of es))) x) same new))

  module _ (known : AreResolved al done) where
    text_alias : (s : Place) (n : List ℕ) (r : Data) (vs : List Data) → names_alias s ≡ true → get_member n done ≡ Some r → Looks al s (string n ∷ vs) r
    text_alias s n r vs is f = let (w, e, l) = known n r f in through e l
      where
        through : {w : Data} → get_member n al ≡ Some w → Looks al places.FieldType (w ∷ []) r → Looks al s (string n ∷ vs) r
        through e (looks {cs = cs} c h) = looks (alias is e c) (subst (λ x. Shows al x cs r) (sym (alias_place s is)) h)

    text_member : (n : List ℕ) (r : Data) (vs : List Data) → names_member_type places.Member ≡ true → get_member n done ≡ Some r → Looks al places.Member (string n ∷ vs) (object (member field_type_name r no_members))
    text_member n r vs is f = looks (member_alias is) (subst (λ x. Shows al places.Member (object named ∷ []) (object x)) laid (object_shown al done places.Member named [] no_members (no_ground al places.Member) each))
      where
        named : Members
        named = member field_type_name (string n) no_members

        laid : lay_members done places.Member named no_members ≡ member field_type_name r no_members
        laid = rw (type_is_no_base, member_type_place, alias_field, f) refl

        type_at : Lays al done places.FieldType (string n)
        type_at ws base stands = rw (alias_field, f) (text_alias places.FieldType n r ws alias_field f)

        each : (k : List ℕ) (d : Data) → get_member k named ≡ Some d → Lays al done (place_under places.Member k) d
        each k d h = elim (meets k field_type_name) [
          | same e ↦ subst (λ t. Lays al done t d) (sym (ap (place_under places.Member) e ∙ member_type_place)) (subst (Lays al done places.FieldType) (same_Some (string n) d (sym (get_same k field_type_name (string n) no_members e) ∙ h)) type_at)
          | other apart ↦ absurd (some_is_none d (sym (sym (get_other k field_type_name (string n) no_members apart) ∙ h)))
        ]

    lays_text : (s : Place) (n : List ℕ) → (Names s → (r : Data) × (get_member n done ≡ Some r)) → Lays al done s (string n)
    lays_text s n ready vs base stands = elim (cases_Bool (names_alias s)) [
      | inl is ↦ (let (r, f) = ready (or_left (names_alias s) (names_member_type s) is) in rw (is, f) (text_alias s n r vs is f))
      | inr off ↦ elim (cases_Bool (names_member_type s)) [
        | inl is ↦ (let (r, f) = ready (or_right (names_alias s) (names_member_type s) is) in let place = member_value_place s is in
            rw (off, is, f) (subst (λ x. Looks al x (string n ∷ vs) (object (member field_type_name r no_members))) (sym place) (text_member n r vs (subst (λ x. names_member_type x ≡ true) place is) f)))
        | inr none ↦ (let plain_text : IsPlain s (string n) = (off, none) in rw (off, none) (looks (plain plain_text) (a_scalar plain_text)))
      ]
    ]

    -- what an object inherits from, where each of its values is looked up
    inherited : (s : Place) (ms : Members) → ((k : List ℕ) (d : Data) → HasMember k d ms → Lays al done (place_under s k) d) → (b : Data) → base_of s ms ≡ Some b → Looks al places.FieldType (b ∷ []) (lay done places.FieldType b None)
    inherited s ms each b e = let (k, is, there) = base_named s ms b e in subst (λ x. Lays al done x b) (base_place s k is) (each k b there) [] None refl

    lays_object : (s : Place) (ms : Members) → ((k : List ℕ) (d : Data) → HasMember k d ms → Lays al done (place_under s k) d) → Lays al done s (object ms)
    lays_object s ms each vs base stands = elim (cases_Option (base_of s ms)) [
      | inl e ↦ (let (cs, c, g) = ground_below al s vs base stands in rw (lay_base-own done s ms base e) (looks (own e c) (object_shown al done s ms (if_objects cs) (members_below base) g found)))
      | inr (b, e) ↦ heir_at b e (inherited s ms each b e)
    ]
      where
        found : (k : List ℕ) (d : Data) → get_member k ms ≡ Some d → Lays al done (place_under s k) d
        found k d h = each k d (has_found k d ms h)

        heir_at : (b : Data) → base_of s ms ≡ Some b → Looks al places.FieldType (b ∷ []) (lay done places.FieldType b None) → Looks al s (object ms ∷ vs) (object (lay_members done s ms (members_below (lay_base done s ms base))))
        heir_at b e (looks {cs = cs} c h) = rw (lay_base-heir done s ms base b e)
            (looks (heir e c) (object_shown al done s ms (if_objects cs) (properties_of (lay done places.FieldType b None)) (ground_along al s (if_objects cs) (properties_of (lay done places.FieldType b None)) (inheriting_place s ms b e) (ground_shown al h)) found))

    lays_list : (s : Place) (es : Items) → (lists_members s ≡ true → NoClash (entries_of es))
        → (lists_members s ≡ true → (n : List ℕ) (d : Data) → get_member n (entries_of es) ≡ Some d → Lays al done places.Member d) → Lays al done s (array es)
    lays_list s es apart each vs base stands = go (lists_members s) refl base stands
      where
        go : (t : Bool) → lists_members s ≡ t → (base : Option Data) → StandsFor al s vs base → Looks al s (array es ∷ vs) (lay done s (array es) base)
        go true is None e = rw is (looks (a_list (subst (λ x. Chain al s x []) (sym e) nothing)) (list_shown s es no_items [] is (apart is) (each is) no_entry))
        go true is (Some b) (looks {cs = cs} c h) = rw is (looks (a_list c) (list_shown s es (items_in b) (if_lists cs) is (apart is) (each is) (base_entries is h)))
        go false is None e = rw is (looks (a_list (subst (λ x. Chain al s x []) (sym e) nothing)) (a_join is))
        go false is (Some b) (looks {cs = cs} c h) = rw (is, items_joined is h) (looks (a_list c) (a_join is))

    lays_plain : (s : Place) (v : Data) → IsPlain s v → Lays al done s v
    lays_plain s (string n) p vs base stands = rw (p.0, p.1) (looks (plain {v = string n} p) (a_scalar {v = string n} p))
    lays_plain s (array es) p vs base stands = absurd p
    lays_plain s (object ms) p vs base stands = absurd p
    lays_plain s _ p vs base stands = looks (plain p) (a_scalar p)

    pub lays : (v : Data) (s : Place) → SoundAt al s v → all_named (has done) s v ≡ true → Lays al done s v
    lays v s sound named = of_sound al done (Lays al done) lays_plain lays_text (λ s es clear each. lays_list s es clear each) (λ s ms each. lays_object s ms each) v s sound named

-- A value laid over nothing is no larger than laid over a base.

-- the entry of a name, laid over nothing
abbrev pub laid_entry : Members → List ℕ → Data → Data
laid_entry done n d = object (member n (lay done places.Member d None) no_members)

one_value : (n : List ℕ) (d e : Data) → NoLarger d e → NoLarger (object (member n d no_members)) (object (member n e no_members))
one_value n d e h = one_more (next_value d e h none_more)

module _ (al done : Members) where
  -- laid over nothing, it is no larger than over what stands for other values
  abbrev pub Grows : Place → Data → Type 0
  Grows s v = (vs : List Data) (base : Option Data) → StandsFor al s vs base → NoLarger (lay done s v None) (lay done s v base)

  -- what a base has at a name stands for the values that its chain has there
  pub property_stands : (s : Place) (k : List ℕ) (cs : List Data) (base : Members) → Ground al s cs base → (vs : List Data) × StandsFor al (place_under s k) vs (get_member k base)
  property_stands s k cs base g = elim (cases_Option (get_member k base)) [ inl e ↦ ([], rw e refl) | inr (b, e) ↦ (values_at s k cs, rw e (g.found k b e)) ]

  -- what an object is laid over, where nothing else is below it
  pub ground_base : AreResolved al done → (s : Place) (ms : Members) → ((k : List ℕ) (d : Data) → HasMember k d ms → Lays al done (place_under s k) d) → (cs : List Data) × Ground al s cs (members_below (lay_base done s ms None))
  ground_base known s ms each = elim (cases_Option (base_of s ms)) [
    | inl e ↦ rw (lay_base-own done s ms None e) ([], no_ground al s)
    | inr (b, e) ↦ rw (lay_base-heir done s ms None b e) (heir_at b e (inherited al done known s ms each b e))
  ]
    where
      heir_at : (b : Data) → base_of s ms ≡ Some b → Looks al places.FieldType (b ∷ []) (lay done places.FieldType b None) → (cs : List Data) × Ground al s cs (members_below (Some (lay done places.FieldType b None)))
      heir_at b e (looks {cs = cs} c h) = (if_objects cs, ground_along al s (if_objects cs) (properties_of (lay done places.FieldType b None)) (inheriting_place s ms b e) (ground_shown al h))

  module _ (s : Place) (ms : Members) (each : (k : List ℕ) (d : Data) → get_member k ms ≡ Some d → Grows (place_under s k) d) where
    -- a property that is laid over nothing, and over the base's
    laid_larger : (k : List ℕ) (v d : Data) (cs : List Data) (base : Members) → Ground al s cs base → is_base_name s k ≡ false → get_member k ms ≡ Some v
        → get_member k (lay_members done s ms no_members) ≡ Some d → (e : Data) × (get_member k (lay_members done s ms base) ≡ Some e) × NoLarger d e
    laid_larger k v d cs base g is found there =
        let (vs, stands) = property_stands s k cs base g in
        let laid = same_Some (lay done (place_under s k) v None) d (sym (lay_members-found done s k v ms no_members is found) ∙ there) in
        (lay done (place_under s k) v (get_member k base), lay_members-found done s k v ms base is found, subst (λ x. NoLarger x (lay done (place_under s k) v (get_member k base))) laid (each k v found vs (get_member k base) stands))

    property_larger : (k : List ℕ) (d : Data) (cs : List Data) (base : Members) → Ground al s cs base → get_member k (lay_members done s ms no_members) ≡ Some d
        → (e : Data) × (get_member k (lay_members done s ms base) ≡ Some e) × NoLarger d e
    property_larger k d cs base g there = go (is_base_name s k) refl (get_member k ms) refl
      where
        go : (t : Bool) → is_base_name s k ≡ t → (o : Option Data) → get_member k ms ≡ o → (e : Data) × (get_member k (lay_members done s ms base) ≡ Some e) × NoLarger d e
        go true is o found = absurd (some_is_none d (sym there ∙ lay_members-base done s k ms no_members is))
        go false is None found = absurd (some_is_none d (sym there ∙ lay_members-absent done s k ms no_members found))
        go false is (Some v) found = laid_larger k v d cs base g is found there

    own_larger : (cs : List Data) (base : Members) → Ground al s cs base → NoLarger (object (lay_members done s ms no_members)) (object (lay_members done s ms base))
    own_larger cs base g = one_more
        (covered (lay_members done s ms base) (lay_members done s ms no_members) (in_order_lay done s ms no_members tt) (in_order_lay done s ms base g.in_order) (λ k d there. property_larger k d cs base g there))

    grows_object : Grows s (object ms)
    grows_object vs base stands = elim (cases_Option (base_of s ms)) [
      | inl e ↦ (let (cs, c, g) = ground_below al s vs base stands in rw (lay_base-own done s ms base e, lay_base-own done s ms None e) (own_larger (if_objects cs) (members_below base) g))
      | inr (b, e) ↦ rw (lay_base-heir done s ms base b e, lay_base-heir done s ms None b e) unchanged
    ]

  -- an entry of the base that the list has not leaves what is new
  new_absent : (n : List ℕ) (r : Data) (rs : Items) (ms : Members) → get_member n ms ≡ None → lay_new_member done ms rs no_items ≡ lay_new_member done ms (item (object (member n r no_members)) rs) no_items
  new_absent n r rs no_members h = refl
  new_absent n r rs (member m d ms) h = elim (meets m n) [
    | same e ↦ absurd (some_is_none d (sym (get_same n m d ms (sym e)) ∙ h))
    | other apart ↦ grind (arith, get_other m n r no_members apart, get_other n m d ms (λ e. apart (sym e)), new_absent n r rs ms)
  ]

  -- one that the list has takes one from what is new
  new_found : (n : List ℕ) (r v : Data) (rs : Items) (ms : Members) → NoClash ms → get_member n ms ≡ Some v
      → NoLargerItems (lay_new_member done ms rs no_items) (item (laid_entry done n v) (lay_new_member done ms (item (object (member n r no_members)) rs) no_items))
  new_found n r v rs no_members clear h = absurd (some_is_none v (sym h))
  new_found n r v rs (member m d ms) clear h =
      let seen = item (object (member n r no_members)) rs in
      let old = lay_new_member done ms rs no_items in
      let new = lay_new_member done ms seen no_items in
      elim (meets m n) [
        | same e ↦ (let at = get_same m n r no_members e in
            let one = ap (λ x. laid_entry done x d) e ∙ ap (laid_entry done n) (same_Some d v (sym (get_same n m d ms (sym e)) ∙ h)) in
            let later : NoLargerItems old new = subst (NoLargerItems old) (new_absent n r rs ms (subst (λ x. get_member x ms ≡ None) e clear.0)) unchanged in
            elim (cases_Bool (has_entry m rs)) [
              | inl is ↦ rw (at, is) (further_value (laid_entry done n v) later)
              | inr is ↦ rw (at, is) (next_value (laid_entry done m d) (laid_entry done n v) (subst (NoLarger (laid_entry done m d)) one unchanged) later)
            ])
        | other apart ↦ (let at = get_other m n r no_members apart in
            let later = new_found n r v rs ms clear.1 (sym (get_other n m d ms (λ e. apart (sym e))) ∙ h) in
            elim (cases_Bool (has_entry m rs)) [
              | inl is ↦ rw (at, is) later
              | inr is ↦ rw (at, is) (items_through (next_value (laid_entry done m d) (laid_entry done m d) unchanged later) (turned_items (laid_entry done m d) (laid_entry done n v) new))
            ])
      ]

  module _ (es : Items) (clear : NoClash (entries_of es)) (each : (n : List ℕ) (d : Data) → get_member n (entries_of es) ≡ Some d → Grows places.Member d) where
    -- one entry of the base more
    entry_larger : (n : List ℕ) (r : Data) (vs : List Data) (rs : Items) → Looks al places.Member vs r
        → NoLargerItems (lay_new done es rs) (item (lay_over done es (object (member n r no_members))) (lay_new done es (item (object (member n r no_members)) rs)))
    entry_larger n r vs rs looked =
        let base = object (member n r no_members) in
        let old = lay_new_member done (entries_of es) rs no_items in
        let new = lay_new_member done (entries_of es) (item base rs) no_items in
        rw (new_entries done es rs, new_entries done es (item base rs), over_entries done es base)
        (elim (cases_Option (get_member n (entries_of es))) [
          | inl is ↦ further_value (lay_over_member done (entries_of es) base base) (subst (NoLargerItems old) (new_absent n r rs (entries_of es) is) unchanged)
          | inr (v, is) ↦ subst (λ x. NoLargerItems old (item x new)) (sym (over_found done n r (entries_of es) base v is)) (items_through (new_found n r v rs (entries_of es) clear is)
              (next_value (laid_entry done n v) (object (member n (lay done places.Member v (Some r)) no_members)) (one_value n (lay done places.Member v None) (lay done places.Member v (Some r)) (each n v is vs (Some r) looked)) unchanged))
        ])

    -- the list laid over nothing, and over the base's entries
    entries_larger : {cs : List Data} {ns : List (List ℕ)} {rs : Items} → Entries al cs ns rs → NoLargerItems (lay_new done es no_items) (join_items (map_items (λ b. lay_over done es b) rs) (lay_new done es rs))
    entries_larger no_entry = unchanged
    entries_larger {cs} (an_entry {n = n} {r = r} {rs = rs} l e) =
        let b = object (member n r no_members) in
        let over = map_items (λ x. lay_over done es x) rs in
        let new = lay_new done es (item b rs) in
        items_through (entries_larger e) (items_through
        (joined_larger over (lay_new done es rs) (item (lay_over done es b) new) (entry_larger n r (entry_values n cs) rs l))
        (item_first over (lay_over done es b) new))

  grows_list : (s : Place) (es : Items) → (lists_members s ≡ true → NoClash (entries_of es)) → (lists_members s ≡ true → (n : List ℕ) (d : Data) → get_member n (entries_of es) ≡ Some d → Grows places.Member d) → Grows s (array es)
  grows_list s es clear each vs base stands = go (lists_members s) refl base stands
    where
      go : (t : Bool) → lists_members s ≡ t → (base : Option Data) → StandsFor al s vs base → NoLarger (lay done s (array es) None) (lay done s (array es) base)
      go t is None e = unchanged
      go true is (Some b) (looks {cs = cs} c h) = rw is
          (one_more (entries_larger es (clear is) (each is) (base_entries al done is h)))
      go false is (Some b) l = rw is (one_more (joined_behind (items_in b) es es unchanged))

  plain_grows : (s : Place) (v : Data) → IsPlain s v → Grows s v
  plain_grows s (array es) p vs base stands = absurd p
  plain_grows s (object ms) p vs base stands = absurd p
  plain_grows s (string n) p vs base stands = unchanged
  plain_grows s v p vs base stands = unchanged

  pub grows : (v : Data) (s : Place) → SoundAt al s v → all_named (has done) s v ≡ true → Grows s v
  grows v s sound named = of_sound al done Grows plain_grows (λ s n named vs base stands. unchanged) grows_list (λ s ms each. grows_object s ms (λ k d h. each k d (has_found k d ms h))) v s sound named
