-- Values are looked up as at most one.
use Rattle.std.proofs.Common.{inr, inl, ◌≡◌, ◌<◌, ℕ, zero, suc, arith, List, [], ◌∷◌, Option, Some, None, true, true≢false, refl, sym, ap, ◌∙◌, subst, option_and_then, false, option_map}
use Rattle.std.proofs.lemmas.{Bool.{cases_Bool, or_parts, or_from}, Option.same_Some}
use Rattle.std.specs.List.{AllByRecursion}
use Rattle.serde_json.specs.Data.{Data, array, object, Items, item, Members, no_members, member, string, no_items, null, boolean, number, put}
use Rattle.serde_json.specs.{Find.{get_member, get}, Written.{has_float, items_have_float, members_have_float}}
use Rattle.serde_json.specs.Read.{number_of, of_json, of_items, of_members, max_depth, read}
use Rattle.conf_table.specs.declared.place.Place.{Place}
use Rattle.conf_table.specs.declared.place.Place.TheVariants as places
use Rattle.conf_inherit.specs.FieldPlaces.{place_under, names_alias, names_member_type, is_base_name, field_type_name}
use Rattle.conf_inherit.specs.Looks.{Chain, nothing, alias, member_alias, heir, own, a_list, plain, Looks, looks, Shows, a_scalar, an_object, the_members, a_join, Entries, no_entry, an_entry, if_objects, if_lists, values_at, base_of}
use Rattle.conf_inherit.specs.Names.{properties_of, items_in, entries_of, join_members, join_items, cons_some, values_in, entry_values, joined, NoClash}
use Rattle.conf_inherit.specs.Resolution.{members_or_none, trace_name, type_name, aliases_name, aliases_of, Resolves}
use Rattle.conf_inherit.proofs.LayingLemmas.{some_is_none, each_has, has_found, same_members, get_none, AllEntries, all_along, all_joined, entry_found, found_each, in_order_put, put_keeps}
use Rattle.conf_inherit.proofs.FieldPlaceLemmas.{base_named}
use Rattle.conf_inherit.specs.Faults.{HasEntry}
use Rattle.conf_tree.specs.{Order.{IsInOrder, Ascends, ItemsAscend, MembersAscend}, Walk.{HasMember, IsTreeOf}}
use Rattle.json.specs.Json as json
use Rattle.json.specs.Lex.{tokens}

-- a text names an alias, or a member's type, and not both
pub one_name : (s : Place) → names_alias s ≡ true → names_member_type s ≡ true → ⊥
unfolding names_alias names_member_type
one_name places.FieldType p q = true≢false (sym q)
one_name _ p q = true≢false (sym p)

module _ (al : Members) where
  along : {w w' : Data} {ds : List Data} {o : Option Data} → o ≡ Some w → o ≡ Some w' → Chain al places.FieldType (w' ∷ []) ds → Chain al places.FieldType (w ∷ []) ds
  along {w} {w'} {ds} p q c = let same : w' ≡ w = cc in subst (λ x. Chain al places.FieldType (x ∷ []) ds) same c

  pub one_chain : {s : Place} {vs cs ds : List Data} → Chain al s vs cs → Chain al s vs ds → cs ≡ ds
  one_chain nothing nothing = refl
  one_chain (alias p q c) (alias p' q' c') = one_chain c (along q q' c')
  one_chain {s} (alias p q c) (member_alias p') = absurd (one_name s p p')
  one_chain (alias p q c) (plain h) = absurd (true≢false (sym p ∙ h.0))
  one_chain {s} (member_alias p) (alias p' q' c') = absurd (one_name s p' p)
  one_chain (member_alias p) (member_alias p') = refl
  one_chain (member_alias p) (plain h) = absurd (true≢false (sym p ∙ h.1))
  one_chain (heir {ms = ms} p c) (heir p' c') = ap (λ x. object ms ∷ if_objects x) (one_chain c (along p p' c'))
  one_chain (heir p c) (own p' c') = cc
  one_chain (heir p c) (plain h) = absurd h
  one_chain (own p c) (heir p' c') = cc
  one_chain (own {ms = ms} p c) (own p' c') = ap (λ x. object ms ∷ if_objects x) (one_chain c c')
  one_chain (own p c) (plain h) = absurd h
  one_chain (a_list {es = es} c) (a_list c') = ap (λ x. array es ∷ if_lists x) (one_chain c c')
  one_chain (a_list c) (plain h) = absurd h
  one_chain (plain h) (alias p' q' c') = absurd (true≢false (sym p' ∙ h.0))
  one_chain (plain h) (member_alias p') = absurd (true≢false (sym p' ∙ h.1))
  one_chain (plain h) (heir p' c') = absurd h
  one_chain (plain h) (own p' c') = absurd h
  one_chain (plain h) (a_list c') = absurd h
  one_chain (plain h) (plain h') = refl

  pub no_reading : {s : Place} {r : Data} → Looks al s [] r → ⊥
  no_reading (looks nothing h) = elim h [ ]

  -- two readings of one name agree
  by_name : (t : Place) (vs : List Data) (o q : Option Data) → ((r r' : Data) → o ≡ Some r → q ≡ Some r' → r ≡ r')
      → ((r : Data) → o ≡ Some r → Looks al t vs r) → ((r : Data) → q ≡ Some r → Looks al t vs r)
      → (o ≡ None → vs ≡ []) → (q ≡ None → vs ≡ []) → o ≡ q
  by_name t vs None None same f f' g g' = refl
  by_name t vs None (Some r) same f f' g g' = absurd (no_reading (subst (λ x. Looks al t x r) (g refl) (f' r refl)))
  by_name t vs (Some r) None same f f' g g' = absurd (no_reading (subst (λ x. Looks al t x r) (g' refl) (f r refl)))
  by_name t vs (Some r) (Some r') same f f' g g' = ap Some (same r r' refl refl)

  mutual
    pub one_look : {s : Place} {vs : List Data} {r t : Data} → Looks al s vs r → Looks al s vs t → r ≡ t
    one_look {s} {vs} {r} {t} (looks c h) (looks c' h') = one_show h (subst (λ x. Shows al s x t) (sym (one_chain c c')) h')

    pub one_show : {s : Place} {cs : List Data} {r t : Data} → Shows al s cs r → Shows al s cs t → r ≡ t
    one_show (a_scalar p) (a_scalar p') = refl
    one_show (a_scalar p) (an_object o f g) = absurd p
    one_show (a_scalar p) (the_members m e) = absurd p
    one_show (a_scalar p) (a_join m) = absurd p
    one_show (an_object o f g) (a_scalar p) = absurd p
    one_show {s} (an_object {ms = ms} {rs = rs} {cs = cs} o f g) (an_object {rs = ts} o' f' g') =
        ap object (same_members rs ts o o' (λ k. by_name (place_under s k) (values_at s k (object ms ∷ cs)) (get_member k rs) (get_member k ts) (λ r r' e e'. one_look (f k r e) (f' k r' e')) (f k) (f' k) (g k) (g' k)))
    one_show (the_members m e) (a_scalar p) = absurd p
    one_show (the_members m e) (the_members m' e') = ap array (one_list e e')
    one_show (the_members m e) (a_join m') = absurd (true≢false (sym m ∙ m'))
    one_show (a_join m) (a_scalar p) = absurd p
    one_show (a_join m) (the_members m' e') = absurd (true≢false (sym m' ∙ m))
    one_show (a_join m) (a_join m') = refl

    pub one_list : {cs : List Data} {ns : List (List ℕ)} {rs ts : Items} → Entries al cs ns rs → Entries al cs ns ts → rs ≡ ts
    one_list no_entry no_entry = refl
    one_list (an_entry {n = n} {r = r} {rs = rs} l e) (an_entry {r = t} {rs = ts} l' e') =
        ap (λ x. item (object (member n x no_members)) rs) (one_look l l') ∙ ap (item (object (member n t no_members))) (one_list e e')

-- ---- where no value has a float, and the names of each object ascend, so it is of what is looked up in them

abbrev pub IsClean : Data → Type 0
IsClean d = Ascends d × (has_float d ≡ false)

abbrev AllMembers : Members → Type 0
AllMembers ms = AllEntries (λ k d. IsClean d) ms

of_item : (d : Data) (es : Items) → IsClean (array (item d es)) → IsClean d × IsClean (array es)
of_item d es (order, whole) = let (one, rest) = or_parts (has_float d) (items_have_float es) whole in ((order.0, one), (order.1, rest))

an_item : (d : Data) (es : Items) → IsClean d → IsClean (array es) → IsClean (array (item d es))
an_item d es h i = ((h.0, i.0), or_from (has_float d) (items_have_float es) h.1 i.1)

of_each : (ms : Members) → AllMembers ms → MembersAscend ms × (members_have_float ms ≡ false)
of_each no_members h = (tt, refl)
of_each (member k d ms) h = let rest = of_each ms h.1 in ((h.0.0, rest.0), or_from (has_float d) (members_have_float ms) h.0.1 rest.1)

to_object : (ms : Members) → IsInOrder ms → AllMembers ms → IsClean (object ms)
to_object ms order h = let each = of_each ms h in ((order, each.0), each.1)

each_of : (ms : Members) → MembersAscend ms → members_have_float ms ≡ false → AllMembers ms
each_of no_members order whole = tt
each_of (member k d ms) order whole = let (one, rest) = or_parts (has_float d) (members_have_float ms) whole in ((order.0, one), each_of ms order.1 rest)

of_object : (ms : Members) → IsClean (object ms) → AllMembers ms
of_object ms (order, whole) = each_of ms order.1 whole

of_base : (s : Place) (b : Data) (ms : Members) → AllMembers ms → base_of s ms ≡ Some b → IsClean b
of_base s b ms w h = let (k, is, there) = base_named s ms b h in each_has (λ n d. IsClean d) ms k b w there

of_objects : (ds : List Data) → AllByRecursion IsClean ds → AllByRecursion IsClean (if_objects ds)
of_objects [] w = tt
of_objects (object ms ∷ ds) w = w
of_objects (_ ∷ ds) w = tt

of_lists : (ds : List Data) → AllByRecursion IsClean ds → AllByRecursion IsClean (if_lists ds)
of_lists [] w = tt
of_lists (array es ∷ ds) w = w
of_lists (_ ∷ ds) w = tt

of_properties : (d : Data) → IsClean d → AllMembers (properties_of d)
of_properties (object ms) w = of_object ms w
of_properties _ w = tt

of_its_items : (d : Data) → IsClean d → IsClean (array (items_in d))
of_its_items (array es) w = w
of_its_items _ w = (tt, refl)

of_property : (k : List ℕ) (d e : Data) → IsClean d → get k d ≡ Some e → IsClean e
of_property k (object ms) e w h = entry_found (λ n x. IsClean x) ms (of_object ms w) k e h
of_property k _ e w h = cc

with_some : (o : Option Data) (ds : List Data) → ((d : Data) → o ≡ Some d → IsClean d) → AllByRecursion IsClean ds → AllByRecursion IsClean (cons_some o ds)
with_some None ds f w = w
with_some (Some d) ds f w = (f d refl, w)

of_values : (k : List ℕ) (ds : List Data) → AllByRecursion IsClean ds → AllByRecursion IsClean (values_in k ds)
of_values k [] w = tt
of_values k (d ∷ ds) w = with_some (get k d) (values_in k ds) (λ e h. of_property k d e w.0 h) (of_values k ds w.1)

of_values_at : (s : Place) (k : List ℕ) (ds : List Data) → AllByRecursion IsClean ds → AllByRecursion IsClean (values_at s k ds)
of_values_at s k ds w = elim (cases_Bool (is_base_name s k)) [ inl is ↦ rw is tt | inr is ↦ rw is (of_values k ds w) ]

both_items : (a b : Items) → IsClean (array a) → IsClean (array b) → IsClean (array (join_items a b))
both_items no_items b h i = i
both_items (item d a) b h i = let (one, rest) = of_item d a h in an_item d (join_items a b) one (both_items a b rest i)

of_entries : (es : Items) → IsClean (array es) → AllMembers (entries_of es)
of_entries no_items h = tt
of_entries (item d es) h = let (one, rest) = of_item d es h in all_joined (λ k e. IsClean e) (properties_of d) (entries_of es) (of_properties d one) (of_entries es rest)

of_entry_values : (n : List ℕ) (ds : List Data) → AllByRecursion IsClean ds → AllByRecursion IsClean (entry_values n ds)
of_entry_values n [] w = tt
of_entry_values n (d ∷ ds) w = with_some (get_member n (entries_of (items_in d))) (entry_values n ds) (λ e h. entry_found (λ k x. IsClean x) (entries_of (items_in d)) (of_entries (items_in d) (of_its_items d w.0)) n e h) (of_entry_values n ds w.1)

of_joined : (ds : List Data) → AllByRecursion IsClean ds → IsClean (array (joined ds))
of_joined [] w = (tt, refl)
of_joined (d ∷ ds) w = both_items (joined ds) (items_in d) (of_joined ds w.1) (of_its_items d w.0)

-- names that ascend do not stand twice
pub apart : (ms : Members) → IsInOrder ms → NoClash ms
apart no_members h = tt
apart (member k d ms) h = (get_none k ms h.0, apart ms h.1)

module _ (al : Members) (known : AllMembers al) where
  of_chain : {s : Place} {vs cs : List Data} → Chain al s vs cs → AllByRecursion IsClean vs → AllByRecursion IsClean cs
  of_chain nothing w = tt
  of_chain (alias {n = n} {w = v} p q c) w = of_chain c (entry_found (λ k x. IsClean x) al known n v q, tt)
  of_chain (member_alias {n = n} p) w = (to_object (member field_type_name (string n) no_members) (tt, tt) ((tt, refl), tt), tt)
  of_chain (heir {s = s} {ms = ms} {b = b} {cs = cs} p c) w = (w.0, of_objects cs (of_chain c (of_base s b ms (of_object ms w.0) p, tt)))
  of_chain (own {cs = cs} p c) w = (w.0, of_objects cs (of_chain c w.1))
  of_chain (a_list {cs = cs} c) w = (w.0, of_lists cs (of_chain c w.1))
  of_chain (plain p) w = (w.0, tt)

  mutual
    of_looks : {s : Place} {vs : List Data} {r : Data} → Looks al s vs r → AllByRecursion IsClean vs → IsClean r
    of_looks (looks c h) w = of_shows h (of_chain c w)

    of_shows : {s : Place} {cs : List Data} {r : Data} → Shows al s cs r → AllByRecursion IsClean cs → IsClean r
    of_shows (a_scalar p) w = w.0
    of_shows {s} (an_object {ms = ms} {rs = rs} {cs = cs} o f g) w = to_object rs o (all_along (λ k r. get_member k rs ≡ Some r) (λ k r. IsClean r) (λ k r h. of_looks (f k r h) (of_values_at s k (object ms ∷ cs) w)) rs (found_each rs (apart rs o)))
    of_shows (the_members m e) w = of_listed e w
    of_shows (a_join {es = es} {cs = cs} m) w = of_joined (array es ∷ cs) w

    of_listed : {cs : List Data} {ns : List (List ℕ)} {rs : Items} → Entries al cs ns rs → AllByRecursion IsClean cs → IsClean (array rs)
    of_listed no_entry w = (tt, refl)
    of_listed {cs} (an_entry {n = n} {r = r} {rs = rs} l e) w = an_item (object (member n r no_members)) rs (to_object (member n r no_members) (tt, tt) (of_looks l (of_entry_values n cs w), tt)) (of_listed e w)

-- ---- a whole configuration

pub both_there : {A B : Type 0} (next_step : A → Option B) (o : Option A) (y : B) → option_and_then next_step o ≡ Some y → (x : A) × (o ≡ Some x) × (next_step x ≡ Some y)
both_there next_step None y e = absurd cc
both_there next_step (Some x) y e = (x, refl, e)

-- what holds of each property of a value it holds of, holds of the aliases of a configuration that it holds of
of_aliases : (P : Data → Type 0) → ((k : List ℕ) (d e : Data) → P d → get k d ≡ Some e → P e) → (t : Data) → P t
    → (d : Data) → option_and_then (get aliases_name) (option_and_then (get type_name) (get trace_name t)) ≡ Some d → P d
of_aliases P within t h d is =
    let (type, in_trace, found) = both_there (get aliases_name) (option_and_then (get type_name) (get trace_name t)) d is in
    let (trace, in_root, in_type) = both_there (get type_name) (get trace_name t) type in_trace in
    within aliases_name type d (within type_name trace type (within trace_name t trace h in_root) in_type) found

-- the aliases of a configuration are what stands in their place
pub aliases_found : (t trace type found : Data) → get trace_name t ≡ Some trace → get type_name trace ≡ Some type → get aliases_name type ≡ Some found → aliases_of t ≡ members_or_none (Some found)
aliases_found t trace type found in_root in_trace in_type =
    ap (λ o. members_or_none (option_and_then (get aliases_name) (option_and_then (get type_name) o))) in_root
    ∙ ap (λ o. members_or_none (option_and_then (get aliases_name) o)) in_trace
    ∙ ap members_or_none in_type

of_its_members : (o : Option Data) → ((d : Data) → o ≡ Some d → IsClean d) → AllMembers (members_or_none o)
of_its_members (Some (object ms)) h = of_object ms (h (object ms) refl)
of_its_members _ h = tt

pub resolved_clean : (t r : Data) → IsClean t → Resolves t r → IsClean r
resolved_clean t r h l = of_looks (aliases_of t) (of_its_members _ (of_aliases IsClean of_property t h)) l (h, tt)

-- In the value of a text the names of each object ascend, so no name stands twice in one of its objects.

-- ---- the names of each object of a tree ascend

mapped : {A B : Type 0} (f : A → B) (o : Option A) (y : B) → option_map f o ≡ Some y → (x : A) × (o ≡ Some x) × (f x ≡ y)
mapped f None y e = absurd cc
mapped f (Some x) y e = (x, refl, cc)

each_put : (k : List ℕ) (d : Data) (ms : Members) → Ascends d → MembersAscend ms → MembersAscend (put k d ms)
each_put k d no_members mine h = (mine, tt)
each_put k d (member l e ms) mine h = put_keeps MembersAscend k l d e ms (λ is. (mine, h)) (mine, h.1) (λ is. (h.0, each_put k d ms mine h.1))

mutual
  json_in_order : (j : json.Json) (d : Data) → of_json j ≡ Some d → Ascends d
  json_in_order json.null d e = subst Ascends (same_Some null d e) tt
  json_in_order (json.boolean b) d e = subst Ascends (same_Some (boolean b) d e) tt
  json_in_order (json.number s) d e = let n = mapped number (number_of s) d e in subst Ascends n.2 tt
  json_in_order (json.string s) d e = subst Ascends (same_Some (string s) d e) tt
  json_in_order (json.array js) d e = let ds = mapped array (of_items js) d e in subst Ascends ds.2 (items_in_order js ds.0 ds.1)
  json_in_order (json.object js) d e = let ms = mapped object (of_members js no_members) d e in subst Ascends ms.2 (members_in_order js no_members ms.0 ms.1 tt tt)

  items_in_order : (js : json.Items) (ds : Items) → of_items js ≡ Some ds → ItemsAscend ds
  items_in_order json.no_items ds e = let same : no_items ≡ ds = cc in subst ItemsAscend same tt
  items_in_order (json.item j js) ds e =
      let d = both_there (λ x. option_map (item x) (of_items js)) (of_json j) ds e in
      let rest = mapped (item d.0) (of_items js) ds d.2 in
      subst ItemsAscend rest.2 (json_in_order j d.0 d.1, items_in_order js rest.0 rest.1)

  members_in_order : (js : json.Members) (found ms : Members) → of_members js found ≡ Some ms → IsInOrder found → MembersAscend found → IsInOrder ms × MembersAscend ms
  members_in_order json.no_members found ms e h each = let same : found ≡ ms = cc in subst (λ l. IsInOrder l × MembersAscend l) same (h, each)
  members_in_order (json.member k j js) found ms e h each =
      let d = both_there (λ x. of_members js (put k x found)) (of_json j) ms e in
      members_in_order js (put k d.0 found) ms d.2 (in_order_put k d.0 found h) (each_put k d.0 found (json_in_order j d.0 d.1) each)

pub read_in_order : (text : List ℕ) (t : Data) → read text ≡ Some t → Ascends t
read_in_order text t e = let j = both_there of_json (option_and_then (λ p. json.if_last p.0 p.1) (json.value max_depth (tokens text))) t e in json_in_order j.0 t j.2

-- ---- so no alias has the name of another

pub member_in_order : (ms : Members) (k : List ℕ) (d : Data) → MembersAscend ms → HasMember k d ms → Ascends d
member_in_order no_members k d h there = absurd there
member_in_order (member l e ms) k d h (inl one) = subst Ascends (sym one.1) h.0
member_in_order (member l e ms) k d h (inr later) = member_in_order ms k d h.1 later

property_in_order : (k : List ℕ) (d e : Data) → Ascends d → get k d ≡ Some e → Ascends e
property_in_order k (object ms) e h is = member_in_order ms k e h.1 (has_found k e ms is)
property_in_order k _ e h is = cc

members_in_turn : (o : Option Data) → ((d : Data) → o ≡ Some d → Ascends d) → IsInOrder (members_or_none o)
members_in_turn (Some (object ms)) h = (h (object ms) refl).0
members_in_turn _ h = tt

pub aliases_in_order : (t : Data) → Ascends t → IsInOrder (aliases_of t)
aliases_in_order t ordered = members_in_turn _ (of_aliases Ascends property_in_order t ordered)

pub aliases_apart : (text : List ℕ) (t : Data) → IsTreeOf text t → NoClash (aliases_of t)
aliases_apart text t tree = apart (aliases_of t) (aliases_in_order t (read_in_order text t tree.0.1))

-- ---- entries without a clash

has_first : (a b : Members) (n : List ℕ) (d : Data) → HasMember n d a → HasMember n d (join_members a b)
has_first no_members b n d there = absurd there
has_first (member k x a) b n d (inl same) = inl same
has_first (member k x a) b n d (inr later) = inr (has_first a b n d later)

has_later : (a b : Members) (n : List ℕ) (d : Data) → HasMember n d b → HasMember n d (join_members a b)
has_later no_members b n d there = there
has_later (member k x a) b n d there = inr (has_later a b n d there)

entry_has : (es : Items) (j : ℕ) (n : List ℕ) → HasEntry j n es → (d : Data) × HasMember n d (entries_of es)
entry_has no_items j n (ms, d, is, there) = absurd cc
entry_has (item e es) zero n (ms, d, is, there) = (d, has_first (properties_of e) (entries_of es) n d (rw (same_Some e (object ms) is) there))
entry_has (item e es) (suc j) n h = let (d, there) = entry_has es j n h in (d, has_later (properties_of e) (entries_of es) n d there)

clear_later : (a b : Members) → NoClash (join_members a b) → NoClash b
clear_later no_members b clear = clear
clear_later (member k x a) b clear = clear_later a b clear.1

clash_joined : (a b : Members) (n : List ℕ) (d c : Data) → NoClash (join_members a b) → HasMember n d a → HasMember n c b → ⊥
clash_joined no_members b n d c clear there later = absurd there
clash_joined (member k x a) b n d c clear (inl same) later =
    some_is_none c (sym (each_has (λ l e. get_member l (join_members a b) ≡ Some e) (join_members a b) n c (found_each (join_members a b) clear.1) (has_later a b n c later)) ∙ ap (λ l. get_member l (join_members a b)) same.0 ∙ clear.0)
clash_joined (member k x a) b n d c clear (inr rest) later = clash_joined a b n d c clear.1 rest later

-- no entry of a members list without a clash has the name of one before it
pub no_twice : (es : Items) (i j : ℕ) (n : List ℕ) → NoClash (entries_of es) → i < j → HasEntry i n es → HasEntry j n es → ⊥
no_twice no_items i j n clear before (ms, d, is, there) second = cc
no_twice (item e es) i zero n clear before first second = omega arith
no_twice (item e es) zero (suc j) n clear before (ms, d, is, there) second =
    let (c, later) = entry_has es j n second in clash_joined (properties_of e) (entries_of es) n d c clear (rw (same_Some e (object ms) is) there) later
no_twice (item e es) (suc i) (suc j) n clear before first second = no_twice es i j n (clear_later (properties_of e) (entries_of es) clear) (omega arith) first second
