-- Counting: the parts of a whole, and what a limit leaves.
use Rattle.std.proofs.Common.{inr, inl, ◌≡◌, ◌+◌, ◌<◌, ◌≤◌, ◌++◌, ℕ, List, [], ◌∷◌, length, Option, Some, None, true, false, string_bytes, refl, sym, ap, ◌∙◌, subst, arith, zero, suc, max, nat_lt, ◌-◌}
use Rattle.std.proofs.lemmas.{Bool.{cases_Bool, lt-ltb, le-ltb, ltb-false}, Option.{same_Some}}
use borrow.Author.Tests.{ltb-true}
use Rattle.serde_json.specs.Data.{Data, array, object, Items, no_items, item, Members, no_members, member, put, depth, items_depth, members_depth}
use Rattle.serde_json.specs.{Find.{get_member, get_item}, View.{view, items_view, members_view}, declared.value.Value.Value}
use Rattle.serde_json.proofs.Views.{Entry}
use Rattle.conf_inherit.specs.{declared.size.Stop.Stop, Nesting.{deep_flaws, deep_item_flaws, deep_member_flaws, PassesDepth}}
use Rattle.conf_inherit.specs.{declared.size.Stop.TheVariants.{Memory, Limit}, Names.{NoClash, join_items, map_items, IsInOrder}}
use Rattle.conf_inherit.specs.{FieldPlaces.{place_under, is_base_name, lists_members}, Size.{size, items_size, members_size, Within, Leaves, IsDue}}
use Rattle.conf_inherit.specs.{Laying.{lay, items_below, lay_members, lay_over, lay_new}, Limits.Fits}
use Rattle.conf_table.specs.declared.place.Place.{Place}
use Rattle.conf_inherit.proofs.LayingLemmas.{join_appended, same, other, meets, get_other, get_same, lay_members-found, lay_members-absent, lay_members-first, get_first, get_none, has_found, equal_names, above_turned, above_through, some_is_none, stands}
use Rattle.conf_inherit.proofs.FaultLemmas.{Each, no_flaw, a_flaw, joined, each_along, part, Aligned, aligned_all, aligned_here, aligned_next, part_empty}
use Rattle.conf_tree.specs.{Flaw.{Flaw, Place as Step, key, index, within}, Walk.{HasMember, LeadsTo, IsNested}}

-- ---- what a limit leaves

-- more values are past it where fewer are
pub due_more : (stop : Stop) (limit : Option ℕ) (m n : ℕ) → m ≤ n → IsDue stop limit m → IsDue stop limit n
due_more Memory limit m n le h = tt
due_more Limit None m n le h = absurd h
due_more Limit (Some room) m n le h = omega arith

-- what is past what is left is past the whole
pub due_after : (stop : Stop) (limit left : Option ℕ) (m n whole : ℕ) → m + n ≤ whole → Leaves limit m left → IsDue stop left n → IsDue stop limit whole
due_after Memory limit left m n whole le leaves h = tt
due_after Limit None left m n whole le leaves h = absurd (rw leaves at h)
due_after Limit (Some room) left m n whole le (rest, is, sum) h = let past : rest < n = rw is at h in omega arith

-- what is left of what is left
pub leaves_more : (limit left after : Option ℕ) (m n : ℕ) → Leaves limit m left → Leaves left n after → Leaves limit (m + n) after
leaves_more None left after m n a b = rw a at b
leaves_more (Some room) left after m n (rest, is, sum) b = let more : Leaves (Some rest) n after = rw is at b in (more.0, more.1, omega (arith, sum, more.2))

pub leaves_all : (limit : Option ℕ) → Leaves limit 0 limit
leaves_all None = refl
leaves_all (Some room) = (room, refl, omega arith)

pub leaves_within : (limit left : Option ℕ) (n : ℕ) → Leaves limit n left → Within limit n
leaves_within None left n h = tt
leaves_within (Some room) left n (rest, is, sum) = omega arith

-- ---- the parts of a whole

pub joined_size : (a b : Items) → items_size (join_items a b) ≡ items_size a + items_size b
joined_size no_items b = omega arith
joined_size (item d ds) b = let rest : items_size (join_items ds b) ≡ items_size ds + items_size b = joined_size ds b in omega arith

-- one entry more is counted
pub leaves_pushed : (limit room after : Option ℕ) (vs : List Value) (v : Value) → Leaves limit (items_size (items_view vs)) room → Leaves room (size (view v)) after → Leaves limit (items_size (items_view (vs ++ v ∷ []))) after
leaves_pushed limit room after vs v so_far next =
    let sum : items_size (items_view vs) + size (view v) ≡ items_size (items_view (vs ++ v ∷ [])) = omega (arith, ap items_size (join_appended vs (v ∷ [])), joined_size (items_view vs) (item (view v) no_items)) in
    subst (λ n. Leaves limit n after) sum (leaves_more limit room after _ _ so_far next)

-- what is past the room that the entries so far leave is past the limit
pub due_next : (stop : Stop) (limit room : Option ℕ) (ds : Items) (d : Data) (rest whole : Items) → join_items ds (item d rest) ≡ whole → Leaves limit (items_size ds) room → IsDue stop room (size d) → IsDue stop limit (items_size whole)
due_next stop limit room ds d rest whole is so_far due = due_after stop limit room (items_size ds) (size d) _ (omega (arith, joined_size ds (item d rest), ap items_size is)) so_far due

-- no more values, and no deeper
pub record NoMore (m n a b : ℕ) : Type 0 where
  pub few : m ≤ n
  pub flat : a ≤ b

-- one value more on the other side alone
pub further_value : {m n a b : ℕ} (e : Data) → NoMore m n a b → NoMore m (size e + n) a (max (depth e) b)
further_value e i = record { few = omega (arith, i.few); flat = omega (arith, i.flat) }

-- a property has no more values than the object, and nests no deeper
member_within : (k : List ℕ) (e : Data) (ms : Members) → HasMember k e ms → NoMore (size e) (members_size ms) (depth e) (members_depth ms)
member_within k e no_members there = absurd there
member_within k e (member l d ms) (inl one) = subst (λ x. NoMore (size x) (size d + members_size ms) (depth x) (max (depth d) (members_depth ms))) (sym one.1) record { few = omega arith; flat = omega arith }
member_within k e (member l d ms) (inr later) = further_value d (member_within k e ms later)

-- an entry of a map is found by its name, and no later one is
entry_alone : (front back : List Entry) (e : Entry) → NoClash (members_view (front ++ e ∷ back)) → (get_member (string_bytes e.0) (members_view (front ++ e ∷ back)) ≡ Some (view e.1)) × (get_member (string_bytes e.0) (members_view back) ≡ None)
entry_alone [] back e h = (get_first (string_bytes e.0) (view e.1) (members_view back), h.0)
entry_alone (x ∷ front) back e h =
    let (found, none) = entry_alone front back e h.1 in
    elim (meets (string_bytes e.0) (string_bytes x.0)) [
      | same is ↦ absurd (some_is_none (view e.1) (sym found ∙ ap (λ k. get_member k (members_view (front ++ e ∷ back))) is ∙ h.0))
      | other apart ↦ (get_other (string_bytes e.0) (string_bytes x.0) (view x.1) (members_view (front ++ e ∷ back)) apart ∙ found, none)
    ]

-- a property goes over the base's, once all behind it do, and is a part of what is laid
pub record IsNext (done : Members) (s : Place) (k : List ℕ) (d : Data) (laid next whole : Members) : Type 0 where
  pub put : put k (lay done (place_under s k) d (get_member k laid)) laid ≡ next
  pub part : size (lay done (place_under s k) d (get_member k laid)) ≤ members_size whole

pub next_property : (done : Members) (s : Place) (front back whole : List Entry) (e : Entry) (k : List ℕ) (base laid : Members) → whole ≡ front ++ e ∷ back → NoClash (members_view whole) → laid ≡ lay_members done s (members_view back) base → k ≡ string_bytes e.0 → is_base_name s k ≡ false
    → IsNext done s k (view e.1) laid (lay_members done s (members_view (e ∷ back)) base) (lay_members done s (members_view whole) base)
next_property done s front back whole e k base laid split apart is named b =
    let d = view e.1 in
    let alone = entry_alone front back e (subst (λ es. NoClash (members_view es)) split apart) in
    let found : get_member k (members_view whole) ≡ Some d = ap (λ x. get_member x (members_view whole)) named ∙ ap (λ es. get_member (string_bytes e.0) (members_view es)) split ∙ alone.0 in
    let none : get_member k (members_view back) ≡ None = ap (λ x. get_member x (members_view back)) named ∙ alone.1 in
    let below : get_member k laid ≡ get_member k base = ap (get_member k) is ∙ lay_members-absent done s k (members_view back) base none in
    record {
      put = ap (λ x. put k (lay done (place_under s k) d x) laid) below
          ∙ ap (put k (lay done (place_under s k) d (get_member k base))) is
          ∙ sym (lay_members-first done s k d (members_view back) base b)
          ∙ ap (λ l. lay_members done s (member l d (members_view back)) base) named;
      part = rw below (member_within k _ _ (has_found k _ _ (lay_members-found done s k d (members_view whole) base b found))).few;
    }

-- the base's entries with those of their names over them, and the new ones, are parts of the laid list
pub list_parts : (done : Members) (s : Place) (es : Items) (base : Option Data) → lists_members s ≡ true
    → (items_size (map_items (λ b. lay_over done es b) (items_below base)) ≤ size (lay done s (array es) base)) × (items_size (lay_new done es (items_below base)) ≤ size (lay done s (array es) base))
list_parts done s es base is =
    let sum = joined_size (map_items (λ b. lay_over done es b) (items_below base)) (lay_new done es (items_below base)) in
    rw is (omega (arith, sum), omega (arith, sum))

-- ---- values that are no larger than others: they have no more JSON values, and nest no deeper

abbrev pub NoLarger : Data → Data → Type 0
NoLarger d e = NoMore (size d) (size e) (depth d) (depth e)

abbrev pub NoLargerItems : Items → Items → Type 0
NoLargerItems ds es = NoMore (items_size ds) (items_size es) (items_depth ds) (items_depth es)

abbrev pub NoLargerMembers : Members → Members → Type 0
NoLargerMembers ms ns = NoMore (members_size ms) (members_size ns) (members_depth ms) (members_depth ns)

pub unchanged : {m a : ℕ} → NoMore m m a a
unchanged = record { few = omega arith; flat = omega arith }

pub items_through : {m n o a b c : ℕ} → NoMore m n a b → NoMore n o b c → NoMore m o a c
items_through i j = record { few = omega (arith, i.few, j.few); flat = omega (arith, i.flat, j.flat) }

-- a list or an object of no more
pub one_more : {m n a b : ℕ} → NoMore m n a b → NoMore (suc m) (suc n) (suc a) (suc b)
one_more h = record { few = omega (arith, h.few); flat = omega (arith, h.flat) }

-- one value more on both sides
pub next_value : {m n a b : ℕ} (d e : Data) → NoLarger d e → NoMore m n a b → NoMore (size d + m) (size e + n) (max (depth d) a) (max (depth e) b)
next_value d e h i = record { few = omega (arith, h.few, i.few); flat = omega (arith, h.flat, i.flat) }

pub none_more : {n b : ℕ} → NoMore 0 n 0 b
none_more = record { few = omega arith; flat = omega arith }

-- items may change places
pub turned_items : (d e : Data) (ds : Items) → NoLargerItems (item d (item e ds)) (item e (item d ds))
turned_items d e ds = record { few = omega arith; flat = omega arith }

pub joined_behind : (a ds es : Items) → NoLargerItems ds es → NoLargerItems ds (join_items a es)
joined_behind no_items ds es h = h
joined_behind (item d a) ds es h = further_value d (joined_behind a ds es h)

-- what is joined behind may be larger
pub joined_larger : (a ds es : Items) → NoLargerItems ds es → NoLargerItems (join_items a ds) (join_items a es)
joined_larger no_items ds es h = h
joined_larger (item d a) ds es h = next_value d d unchanged (joined_larger a ds es h)

-- an item behind others may stand before them
pub item_first : (a : Items) (d : Data) (ds : Items) → NoLargerItems (join_items a (item d ds)) (item d (join_items a ds))
item_first no_items d ds = unchanged
item_first (item e a) d ds =
    items_through (next_value e e unchanged (item_first a d ds)) (turned_items e d (join_items a ds))

-- what each name finds in the one object, it finds in the other, and there it is no smaller
abbrev pub Covers : Members → Members → Type 0
Covers ms ns = (k : List ℕ) (d : Data) → get_member k ms ≡ Some d → (e : Data) × (get_member k ns ≡ Some e) × NoLarger d e

none_found : (k : List ℕ) (d : Data) (ms ns : Members) → Covers (member k d ms) ns → get_member k ns ≡ None → ⊥
none_found k d ms ns covers none = let (e, is, h) = covers k d (get_first k d ms) in some_is_none e (sym is ∙ none)

-- the other object's first property has another name
skipped : (l : List ℕ) (e : Data) (ms ns : Members) → get_member l ms ≡ None → Covers ms (member l e ns) → Covers ms ns
skipped l e ms ns none covers k d is = let (f, there, h) = covers k d is in (f, sym (get_other k l e ns apart) ∙ there, h)
  where
    apart : k ≡ l → ⊥
    apart s = some_is_none d (sym is ∙ subst (λ x. get_member x ms ≡ None) (sym s) none)

-- both objects' first properties have the same name
rest_covers : (k l : List ℕ) (d e : Data) (ms ns : Members) → k ≡ l → get_member k ms ≡ None → Covers (member k d ms) (member l e ns) → Covers ms ns
rest_covers k l d e ms ns one none covers q c is = let (f, there, h) = covers q c (get_other q k d ms apart ∙ is) in (f, sym (get_other q l e ns (λ s. apart (s ∙ sym one))) ∙ there, h)
  where
    apart : q ≡ k → ⊥
    apart s = some_is_none c (sym is ∙ subst (λ x. get_member x ms ≡ None) (sym s) none)

first_covers : (k l : List ℕ) (d e : Data) (ms ns : Members) → k ≡ l → Covers (member k d ms) (member l e ns) → NoLarger d e
first_covers k l d e ms ns one covers =
    let (f, there, h) = covers k d (get_first k d ms) in
    subst (NoLarger d) (same_Some f e (sym there ∙ get_same k l e ns one)) h

-- an object in order is no larger than one in order that covers it
pub covered : (ns ms : Members) → IsInOrder ms → IsInOrder ns → Covers ms ns → NoLargerMembers ms ns
covered ns no_members h i covers = none_more
covered no_members (member k d ms) h i covers = absurd (none_found k d ms no_members covers refl)
covered (member l e ns) (member k d ms) h i covers = elim (stands k l) [
  | inl is ↦ absurd (none_found k d ms (member l e ns) covers (get_none k (member l e ns) (is, above_through k l ns is i.0)))
  | inr (inr is) ↦ (let below = above_turned k l is in
      further_value e (covered ns (member k d ms) h i.1 (skipped l e (member k d ms) ns (get_none l (member k d ms) (below, above_through l k ms below h.0)) covers)))
  | inr (inl is) ↦ (let one = equal_names k l is in
      next_value d e (first_covers k l d e ms ns one covers) (covered ns ms h.1 i.1 (rest_covers k l d e ms ns one (get_none k ms h.0) covers)))
]

-- ---- what nests deeper

pub deeper_flat : (levels : ℕ) → nat_lt levels 0 ≡ false
deeper_flat levels = le-ltb levels 0 (omega arith)

pub deeper_inside : (levels n : ℕ) → 0 < levels → nat_lt (levels - 1) n ≡ nat_lt levels (suc n)
deeper_inside levels n some = elim (cases_Bool (nat_lt levels (suc n))) [
  | inl is ↦ lt-ltb (levels - 1) n (omega (arith, ltb-true levels (suc n) is)) ∙ sym is
  | inr is ↦ le-ltb (levels - 1) n (omega (arith, ltb-false levels (suc n) is)) ∙ sym is
]

pub deeper_first : (levels m n : ℕ) → nat_lt levels m ≡ true → nat_lt levels (max m n) ≡ true
deeper_first levels m n h = lt-ltb levels (max m n) (omega (arith, ltb-true levels m h))

pub deeper_rest : (levels m n : ℕ) → nat_lt levels m ≡ false → nat_lt levels (max m n) ≡ nat_lt levels n
deeper_rest levels m n h = elim (cases_Bool (nat_lt levels n)) [
  | inl is ↦ lt-ltb levels (max m n) (omega (arith, ltb-true levels n is)) ∙ sym is
  | inr is ↦ le-ltb levels (max m n) (omega (arith, ltb-false levels m h, ltb-false levels n is)) ∙ sym is
]

-- what is no larger than what fits does fit
pub fits_below : (d e : Data) → NoLarger d e → Fits e → Fits d
fits_below d e h (few, flat) = (omega (arith, h.few, few), omega (arith, h.flat, flat))

-- a property of an object that fits does fit
pub property_fits : (k : List ℕ) (e : Data) (ms : Members) → HasMember k e ms → Fits (object ms) → Fits e
property_fits k e ms there fits = let part = member_within k e ms there in fits_below e (object ms) (record { few = omega (arith, part.few); flat = omega (arith, part.flat) }) fits

-- a list of one item that is no larger than a list that fits
pub item_fits : (e : Data) (ds : Items) → NoLargerItems (item e no_items) ds → Fits (array ds) → Fits e
item_fits e ds h fits = fits_below e (array ds) (record { few = omega (arith, h.few); flat = omega (arith, h.flat) }) fits

-- What stands too deep in a value: nothing just where it nests at most so deep, and else what its path leads to.

mutual
  pub shallow_depth : (d : Data) (levels : ℕ) → deep_flaws d levels ≡ [] → depth d ≤ levels
  shallow_depth (array ds) zero h = absurd cc
  shallow_depth (array ds) (suc levels) h = omega (arith, shallow_items 0 ds levels h)
  shallow_depth (object ms) zero h = absurd cc
  shallow_depth (object ms) (suc levels) h = omega (arith, shallow_members ms levels h)
  shallow_depth _ levels h = omega arith

  shallow_items : (i : ℕ) (ds : Items) (levels : ℕ) → deep_item_flaws i ds levels ≡ [] → items_depth ds ≤ levels
  shallow_items i no_items levels h = omega arith
  shallow_items i (item d ds) levels h = let (mine, later) = part_empty (within (index i)) (deep_flaws d levels) (deep_item_flaws (suc i) ds levels) h in omega (arith, shallow_depth d levels mine, shallow_items (suc i) ds levels later)

  shallow_members : (ms : Members) (levels : ℕ) → deep_member_flaws ms levels ≡ [] → members_depth ms ≤ levels
  shallow_members no_members levels h = omega arith
  shallow_members (member k d ms) levels h = let (mine, later) = part_empty (within (key k)) (deep_flaws d levels) (deep_member_flaws ms levels) h in omega (arith, shallow_depth d levels mine, shallow_members ms levels later)

-- what is too deep in a part is too deep in the whole
in_list : (es : Items) (i : ℕ) (e : Data) (levels : ℕ) (f : Flaw) → get_item i es ≡ Some e → PassesDepth levels e f → PassesDepth (suc levels) (array es) (within (index i) f)
in_list es i e levels f there (kind, (found, leads, nested, steps)) = (kind, (found, (es, e, refl, there, leads), nested, ap suc steps))

in_object : (ms : Members) (k : List ℕ) (e : Data) (levels : ℕ) (f : Flaw) → HasMember k e ms → PassesDepth levels e f → PassesDepth (suc levels) (object ms) (within (key k) f)
in_object ms k e levels f there (kind, (found, leads, nested, steps)) = (kind, (found, (ms, e, refl, there, leads), nested, ap suc steps))

mutual
  pub deep_told : (d : Data) (levels : ℕ) → Each (PassesDepth levels d) (deep_flaws d levels)
  deep_told (array ds) zero = a_flaw (refl, (array ds, refl, tt, refl)) no_flaw
  deep_told (array ds) (suc levels) = deep_items_told ds ds 0 levels (aligned_all ds)
  deep_told (object ms) zero = a_flaw (refl, (object ms, refl, tt, refl)) no_flaw
  deep_told (object ms) (suc levels) = deep_members_told ms ms levels (λ k d m. m)
  deep_told _ levels = no_flaw

  deep_items_told : (rest es : Items) (i levels : ℕ) → Aligned es i rest → Each (PassesDepth (suc levels) (array es)) (deep_item_flaws i rest levels)
  deep_items_told no_items es i levels left = no_flaw
  deep_items_told (item e rest) es i levels left =
      joined (part (index i) (each_along (λ f h. in_list es i e levels f (aligned_here es i e rest left) h) (deep_told e levels))) (deep_items_told rest es (suc i) levels (aligned_next es i e rest left))

  deep_members_told : (rest ms : Members) (levels : ℕ) → ((k : List ℕ) (d : Data) → HasMember k d rest → HasMember k d ms) → Each (PassesDepth (suc levels) (object ms)) (deep_member_flaws rest levels)
  deep_members_told no_members ms levels sub = no_flaw
  deep_members_told (member k e rest) ms levels sub =
      joined (part (key k) (each_along (λ f h. in_object ms k e levels f (sub k e (inl (refl, refl))) h) (deep_told e levels))) (deep_members_told rest ms levels (λ q d m. sub q d (inr m)))

-- ---- what nests at most so deep has nothing too deep

item_depth : (ds : Items) (i : ℕ) (e : Data) → get_item i ds ≡ Some e → depth e ≤ items_depth ds
item_depth no_items i e there = absurd cc
item_depth (item d ds) zero e there = let same : d ≡ e = cc in subst (λ x. depth x ≤ items_depth (item d ds)) same (omega arith)
item_depth (item d ds) (suc i) e there = omega (arith, item_depth ds i e there)

nested_depth : (d : Data) → IsNested d → 0 < depth d
nested_depth (array ds) nested = omega arith
nested_depth (object ms) nested = omega arith
nested_depth _ nested = absurd nested

led_depth : (path : List Step) (d found : Data) → LeadsTo path d found → IsNested found → length path < depth d
led_depth [] d found is nested = nested_depth d (subst IsNested is nested)
led_depth (index i ∷ path) d found (ds, e, is, there, leads) nested = rw is (omega (arith, item_depth ds i e there, led_depth path e found leads nested))
led_depth (key k ∷ path) d found (ms, e, is, there, leads) nested = rw is (omega (arith, (member_within k e ms there).flat, led_depth path e found leads nested))

pub depth_excluded : (d : Data) (levels : ℕ) (flaw : Flaw) → depth d ≤ levels → PassesDepth levels d flaw → ⊥
depth_excluded d levels flaw h (kind, (found, leads, nested, steps)) = omega (arith, steps, h, led_depth flaw.path d found leads nested)

pub depth_shallow : (d : Data) (levels : ℕ) → depth d ≤ levels → deep_flaws d levels ≡ []
depth_shallow d levels h = go (deep_flaws d levels) (deep_told d levels)
  where
    go : (fs : List Flaw) → Each (PassesDepth levels d) fs → fs ≡ []
    go [] no_flaw = refl
    go (f ∷ fs) (a_flaw deep rest) = absurd (depth_excluded d levels f h deep)

-- one more value that nests at most so deep
pub depth_put : (k : List ℕ) (v : Data) (ms : Members) (levels : ℕ) → nat_lt levels (depth v) ≡ false → members_depth ms ≤ levels → members_depth (put k v ms) ≤ levels
depth_put k v no_members levels new h = omega (arith, ltb-false levels (depth v) new)
depth_put k v (member l d ms) levels new h =
    let flat = ltb-false levels (depth v) new in
    let rest = depth_put k v ms levels new (omega (arith, h)) in
    elim (stands k l) [ inl is ↦ rw is (omega (arith, flat, h)) | inr (inl is) ↦ rw is (omega (arith, flat, h)) | inr (inr is) ↦ rw is (omega (arith, h, rest)) ]
