-- Objects whose names ascend: what they have at a name, and that their values at all names tell them apart.
use Rattle.std.proofs.Common.{arith, String, Global, string_cmp, string_bytes, ◌⊎◌, inr, inl, ◌≡◌, ℕ, List, Some, None, Ordering, Less, Equal, Greater, nat_cmp, is_eq, refl, sym, ap, ◌∙◌, subst, Option, true, false, true≢false, [], ◌∷◌, ◌++◌, ◌||◌, is_some, bytes_eq}
use Rattle.std.proofs.{lemmas.{Bool.{cases_Bool, or_parts, false_from_ne_true}, Option.same_Some}, lemmas.List.Folds.list_any-append, lemmas.Cmp.{nat_list_cmp_total, tied_itself}}
use Rattle.std.proofs.{lemmas.Map.Text.is_eq-slice_cmp, lemmas.Slice.Eq.bytes_eq-Decides}
use Rattle.std.specs.{Cmp.Lexicographic.slice_cmp, Ordering.ordering_reverse, List.{list_any, AllByRecursion}, List.Sorted.IsStrictlySortedBy, Map.keys_of}
use Rattle.serde_json.specs.{Data.{Data, Members, no_members, member, Items, put, object, no_items, item}, Find.{get_member, get}}
use Rattle.serde_json.proofs.Views.{Entry, get_member-put, get_member-put_other}
use Rattle.serde_json.specs.{View.{view, items_view, members_view}, declared.value.Value.Value}
use Rattle.conf_inherit.specs.Names.{AllAbove, IsInOrder, join_items, names_of, join_members, NoClash, properties_of, items_in, entries_of, new_names, entry_values, member_names}
use Rattle.conf_inherit.specs.{FieldPlaces.{place_under, is_base_name}, Looks.{base_of, Entries, no_entry, an_entry}}
use Rattle.conf_inherit.specs.Laying.{lay, lay_base, lay_members, lay_over, lay_new, has_entry, lay_new_member, lay_over_entry, lay_over_member, lay_new_entry}
use Rattle.conf_table.specs.declared.place.Place.{Place}
use Rattle.conf_table.specs.declared.place.Place.TheVariants as places
use Rattle.conf_tree.specs.Walk.{HasMember}

-- functions with the same values are the same
pub same_function : {A B : Type 0} (f g : A → B) → ((x : A) → f x ≡ g x) → f ≡ g
same_function f g h = λ i. λ x. h x i

pub same_name : (k : List ℕ) → slice_cmp nat_cmp k k ≡ Equal
same_name k = tied_itself nat_list_cmp_total k

pub equal_names : (k l : List ℕ) → slice_cmp nat_cmp k l ≡ Equal → k ≡ l
equal_names k l is = (bytes_eq-Decides k l).0 (sym (is_eq-slice_cmp k l) ∙ ap is_eq is)

pub above_turned : (k l : List ℕ) → slice_cmp nat_cmp k l ≡ Greater → slice_cmp nat_cmp l k ≡ Less
above_turned k l is = nat_list_cmp_total.antisymm l k ∙ ap ordering_reverse is

pub get_first : (k : List ℕ) (d : Data) (ms : Members) → get_member k (member k d ms) ≡ Some d
get_first k d ms = rw same_name

pub get_below : (k l : List ℕ) (d : Data) (ms : Members) → slice_cmp nat_cmp k l ≡ Less → get_member k (member l d ms) ≡ get_member k ms
get_below k l d ms is = rw is

-- a name that all are above is none of them
pub get_none : (k : List ℕ) (ms : Members) → AllAbove k ms → get_member k ms ≡ None
get_none k no_members h = refl
get_none k (member l d ms) h = get_below k l d ms h.0 ∙ get_none k ms h.1

pub above_through : (k l : List ℕ) (ms : Members) → slice_cmp nat_cmp k l ≡ Less → AllAbove l ms → AllAbove k ms
above_through k l no_members below h = tt
above_through k l (member m d ms) below h = (nat_list_cmp_total.trans k l m below h.0, above_through k l ms below h.1)

pub some_is_none : {A : Type 0} (x : A) → Some x ≡ None → ⊥
some_is_none x e = cc

pub cases_Option : {A : Type 0} (o : Option A) → (o ≡ None) ⊎ ((x : A) × (o ≡ Some x))
cases_Option None = inl refl
cases_Option (Some x) = inr (x, refl)

-- the same name, or another that is skipped
pub data Meets (k l : List ℕ) : Type 0 where
  same : k ≡ l → Meets k l
  other : (k ≡ l → ⊥) → Meets k l

pub apart_greater : (k l : List ℕ) → slice_cmp nat_cmp k l ≡ Greater → k ≡ l → ⊥
apart_greater k l is e = let f = ap is_eq is in true≢false (sym ((bytes_eq-Decides k l).1 e) ∙ sym (is_eq-slice_cmp k l) ∙ f)

pub meets : (k l : List ℕ) → Meets k l
meets k l = elim (cases_Bool (bytes_eq k l)) [ inl e ↦ same ((bytes_eq-Decides k l).0 e) | inr e ↦ other (λ q. true≢false (sym ((bytes_eq-Decides k l).1 q) ∙ e)) ]

-- how one name stands to another
pub stands : (k l : List ℕ) → (slice_cmp nat_cmp k l ≡ Less) ⊎ ((slice_cmp nat_cmp k l ≡ Equal) ⊎ (slice_cmp nat_cmp k l ≡ Greater))
stands k l = go _ refl
  where
    go : (o : Ordering) → slice_cmp nat_cmp k l ≡ o → (slice_cmp nat_cmp k l ≡ Less) ⊎ ((slice_cmp nat_cmp k l ≡ Equal) ⊎ (slice_cmp nat_cmp k l ≡ Greater))
    go Less is = inl is
    go Equal is = inr (inl is)
    go Greater is = inr (inr is)

pub get_other : (k l : List ℕ) (d : Data) (ms : Members) → (k ≡ l → ⊥) → get_member k (member l d ms) ≡ get_member k ms
get_other k l d ms apart = elim (stands k l) [ inl is ↦ get_below k l d ms is | inr (inl is) ↦ absurd (apart (equal_names k l is)) | inr (inr is) ↦ rw is refl ]

pub get_same : (k l : List ℕ) (d : Data) (ms : Members) → k ≡ l → get_member k (member l d ms) ≡ Some d
get_same k l d ms e = subst (λ x. get_member x (member l d ms) ≡ Some d) (sym e) (get_first l d ms)

-- where the first names differ, the lower one is missing on the other side
lower_missing : (k l : List ℕ) (d e : Data) (ms ns : Members) → slice_cmp nat_cmp k l ≡ Less → AllAbove l ns → get_member k (member k d ms) ≡ get_member k (member l e ns) → ⊥
lower_missing k l d e ms ns below h alike = some_is_none d (sym (get_first k d ms) ∙ alike ∙ get_below k l e ns below ∙ get_none k ns (above_through k l ns below h))

-- the rest agrees too
rest_agrees : (k : List ℕ) (d : Data) (ms ns : Members) → AllAbove k ms → AllAbove k ns → ((q : List ℕ) → get_member q (member k d ms) ≡ get_member q (member k d ns)) → (q : List ℕ) → get_member q ms ≡ get_member q ns
rest_agrees k d ms ns h i alike q = elim (meets q k) [
  | same e ↦ grind (arith, get_none k ms h, get_none k ns i, e)
  | other apart ↦ grind (arith, get_other q k d ms apart, get_other q k d ns apart, alike q)
]

-- objects in order with the same value at each name are the same
pub same_members : (ms ns : Members) → IsInOrder ms → IsInOrder ns → ((q : List ℕ) → get_member q ms ≡ get_member q ns) → ms ≡ ns
same_members no_members no_members h i alike = refl
same_members no_members (member l e ns) h i alike = absurd (some_is_none e (sym (get_first l e ns) ∙ sym (alike l)))
same_members (member k d ms) no_members h i alike = absurd (some_is_none d (sym (get_first k d ms) ∙ alike k))
same_members (member k d ms) (member l e ns) h i alike = elim (stands k l) [
  | inl is ↦ absurd (lower_missing k l d e ms ns is i.0 (alike k))
  | inr (inr is) ↦ absurd (lower_missing l k e d ns ms (above_turned k l is) h.0 (sym (alike l)))
  | inr (inl is) ↦ (let one : k ≡ l = equal_names k l is in
      let value : d ≡ e = same_Some d e (sym (get_first k d ms) ∙ alike k ∙ get_same k l e ns one) in
      let agree : (q : List ℕ) → get_member q (member k d ms) ≡ get_member q (member k d ns) = λ q. alike q ∙ ap (λ x. get_member q (member x e ns)) (sym one) ∙ ap (λ x. get_member q (member k x ns)) (sym value) in
      ap (λ x. member x d ms) one ∙ ap (λ x. member l x ms) value ∙ ap (member l e) (same_members ms ns h.1 i.1 (rest_agrees k d ms ns h.0 (subst (λ x. AllAbove x ns) (sym one) i.0) agree)))
]

-- What laying an object or a members list over another leaves at each name.

-- what holds of a put member before the first one, in its place and behind it holds of a put member
pub put_keeps : (P : Members → Type 0) (k l : List ℕ) (d e : Data) (ms : Members) → (slice_cmp nat_cmp k l ≡ Less → P (member k d (member l e ms))) → P (member l d ms) → (slice_cmp nat_cmp k l ≡ Greater → P (member l e (put k d ms))) → P (put k d (member l e ms))
put_keeps P k l d e ms before here behind = elim (stands k l) [ inl is ↦ rw is (before is) | inr (inl is) ↦ rw is here | inr (inr is) ↦ rw is (behind is) ]

above_put : (q k : List ℕ) (d : Data) (ms : Members) → slice_cmp nat_cmp q k ≡ Less → AllAbove q ms → AllAbove q (put k d ms)
above_put q k d no_members a h = (a, tt)
above_put q k d (member l e ms) a h = put_keeps (AllAbove q) k l d e ms (λ is. (a, h)) h (λ is. (h.0, above_put q k d ms a h.1))

-- a value put at a name keeps the names in order
pub in_order_put : (k : List ℕ) (d : Data) (ms : Members) → IsInOrder ms → IsInOrder (put k d ms)
in_order_put k d no_members h = (tt, tt)
in_order_put k d (member l e ms) h =
    put_keeps IsInOrder k l d e ms (λ is. ((is, above_through k l ms is h.0), h)) h (λ is. (above_put l k d ms (above_turned k l is) h.0, in_order_put k d ms h.1))

-- what is at k after d was put at l
pub put_found : (k l : List ℕ) (d : Data) (ms : Members) → k ≡ l → get_member k (put l d ms) ≡ Some d
put_found k l d ms alike = subst (λ x. get_member x (put l d ms) ≡ Some d) (sym alike) (get_member-put l d ms)

-- ---- what an object is laid over

pub lay_base-own : (done : Members) (s : Place) (ms : Members) (base : Option Data) → base_of s ms ≡ None → lay_base done s ms base ≡ base
lay_base-own done s no_members base h = refl
lay_base-own done s (member k d ms) base h = grind (arith, lay_base-own done s ms base)

pub lay_base-heir : (done : Members) (s : Place) (ms : Members) (base : Option Data) (b : Data) → base_of s ms ≡ Some b → lay_base done s ms base ≡ Some (lay done places.FieldType b None)
lay_base-heir done s no_members base b h = cc
lay_base-heir done s (member k d ms) base b h = grind (arith, lay_base-heir done s ms base b)

pub in_order_lay : (done : Members) (s : Place) (ms base : Members) → IsInOrder base → IsInOrder (lay_members done s ms base)
in_order_lay done s no_members base h = h
in_order_lay done s (member k d ms) base h = grind (arith, in_order_put, in_order_lay done s ms base h)

-- a name that inheritance takes keeps what the base has
pub lay_members-base : (done : Members) (s : Place) (k : List ℕ) (ms base : Members) → is_base_name s k ≡ true → get_member k (lay_members done s ms base) ≡ get_member k base
lay_members-base done s k no_members base h = refl
lay_members-base done s k (member l d ms) base h = grind (arith, get_member-put_other, lay_members-base done s k ms base h)

-- a name that the object has not keeps what the base has
pub lay_members-absent : (done : Members) (s : Place) (k : List ℕ) (ms base : Members) → get_member k ms ≡ None → get_member k (lay_members done s ms base) ≡ get_member k base
lay_members-absent done s k no_members base h = refl
lay_members-absent done s k (member l d ms) base h = elim (meets k l) [ same e ↦ absurd (some_is_none d (sym (get_same k l d ms e) ∙ h)) | other apart ↦ grind (arith, get_member-put_other, get_other k l d ms apart, lay_members-absent done s k ms base) ]

-- a name that the object has gets its value, laid over the base's
pub lay_members-found : (done : Members) (s : Place) (k : List ℕ) (v : Data) (ms base : Members) → is_base_name s k ≡ false → get_member k ms ≡ Some v
    → get_member k (lay_members done s ms base) ≡ Some (lay done (place_under s k) v (get_member k base))
lay_members-found done s k v no_members base b h = cc
lay_members-found done s k v (member l d ms) base b h = elim (meets k l) [
  | same e ↦ grind (arith, get_member-put, get_same k l d ms e, e)
  | other apart ↦ grind (arith, get_member-put_other, get_other k l d ms apart, lay_members-found done s k v ms base b)
]

-- Lists of values item by item, and the entries of members lists.

pub join_none : (ds : Items) → join_items ds no_items ≡ ds
join_none no_items = refl
join_none (item d ds) = ap (item d) (join_none ds)

-- an item that is pushed stands before what follows
pub join_pushed : (vs : List Value) (v : Value) (more : Items) → join_items (items_view (vs ++ v ∷ [])) more ≡ join_items (items_view vs) (item (view v) more)
join_pushed [] v more = refl
join_pushed (w ∷ vs) v more = ap (item (view w)) (join_pushed vs v more)

-- two lists one after the other
pub join_appended : (vs ws : List Value) → items_view (vs ++ ws) ≡ join_items (items_view vs) (items_view ws)
join_appended [] ws = refl
join_appended (v ∷ vs) ws = ap (item (view v)) (join_appended vs ws)

pub differs : (n l : List ℕ) → (n ≡ l → ⊥) → bytes_eq n l ≡ false
differs n l apart = false_from_ne_true (bytes_eq n l) (λ e. apart ((bytes_eq-Decides n l).0 e))

-- an object has a name where one of its names is that
pub has_name : (n : List ℕ) (ms : Members) → is_some (get_member n ms) ≡ list_any (bytes_eq n) (names_of ms)
has_name n no_members = refl
has_name n (member l d ms) = elim (meets n l) [ same e ↦ grind (arith, get_same n l d ms e, (bytes_eq-Decides n l).1 e) | other apart ↦ grind (arith, get_other n l d ms apart, differs n l apart, has_name n ms) ]

names_joined : (a more : Members) → names_of (join_members a more) ≡ names_of a ++ names_of more
names_joined no_members more = refl
names_joined (member l d a) more = ap (λ ns. l ∷ ns) (names_joined a more)

-- a property that is no base goes over the base's
pub lay_members-first : (done : Members) (s : Place) (n : List ℕ) (d : Data) (ms base : Members) → is_base_name s n ≡ false
    → lay_members done s (member n d ms) base ≡ put n (lay done (place_under s n) d (get_member n base)) (lay_members done s ms base)
lay_members-first done s n d ms base h = rw h refl

-- Members lists: their entries by name, and what laying one over another gives.

-- ---- laying by item is laying by entry

over_join : (done a more : Members) (b rest : Data) → lay_over_member done (join_members a more) b rest ≡ lay_over_member done a b (lay_over_member done more b rest)
over_join done no_members more b rest = refl
over_join done (member n d ms) more b rest = rw (over_join done ms more b rest) refl

pub over_entry : (done : Members) (e b rest : Data) → lay_over_entry done e b rest ≡ lay_over_member done (properties_of e) b rest
over_entry done (object ms) b rest = refl
over_entry done _ b rest = refl

pub over_entries : (done : Members) (es : Items) (b : Data) → lay_over done es b ≡ lay_over_member done (entries_of es) b b
over_entries done no_items b = refl
over_entries done (item e es) b = over_entry done e b (lay_over done es b) ∙ ap (lay_over_member done (properties_of e) b) (over_entries done es b) ∙ sym (over_join done (properties_of e) (entries_of es) b b)

new_join : (done a more : Members) (seen : Items) (rest : Items) → lay_new_member done (join_members a more) seen rest ≡ lay_new_member done a seen (lay_new_member done more seen rest)
new_join done no_members more seen rest = refl
new_join done (member n d ms) more seen rest = rw (new_join done ms more seen rest) refl

new_entry : (done : Members) (e : Data) (seen : Items) (rest : Items) → lay_new_entry done e seen rest ≡ lay_new_member done (properties_of e) seen rest
new_entry done (object ms) seen rest = refl
new_entry done _ seen rest = refl

pub new_entries : (done : Members) (es : Items) (seen : Items) → lay_new done es seen ≡ lay_new_member done (entries_of es) seen no_items
new_entries done no_items seen = refl
new_entries done (item e es) seen = new_entry done e seen (lay_new done es seen) ∙ ap (lay_new_member done (properties_of e) seen) (new_entries done es seen) ∙ sym (new_join done (properties_of e) (entries_of es) seen no_items)

-- a list has an entry of the name where one of its names is that
pub get_property : (n : List ℕ) (e : Data) → get n e ≡ get_member n (properties_of e)
get_property n (object ms) = refl
get_property n _ = refl

pub has_entry_names : (n : List ℕ) (es : Items) → has_entry n es ≡ list_any (bytes_eq n) (names_of (entries_of es))
has_entry_names n no_items = refl
has_entry_names n (item e es) =
    let found : is_some (get n e) ≡ list_any (bytes_eq n) (names_of (properties_of e)) = ap is_some (get_property n e) ∙ has_name n (properties_of e) in
    ap (λ b. b || has_entry n es) found ∙ ap (λ b. list_any (bytes_eq n) (names_of (properties_of e)) || b) (has_entry_names n es)
    ∙ sym (ap (list_any (bytes_eq n)) (names_joined (properties_of e) (entries_of es)) ∙ list_any-append (bytes_eq n) (names_of (properties_of e)) (names_of (entries_of es)))

-- ---- the base's entry, with the entry of its name over it

module _ (done : Members) (n : List ℕ) (r : Data) where
  pub over_absent : (es : Members) (rest : Data) → get_member n es ≡ None → lay_over_member done es (object (member n r no_members)) rest ≡ rest
  over_absent no_members rest h = refl
  over_absent (member m d ms) rest h = elim (meets m n) [
    | same e ↦ absurd (some_is_none d (sym (get_same n m d ms (sym e)) ∙ h))
    | other apart ↦ grind (arith, get_other m n r no_members apart, get_other n m d ms (λ e. apart (sym e)), over_absent ms rest)
  ]

  pub over_found : (es : Members) (rest v : Data) → get_member n es ≡ Some v → lay_over_member done es (object (member n r no_members)) rest ≡ object (member n (lay done places.Member v (Some r)) no_members)
  over_found no_members rest v h = cc
  over_found (member m d ms) rest v h = elim (meets m n) [
    | same e ↦ grind (arith, get_same m n r no_members e, get_same n m d ms (sym e), e)
    | other apart ↦ grind (arith, get_other m n r no_members apart, get_other n m d ms (λ e. apart (sym e)), over_found ms rest v)
  ]

pub entry_names : {al : Members} {cs : List Data} {ns : List (List ℕ)} {rs : Items} → Entries al cs ns rs → names_of (entries_of rs) ≡ ns
entry_names no_entry = refl
entry_names (an_entry {n = n} l e) = ap (λ x. n ∷ x) (entry_names e)

pub entries_joined : {al : Members} {cs : List Data} {ns ms : List (List ℕ)} {rs ts : Items} → Entries al cs ns rs → Entries al cs ms ts → Entries al cs (ns ++ ms) (join_items rs ts)
entries_joined no_entry f = f
entries_joined (an_entry l e) f = an_entry l (entries_joined e f)

-- every name with its value
abbrev pub AllEntries : (List ℕ → Data → Type 0) → Members → Type 0
AllEntries P no_members = Unit {0}
AllEntries P (member k d ms) = P k d × AllEntries P ms

pub all_along : (P Q : List ℕ → Data → Type 0) → ((k : List ℕ) (d : Data) → P k d → Q k d) → (ms : Members) → AllEntries P ms → AllEntries Q ms
all_along P Q f no_members h = tt
all_along P Q f (member k d ms) h = (f k d h.0, all_along P Q f ms h.1)

pub all_joined : (P : List ℕ → Data → Type 0) (a b : Members) → AllEntries P a → AllEntries P b → AllEntries P (join_members a b)
all_joined P no_members b h i = i
all_joined P (member k d a) b h i = (h.0, all_joined P a b h.1 i)

pub each_has : (P : List ℕ → Data → Type 0) (ms : Members) (k : List ℕ) (d : Data) → AllEntries P ms → HasMember k d ms → P k d
each_has P no_members k d each there = absurd there
each_has P (member l e ms) k d each (inl one) = subst (λ x. P x d) (sym one.0) (subst (P l) (sym one.1) each.0)
each_has P (member l e ms) k d each (inr later) = each_has P ms k d each.1 later

pub has_found : (k : List ℕ) (d : Data) (ms : Members) → get_member k ms ≡ Some d → HasMember k d ms
has_found k d no_members h = cc
has_found k d (member l e ms) h = elim (meets k l) [ same f ↦ inl (f, same_Some d e (sym h ∙ get_same k l e ms f)) | other apart ↦ inr (has_found k d ms (sym (get_other k l e ms apart) ∙ h)) ]

-- what holds of each holds of what a name finds
pub entry_found : (P : List ℕ → Data → Type 0) (ms : Members) → AllEntries P ms → (k : List ℕ) (w : Data) → get_member k ms ≡ Some w → P k w
entry_found P ms each k w h = each_has P ms k w each (has_found k w ms h)

-- without a clash, each entry is what its name finds
pub found_each : (ms : Members) → NoClash ms → AllEntries (λ k d. get_member k ms ≡ Some d) ms
found_each no_members h = tt
found_each (member l e ms) h = (get_first l e ms, all_along (λ k d. get_member k ms ≡ Some d) (λ k d. get_member k (member l e ms) ≡ Some d) later ms (found_each ms h.1))
  where
    later : (k : List ℕ) (d : Data) → get_member k ms ≡ Some d → get_member k (member l e ms) ≡ Some d
    later k d f = elim (meets k l) [ same is ↦ absurd (some_is_none d (sym f ∙ ap (λ x. get_member x ms) is ∙ h.0)) | other apart ↦ get_other k l e ms apart ∙ f ]

-- a name that is not among those of several lists has no value there
any_append : (n : List ℕ) (xs ys : List (List ℕ)) → list_any (bytes_eq n) (xs ++ ys) ≡ false → (list_any (bytes_eq n) xs ≡ false) × (list_any (bytes_eq n) ys ≡ false)
any_append n xs ys h = or_parts (list_any (bytes_eq n) xs) (list_any (bytes_eq n) ys) (sym (list_any-append (bytes_eq n) xs ys) ∙ h)

-- a name that was not seen, and is not new, is no name of the list
new_absent : (n : List ℕ) (seen : List (List ℕ)) (ms : Members) → list_any (bytes_eq n) seen ≡ false → list_any (bytes_eq n) (new_names seen (names_of ms)) ≡ false → get_member n ms ≡ None
new_absent n seen no_members h i = refl
new_absent n seen (member l d ms) h i = elim (meets n l) [
  | same e ↦ grind (arith, (bytes_eq-Decides n l).1 e, e)
  | other apart ↦ grind (arith, get_other n l d ms apart, differs n l apart, new_absent n seen ms h)
]

pub no_values : (n : List ℕ) (cs : List Data) → list_any (bytes_eq n) (member_names cs) ≡ false → entry_values n cs ≡ []
no_values n [] h = refl
no_values n (c ∷ cs) h =
    let parts = any_append n (member_names cs) (new_names (member_names cs) (names_of (entries_of (items_in c)))) h in
    let none : get_member n (entries_of (items_in c)) ≡ None = new_absent n (member_names cs) (entries_of (items_in c)) parts.0 parts.1 in
    rw none (no_values n cs parts.0)

-- ---- the names of a map are in order

pub above_of : (k : String Global) (es : List Entry) → AllByRecursion (λ y. string_cmp k y ≡ Less) (keys_of es) → AllAbove (string_bytes k) (members_view es)
above_of k [] h = tt
above_of k (e ∷ es) h = (h.0, above_of k es h.1)

pub apart_of : (es : List Entry) → IsStrictlySortedBy string_cmp (keys_of es) → NoClash (members_view es)
unfolding IsStrictlySortedBy
apart_of [] h = tt
apart_of (e ∷ es) h = (get_none (string_bytes e.0) (members_view es) (above_of e.0 es h.0), apart_of es h.1)
