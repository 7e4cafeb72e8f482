-- What an index of entries answers is what a search of the entries answers.
use Rattle.std.proofs.Common.{inr, inl, Bor, ◌≡◌, ◌+◌, ◌||◌, ℕ, suc, List, [], ◌∷◌, length, Option, Some, None, option_map, unwrap_or, is_some, Bool, true, false, true≢false, refl, sym, ap, ◌∙◌, subst, arith}
use Rattle.std.proofs.{lemmas.Bool.{or_parts, le-ltb, lt-ltb, cases_Bool, cases_lt}, lemmas.Slice.Eq.bytes_eq-Decides}
use Rattle.std.specs.{BTreeMap.BTreeMap, List.{IsAmong, push}, Map.update, Option.{option_or, IfSome}, Slice.IsItemAt, Str.bytes_eq}
use Rattle.serde_json.specs.{Data.{Data, object, Items, no_items, item, Members, no_members, member}, Find.{get, get_member, get_item}, View.{view, items_view}}
use Rattle.serde_json.specs.declared.value.Value.{Value}
use Rattle.serde_json.proofs.Views.{get_item_within, get_item_past}
use Rattle.conf_inherit.specs.EntryIndex.{HasPlaces, place_at, place_if, place_from, lower, lowest}
use Rattle.conf_inherit.specs.{Laying.{has_entry, lay_over, lay_over_entry, lay_over_member}, Names.{entries_of, properties_of}}
use Rattle.conf_inherit.proofs.LayingLemmas.{over_entry, over_entries, same_function, same, other, meets, get_other, get_same, differs}

-- ---- the first place of a name

pub has_place : (i : ℕ) (n : List ℕ) (es : Items) → is_some (place_from i n es) ≡ has_entry n es
has_place i n no_items = refl
has_place i n (item e es) = elim (cases_Bool (is_some (get n e))) [ inl is ↦ rw is refl | inr is ↦ rw is (has_place (suc i) n es) ]

-- one entry more at the end of a list
pub place_pushed : (i : ℕ) (n : List ℕ) (vs : List Value) (v : Value) → place_from i n (items_view (push vs v)) ≡ option_or (place_from i n (items_view vs)) (place_if n (view v) (i + length vs))
place_pushed i n [] v = let e : i ≡ i + 0 = omega arith in ap (place_if n (view v)) e
place_pushed i n (w ∷ vs) v = grind (arith, place_pushed (suc i) n vs v)

pub length_pushed : (vs : List Value) (v : Value) → length (push vs v) ≡ length vs + 1
length_pushed [] v = refl
length_pushed (w ∷ vs) v = let e : suc (length vs + 1) ≡ suc (length vs) + 1 = omega arith in ap suc (length_pushed vs v) ∙ e

pub or_assoc : (a b c : Option ℕ) → option_or (option_or a b) c ≡ option_or a (option_or b c)
or_assoc a b c = grind arith

-- once a name is noted, the names that are left are still to be noted
pub noted : (old new : List ℕ → Option ℕ) (k : List ℕ) (place : ℕ) (d : Data) (ms : Members) → ((n : List ℕ) → new n ≡ update bytes_eq old k (Some place) n)
    → (n : List ℕ) → option_or (place_if n (object ms) place) (new n) ≡ option_or (place_if n (object (member k d ms)) place) (old n)
noted old new k place d ms put n = elim (meets n k) [
  | same e ↦ grind (arith, put n, (bytes_eq-Decides k n).1 (sym e), get_same n k d ms e)
  | other apart ↦ grind (arith, put n, differs k n (λ e. apart (sym e)), get_other n k d ms apart)
]

-- a list's places are one further on behind one more entry
place_later : (i : ℕ) (n : List ℕ) (es : Items) → place_from (suc i) n es ≡ option_map suc (place_from i n es)
place_later i n no_items = refl
place_later i n (item e es) = elim (cases_Bool (is_some (get n e))) [ inl is ↦ rw is refl | inr is ↦ rw is (place_later (suc i) n es) ]

-- ---- the lowest place of some names

lower_later : (o q : Option ℕ) → lower (option_map suc o) (option_map suc q) ≡ option_map suc (lower o q)
lower_later None q = refl
lower_later (Some i) None = refl
lower_later (Some i) (Some j) = elim (cases_lt j i) [ inl is ↦ rw (lt-ltb j i is, lt-ltb (suc j) (suc i) (omega arith)) refl | inr is ↦ rw (le-ltb j i is, le-ltb (suc j) (suc i) (omega arith)) refl ]

lower_first : (q : Option ℕ) → lower (Some 0) q ≡ Some 0
lower_first None = refl
lower_first (Some j) = rw (le-ltb j 0 (omega arith)) refl

lower_second : (o : Option ℕ) → lower (option_map suc o) (Some 0) ≡ Some 0
lower_second None = refl
lower_second (Some p) = rw (lt-ltb 0 (suc p) (omega arith)) refl

-- one of the names is that of a property of the value
abbrev shares : Members → Data → Bool
shares no_members e = false
shares (member n d ms) e = is_some (get n e) || shares ms e

lowest_later : (e : Data) (es : Items) (ms : Members) → shares ms e ≡ false → lowest (λ n. place_from 0 n (item e es)) ms ≡ option_map suc (lowest (λ n. place_from 0 n es) ms)
lowest_later e es no_members h = refl
lowest_later e es (member n d ms) h = grind (arith, place_later 0 n es, lowest_later e es ms, lower_later (place_from 0 n es) (lowest (λ n. place_from 0 n es) ms))

lowest_here : (e : Data) (es : Items) (ms : Members) → shares ms e ≡ true → lowest (λ n. place_from 0 n (item e es)) ms ≡ Some 0
lowest_here e es no_members h = absurd (true≢false (sym h))
lowest_here e es (member n d ms) h = grind (arith, lower_first, place_later 0 n es, lowest_here e es ms, lower_second)

none_shared : (b : Data) → ((n : List ℕ) → get n b ≡ None) → (ms : Members) → shares ms b ≡ false
none_shared b none no_members = refl
none_shared b none (member n d ms) = let f : is_some (get n b) ≡ false = ap is_some (none n) in rw f (none_shared b none ms)

shares_more : (n : List ℕ) (d : Data) (ms bs : Members) → shares bs (object (member n d ms)) ≡ (is_some (get_member n bs) || shares bs (object ms))
shares_more n d ms no_members = refl
shares_more n d ms (member l x bs) = elim (meets n l) [ same e ↦ grind (arith, get_same l n d ms (sym e), get_same n l x bs e) | other apart ↦ grind (arith, get_other l n d ms (λ e. apart (sym e)), get_other n l x bs apart, shares_more n d ms bs) ]

-- what an object's names share with an entry, the entry's share with the object
shares_turned : (ms bs : Members) → shares ms (object bs) ≡ shares bs (object ms)
shares_turned no_members bs = sym (none_shared (object no_members) (λ n. refl) bs)
shares_turned (member n d ms) bs = ap (λ t. is_some (get_member n bs) || t) (shares_turned ms bs) ∙ sym (shares_more n d ms bs)

shares_entry : (e : Data) (bs : Members) → shares (properties_of e) (object bs) ≡ shares bs e
shares_entry (object ms) bs = shares_turned ms bs
shares_entry _ bs = sym (none_shared _ (λ n. refl) bs)

-- where no name is shared, what comes later is laid
passed_members : (done ms : Members) (b rest : Data) → shares ms b ≡ false → lay_over_member done ms b rest ≡ rest
passed_members done no_members b rest h = refl
passed_members done (member n d ms) b rest h = let (none, later) = or_parts (is_some (get n b)) (shares ms b) h in rw none (passed_members done ms b rest later)

passed : (done bs : Members) (e rest : Data) → shares bs e ≡ false → lay_over_entry done e (object bs) rest ≡ rest
passed done bs e rest h = over_entry done e (object bs) rest ∙ passed_members done (properties_of e) (object bs) rest (shares_entry e bs ∙ h)

-- where a name is shared, it does not matter what comes later
decided_members : (done ms : Members) (b rest last : Data) → shares ms b ≡ true → lay_over_member done ms b rest ≡ lay_over_member done ms b last
decided_members done no_members b rest last h = absurd (true≢false (sym h))
decided_members done (member n d ms) b rest last h = elim (cases_Bool (is_some (get n b))) [ inl is ↦ rw is refl | inr is ↦ rw is (decided_members done ms b rest last (rw is at h)) ]

decided : (done bs : Members) (e rest last : Data) → shares bs e ≡ true → lay_over_entry done e (object bs) rest ≡ lay_over_entry done e (object bs) last
decided done bs e rest last h =
    over_entry done e (object bs) rest ∙ decided_members done (properties_of e) (object bs) rest last (shares_entry e bs ∙ h) ∙ sym (over_entry done e (object bs) last)

-- ---- the entry at the lowest place of a value's names is the one that is laid over it

-- the entry at the place, if there is one, is laid over the value, and else the value stays
abbrev pub Finds : Items → Data → Option ℕ → Type 0
Finds es b None = (done : Members) → lay_over done es b ≡ b
Finds es b (Some p) = (e : Data) × (get_item p es ≡ Some e) × ((done : Members) → lay_over done es b ≡ lay_over_entry done e b b)

finds_later : (e : Data) (es : Items) (bs : Members) → shares bs e ≡ false → (o : Option ℕ) → Finds es (object bs) o → Finds (item e es) (object bs) (option_map suc o)
finds_later e es bs is None h = λ done. passed done bs e (lay_over done es (object bs)) is ∙ h done
finds_later e es bs is (Some p) (x, at, laid) = (x, at, λ done. passed done bs e (lay_over done es (object bs)) is ∙ laid done)

none_low : (bs : Members) → lowest (λ n. place_from 0 n no_items) bs ≡ None
none_low no_members = refl
none_low (member n d bs) = none_low bs

finds_object : (es : Items) (bs : Members) → Finds es (object bs) (lowest (λ n. place_from 0 n es) bs)
finds_object no_items bs = subst (Finds no_items (object bs)) (sym (none_low bs)) (λ done. refl)
finds_object (item e es) bs = elim (cases_Bool (shares bs e)) [
  | inl is ↦ subst (Finds (item e es) (object bs)) (sym (lowest_here e es bs is)) (e, refl, λ done. decided done bs e (lay_over done es (object bs)) (object bs) is)
  | inr is ↦ subst (Finds (item e es) (object bs)) (sym (lowest_later e es bs is)) (finds_later e es bs is _ (finds_object es bs))
]

finds : (es : Items) (b : Data) → Finds es b (lowest (λ n. place_from 0 n es) (properties_of b))
finds es (object bs) = finds_object es bs
finds es _ = λ done. over_entries done es _ ∙ passed_members done (entries_of es) _ _ (none_shared _ (λ n. refl) (entries_of es))

pub found_by_index : (es : Items) (b : Data) (places : BTreeMap (Bor (List ℕ)) ℕ) (o : Option ℕ) → HasPlaces places es → lowest (λ n. place_at places n) (properties_of b) ≡ o → Finds es b o
found_by_index es b places o placed is =
    subst (Finds es b) (ap (λ f. lowest f (properties_of b)) (sym (same_function (λ n. place_at places n) (λ n. place_from 0 n es) placed)) ∙ is) (finds es b)

-- the item at a place, as data
item_at : (vs : List Value) (p : ℕ) (r : Option (Bor Value)) → IsItemAt vs p r → option_map (λ x. view x.now) r ≡ get_item p (items_view vs)
item_at vs p None h = get_item_past vs p h.3
item_at vs p (Some x) h = ap (λ v. Some (view v)) h.1 ∙ get_item_within vs p x.now h.3.0

-- the item that is found is the one that is laid over the value
pub found_first : (vs : List Value) (b : Data) (p : ℕ) (r : Option (Bor Value)) → Finds (items_view vs) b (Some p) → IsItemAt vs p r
    → (done : Members) → lay_over done (items_view vs) b ≡ unwrap_or (option_map (λ e. lay_over_entry done e b b) (option_map (λ e. view e.now) r)) b
found_first vs b p r (e, at, laid) h done = laid done ∙ ap (λ o. unwrap_or (option_map (λ e. lay_over_entry done e b b) o) b) (sym (item_at vs p r h ∙ at))

-- it is one of the items
pub among_items : (vs : List Value) (p : ℕ) (r : Option (Bor Value)) → IsItemAt vs p r → IfSome r (λ x. IsAmong vs x.now)
among_items vs p None h = tt
among_items vs p (Some x) h = (p, (h.3.0, h.1))
