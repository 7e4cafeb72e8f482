-- What a value without a flaw is, and what is told of each flaw of a value.
use Rattle.std.proofs.Common.{cond, ◌≡◌, ◌&&◌, ◌++◌, inl, inr, ℕ, zero, suc, List, [], ◌∷◌, map, Option, Some, None, is_some, Bool, true, false, not, true≢false, refl, sym, ap, ◌∙◌, subst, ◌<◌, ◌+◌, ◌⊎◌, Err, arith, ◌||◌, Ok, nat_cmp, nat_lt, length, Vec, Global}
use Rattle.std.proofs.lemmas.{Bool.{and_parts, cases_Bool, or_parts, and_left, and_right, and_from}, Option.{same_Some}}
use Rattle.std.specs.{Prelude.⊤, Borrow.Bor, BTreeMap.{is_at, insert_entry}, Cmp.Lexicographic.slice_cmp, Map.lookup}
use Rattle.serde_json.specs.{Data.{Data, null, string, array, object, Items, no_items, item, Members, no_members, member, put}, Find.{get_member, get_item}}
use Rattle.serde_json.specs.{View.{view, items_view}, declared.value.Value.{Value, Array}}
use Rattle.serde_json.proofs.Views.{get_member-put, get_member-put_other, items_len-items_view, view-Array}
use Rattle.ctf_types.specs.declared.limits.TheConstants.{MAX_CONFIG_MEMBERS}
use Rattle.conf_tree.specs.{Flaw.{key, index, within, Flaw, Place as Step, here}, Walk.{HasMember, refusal}}
use Rattle.conf_tree.specs.declared.fault_kind.FaultKind.{FaultKind}
use Rattle.conf_tree.specs.declared.fault_kind.FaultKind.TheVariants.{WrongKind, NoSuchAlias, NameClash, Limit}
use Rattle.conf_table.specs.declared.place.Place.{Place}
use Rattle.conf_table.specs.declared.place.Place.TheVariants as places
use Rattle.conf_inherit.specs.{FieldPlaces.{place_under, place_of_items, names_type, names_alias, names_member_type, is_base_name, lists_members, lists_extra_members, is_entry}, Names.{entries_of, NoClash}}
use Rattle.conf_inherit.specs.Flaws.{is_wrong, is_no_entry, is_no_member, known_in, name_fault, is_crowded, fault_or, own_flaws, limits, is_alone, alone_flaws, is_outside, inner_flaws, item_flaws, member_flaws, value_flaws, mark, mark_names}
use Rattle.conf_inherit.specs.{Named.{Names, all_named, all_named_in_items, all_named_in_members, has}}
use Rattle.conf_inherit.specs.{Faults.{Leads, HasEntry, Tells, FlawHolds}, Circle.{Mentions, MentionsInItems, MentionsInMembers}, SeenNames.members_named}
use Rattle.conf_inherit.proofs.{FieldPlaceLemmas.{list_place, entry_list, ignored_under, unlisted_place}, LayingLemmas.{get_other, same, other, meets, stands}}

pub part_empty : {A B : Type 0} (f : A → B) (xs : List A) (ys : List B) → map f xs ++ ys ≡ [] → (xs ≡ []) × (ys ≡ [])
part_empty f [] ys e = (refl, e)
part_empty f (x ∷ xs) ys e = absurd cc

pub joined_empty : {A : Type 0} (xs ys : List A) → xs ++ ys ≡ [] → (xs ≡ []) × (ys ≡ [])
joined_empty [] ys e = (refl, e)
joined_empty (x ∷ xs) ys e = absurd cc

pub same_part : (f : Flaw → Flaw) (a b c x y z : List Flaw) → a ≡ x → b ≡ y → c ≡ z → map f (a ++ b) ++ c ≡ map f (x ++ y) ++ z
same_part f a b c x y z p q r = cc

pub some_of : {A : Type 0} (o : Option A) → is_some o ≡ true → (x : A) × (o ≡ Some x)
some_of None h = absurd (true≢false (sym h))
some_of (Some x) h = (x, refl)

none_refused : (a : Bool) (o : Option FaultKind) (b c : Bool) → cond a (here WrongKind ∷ []) (fault_or o (cond b (here NameClash ∷ []) (cond c (here Limit ∷ []) []))) ≡ [] → (a ≡ false) × (o ≡ None) × (b ≡ false) × (c ≡ false)
none_refused true o b c e = absurd cc
none_refused false (Some kind) b c e = absurd cc
none_refused false None b c e = grind arith

-- a value without a flaw of its own is not of a wrong kind, its name is known, and not taken, nor has it too many members
pub record OwnSound (ask : List ℕ → Option FaultKind) (s : Place) (taken : Bool) (v : Data) : Type 0 where
  pub right : is_wrong s v ≡ false
  pub known : name_fault ask s v ≡ None
  pub free : taken ≡ false
  pub few : is_crowded s v ≡ false

pub own_sound : (ask : List ℕ → Option FaultKind) (s : Place) (taken : Bool) (v : Data) → own_flaws ask s taken v ≡ [] → OwnSound ask s taken v
unfolding own_flaws
own_sound ask s taken v h = let none = none_refused (is_wrong s v) (name_fault ask s v) taken (is_crowded s v) h in record { right = none.0; known = none.1; free = none.2; few = none.3 }

-- a name that is asked passes a test that every name in a value passes
pub passes_text : (p : List ℕ → Bool) (s : Place) (n : List ℕ) → Names s → all_named p s (string n) ≡ true → p n ≡ true
passes_text p s n is h = rw is at h

-- an entry without a flaw is an object of one property
pub single_entry : (v : Data) → is_wrong places.Entry v ≡ false → is_no_entry v ≡ false
unfolding is_entry lists_members
single_entry v h = (or_parts (is_no_entry v) (names_member_type places.Entry && is_no_member v) h).0

-- the entries of a members list without a flaw have names of their own, which none before them has
pub record Apart (seen : Members) (es : Members) : Type 0 where
  pub distinct : NoClash es
  pub new : (n : List ℕ) → has seen n ≡ true → get_member n es ≡ None

-- a name that is put is there, and what was there is there still
pub is_put : (k : List ℕ) (r : Data) (ms : Members) → has (put k r ms) k ≡ true
is_put k r ms = ap is_some (get_member-put k r ms)

pub is_still : (k : List ℕ) (r : Data) (ms : Members) (n : List ℕ) → has ms n ≡ true → has (put k r ms) n ≡ true
is_still k r ms n h = elim (meets n k) [ same e ↦ ap (has (put k r ms)) e ∙ is_put k r ms | other apart ↦ ap is_some (get_member-put_other n k r ms apart) ∙ h ]

some_or_none : (n : List ℕ) (ms : Members) → has ms n ≡ false → (q : List ℕ) → has ms q ≡ true → q ≡ n → ⊥
some_or_none n ms h q f e = true≢false (sym f ∙ ap (has ms) e ∙ h)

apart_more : (n : List ℕ) (d : Data) (seen es : Members) → has seen n ≡ false → Apart (put n null seen) es → Apart seen (member n d es)
apart_more n d seen es h a = record {
  distinct = (a.new n (is_put n null seen), a.distinct);
  new = λ q f. get_other q n d es (some_or_none n seen h q f) ∙ a.new q (ap is_some (get_member-put_other q n null seen (some_or_none n seen h q f)) ∙ f);
}

module _ (ask : List ℕ → Option FaultKind) (rs : Option Members) (outside : Bool) where
  apart_at : (s : Place) (i : ℕ) (seen : Members) (v : Data) (es : Items) → is_no_entry v ≡ false → inner_flaws ask rs outside places.Entry seen v ≡ [] → (Apart (mark v seen) (entries_of es)) → Apart seen (entries_of (item v es))
  unfolding is_entry
  apart_at s i seen (object (member n d no_members)) es single h a =
      let own = (joined_empty _ _ (joined_empty _ _ (part_empty (within (key n)) _ _ h).0).0).0 in
      let free : has seen n ≡ false = (own_sound ask (place_under places.Entry n) (is_entry places.Entry && has seen n) d own).free in
      apart_more n d seen (entries_of es) free a
  apart_at s i seen (object (member n d (member m e ms))) es single h a = absurd (true≢false single)
  apart_at s i seen (object no_members) es single h a = absurd (true≢false single)
  apart_at s i seen _ es single h a = absurd (true≢false single)

  apart_entries : (s : Place) (i : ℕ) (seen : Members) (es : Items) → place_of_items s ≡ places.Entry → item_flaws ask rs outside s i seen es ≡ [] → Apart seen (entries_of es)
  apart_entries s i seen no_items place h = record { distinct = tt; new = λ n f. refl }
  apart_entries s i seen (item v es) place h =
      let (mine, later) = part_empty (within (index i)) _ _ h in
      let (own, inner) = joined_empty _ _ (subst (λ x. value_flaws ask rs outside x false seen v ≡ []) place mine) in
      apart_at s i seen v es (single_entry v (own_sound ask places.Entry false v own).right) inner (apart_entries s (suc i) (mark v seen) es place later)

-- a value has no flaw of its own, nor one inside
pub record SoundAt (al : Members) (s : Place) (v : Data) : Type 0 where
  pub resolved : Option Members
  pub outside : Bool
  pub taken : Bool
  pub seen : Members
  pub sound : value_flaws (known_in al) resolved outside s taken seen v ≡ []

-- so the entries of a members list have names of their own
pub sound_entries : (al : Members) (s : Place) (es : Items) → lists_members s ≡ true → SoundAt al s (array es) → NoClash (entries_of es)
sound_entries al s es is h = (apart_entries (known_in al) h.resolved h.outside s 0 no_members es (list_place s is) (joined_empty _ _ h.sound).1).distinct

-- The parts of a value without a flaw: none of them has one.

module _ (ask : List ℕ → Option FaultKind) (known : Option Members) (outside : Bool) where
  -- a property has no flaw, nor, where it is a field type that is no part of another, a limit
  pub member_sound : (s : Place) (seen ms : Members) (k : List ℕ) (d : Data) → member_flaws ask known outside s seen ms ≡ [] → HasMember k d ms
      → (value_flaws ask known (is_outside outside (place_under s k)) (place_under s k) (is_entry s && is_some (get_member k seen)) no_members d ≡ []) × (alone_flaws known outside s k d ≡ [])
  member_sound s seen no_members k d e there = absurd there
  member_sound s seen (member l v ms) k d e (inl one) = rw (one.0, one.1) (joined_empty _ _ (part_empty (within (key l)) _ _ e).0)
  member_sound s seen (member l v ms) k d e (inr later) = member_sound s seen ms k d (part_empty (within (key l)) _ _ e).1 later

  -- nor has an item, behind those before it
  pub item_sound : (s : Place) (i : ℕ) (seen : Members) (es : Items) (j : ℕ) (e : Data) → item_flaws ask known outside s i seen es ≡ [] → get_item j es ≡ Some e → (before : Members) × (value_flaws ask known outside (place_of_items s) false before e ≡ [])
  item_sound s i seen no_items j e none there = absurd cc
  item_sound s i seen (item x es) zero e none there = (seen, subst (λ y. value_flaws ask known outside (place_of_items s) false seen y ≡ []) (same_Some x e there) (part_empty (within (index i)) _ _ none).0)
  item_sound s i seen (item x es) (suc j) e none there = item_sound s (suc i) (mark x seen) es j e (part_empty (within (index i)) _ _ none).1 there

pub sound_under : (al : Members) (s : Place) (ms : Members) (k : List ℕ) (d : Data) → SoundAt al s (object ms) → HasMember k d ms → SoundAt al (place_under s k) d
sound_under al s ms k d h there = record {
  resolved = h.resolved;
  outside = is_outside h.outside (place_under s k);
  taken = is_entry s && is_some (get_member k h.seen);
  seen = no_members;
  sound = (member_sound (known_in al) h.resolved h.outside s h.seen ms k d (joined_empty _ _ h.sound).1 there).0;
}

-- ---- where nothing has a meaning, nothing is wrong

module _ (ask : List ℕ → Option FaultKind) (known : Option Members) where
  own_ignored : (v : Data) → own_flaws ask places.Ignored false v ≡ []
  unfolding own_flaws lists_members lists_extra_members is_entry names_alias names_member_type
  own_ignored (string n) = refl
  own_ignored (array es) = refl
  own_ignored _ = refl

  no_limit : (outside : Bool) (k : List ℕ) (d : Data) → alone_flaws known outside places.Ignored k d ≡ []
  unfolding alone_flaws is_base_name names_alias names_member_type
  no_limit true k d = rw (ignored_under k) refl
  no_limit false k d = refl

  mutual
    unfolding place_of_items is_entry

    ignored_at : (v : Data) (outside : Bool) (seen : Members) → inner_flaws ask known outside places.Ignored seen v ≡ []
    ignored_at (array es) outside seen = ignored_items es outside places.Ignored 0 no_members refl
    ignored_at (object ms) outside seen = ignored_members ms outside seen
    ignored_at _ outside seen = refl

    ignored_items : (es : Items) (outside : Bool) (s : Place) (i : ℕ) (seen : Members) → place_of_items s ≡ places.Ignored → item_flaws ask known outside s i seen es ≡ []
    ignored_items no_items outside s i seen is = refl
    ignored_items (item e es) outside s i seen is =
        let mine : value_flaws ask known outside (place_of_items s) false seen e ≡ [] = subst (λ t. value_flaws ask known outside t false seen e ≡ []) (sym is) (rw (own_ignored e) (ignored_at e outside seen)) in
        ap (λ fs. map (within (index i)) fs ++ item_flaws ask known outside s (suc i) (mark e seen) es) mine ∙ ignored_items es outside s (suc i) (mark e seen) is

    ignored_members : (ms : Members) (outside : Bool) (seen : Members) → member_flaws ask known outside places.Ignored seen ms ≡ []
    ignored_members no_members outside seen = refl
    ignored_members (member k d ms) outside seen =
        let mine : value_flaws ask known (is_outside outside (place_under places.Ignored k)) (place_under places.Ignored k) false no_members d ≡ [] =
        subst (λ t. value_flaws ask known (is_outside outside t) t false no_members d ≡ []) (sym (ignored_under k)) (rw (own_ignored d) (ignored_at d (is_outside outside places.Ignored) no_members)) in
        same_part (within (key k)) _ _ _ [] [] [] mine (no_limit outside k d) (ignored_members ms outside seen)

-- so nothing is in a list that is no members list
pub unlisted : (ask : List ℕ → Option FaultKind) (known : Option Members) (outside : Bool) (s : Place) (seen : Members) (v : Value) (vs : Vec Value Global) (listed : Bool) → v ≡ Array vs → listed ≡ lists_members s → listed ≡ false → inner_flaws ask known outside s seen (view v) ≡ []
unlisted ask known outside s seen v vs listed is at none = rw (ap view is ∙ view-Array vs) (ignored_items ask known (items_view vs.items) outside s 0 no_members (unlisted_place s (sym at ∙ none)))

-- Each flaw that is listed holds at its path.

-- P is told of each flaw of a list
pub data Each (P : Flaw → Type 0) : List Flaw → Type 0 where
  no_flaw : Each P []
  a_flaw : {f : Flaw} {fs : List Flaw} → P f → Each P fs → Each P (f ∷ fs)

pub joined : {P : Flaw → Type 0} {xs ys : List Flaw} → Each P xs → Each P ys → Each P (xs ++ ys)
joined no_flaw h = h
joined (a_flaw p ps) h = a_flaw p (joined ps h)

pub each_along : {P Q : Flaw → Type 0} {xs : List Flaw} → ((f : Flaw) → P f → Q f) → Each P xs → Each Q xs
each_along along no_flaw = no_flaw
each_along along (a_flaw p ps) = a_flaw (along _ p) (each_along along ps)

pub part : {P : Flaw → Type 0} (p : Step) {xs : List Flaw} → Each (λ f. P (within p f)) xs → Each P (map (within p) xs)
part p no_flaw = no_flaw
part p (a_flaw h hs) = a_flaw h (part p hs)

pub first_told : {P : Flaw → Type 0} {fs : List Flaw} (f : Flaw) → Each P fs → refusal fs ≡ Err f → P f
first_told f no_flaw e = absurd cc
first_told {P} f (a_flaw {f = g} p ps) e = let same : g ≡ f = cc in subst P same p

module _ (al : Members) where
  -- one step further out
  further : (p : Step) (s t : Place) (v d : Data) → ((path : List Step) (u : Place) (w : Data) → Leads t d path u w → Leads s v (p ∷ path) u w) → (f : Flaw) → FlawHolds al t d f → FlawHolds al s v (within p f)
  further p s t v d out f (inl (u, w, leads, says)) = inl (u, w, out f.path u w leads, says)
  further p s t v d out f (inr (inl (e, (front, u, es, i, j, n, path, leads, lists, below, a, b)))) = inr (inl (e, (p ∷ front, u, es, i, j, n, ap (λ q. p ∷ q) path, out front u (array es) leads, lists, below, a, b)))
  further p s t v d out f (inr (inr (e, (front, n, path, leads, walks)))) = inr (inr (e, (p ∷ front, n, ap (λ q. p ∷ q) path, out front places.FieldTypeAliases (object al) leads, walks)))

  pub holds_in_object : (s : Place) (k : List ℕ) (d : Data) (ms : Members) (f : Flaw) → HasMember k d ms → FlawHolds al (place_under s k) d f → FlawHolds al s (object ms) (within (key k) f)
  holds_in_object s k d ms f there h = further (key k) s (place_under s k) (object ms) d (λ path u w leads. (ms, d, refl, there, leads)) f h

  pub holds_in_list : (s : Place) (i : ℕ) (d : Data) (es : Items) (f : Flaw) → get_item i es ≡ Some d → FlawHolds al (place_of_items s) d f → FlawHolds al s (array es) (within (index i) f)
  holds_in_list s i d es f there h = further (index i) s (place_of_items s) (array es) d (λ path u w leads. (es, d, refl, there, leads)) f h

-- the name of an entry that one before it has
abbrev pub Taken : Place → Members → Data → Flaw → Type 0
Taken s seen v f = (n : List ℕ) × (d : Data) × (ms : Members) × (v ≡ object ms) × HasMember n d ms × (is_entry s ≡ true) × (has seen n ≡ true) × (f ≡ within (key n) (here NameClash))

-- the names that are seen are those of entries before the place i
abbrev pub Seen : Items → ℕ → Members → Type 0
Seen es i seen = (n : List ℕ) → has seen n ≡ true → (j : ℕ) × (j < i) × HasEntry j n es

-- what is left of a list stands from the place i on
abbrev pub Aligned : Items → ℕ → Items → Type 0
Aligned es i rest = (j : ℕ) (d : Data) → get_item j rest ≡ Some d → get_item (i + j) es ≡ Some d

pub aligned_all : (es : Items) → Aligned es 0 es
aligned_all es j d f = let same : j ≡ 0 + j = omega arith in subst (λ x. get_item x es ≡ Some d) same f

pub aligned_next : (es : Items) (i : ℕ) (e : Data) (rest : Items) → Aligned es i (item e rest) → Aligned es (suc i) rest
aligned_next es i e rest h j d f = let same : i + suc j ≡ suc i + j = omega arith in subst (λ x. get_item x es ≡ Some d) same (h (suc j) d f)

pub aligned_here : (es : Items) (i : ℕ) (e : Data) (rest : Items) → Aligned es i (item e rest) → get_item i es ≡ Some e
aligned_here es i e rest h = let same : i + 0 ≡ i = omega arith in subst (λ x. get_item x es ≡ Some e) same (h 0 e refl)

has_marked : (ms seen : Members) (n : List ℕ) → has (mark_names ms seen) n ≡ true → (has seen n ≡ true) ⊎ ((d : Data) × HasMember n d ms)
has_marked no_members seen n h = inl h
has_marked (member k d ms) seen n h = elim (has_marked ms (put k null seen) n h) [
  | inl f ↦ elim (meets n k) [ same e ↦ inr (d, inl (e, refl)) | other apart ↦ inl (ap is_some (sym (get_member-put_other n k null seen apart)) ∙ f) ]
  | inr (e, m) ↦ inr (e, inr m)
]

pub seen_next_at : (es : Items) (i : ℕ) (e : Data) (seen : Members) → get_item i es ≡ Some e → Seen es i seen → (n : List ℕ) → has (mark e seen) n ≡ true → (j : ℕ) × (j < suc i) × HasEntry j n es
seen_next_at es i (object ms) seen is before n h = elim (has_marked ms seen n h) [
  | inl f ↦ (let (j, lt, m) = before n f in (j, (let up : j < suc i = omega (arith, lt) in up), m))
  | inr (d, m) ↦ (i, omega arith, (ms, d, is, m))
]
seen_next_at es i _ seen is before n h = let (j, lt, m) = before n h in (j, (let up : j < suc i = omega (arith, lt) in up), m)

pub none_seen : (n : List ℕ) → has no_members n ≡ true → ⊥
none_seen n h = true≢false (sym h)

-- what is told of a flaw in a part is told of it in the whole, and it is told of each flaw that a value has by itself
pub record IsTold (ask : List ℕ → Option FaultKind) (rs : Option Members) (top : Bool) (P : Place → Data → Flaw → Type 0) : Type 0 where
  pub in_object : (s : Place) (k : List ℕ) (d : Data) (ms : Members) (f : Flaw) → HasMember k d ms → P (place_under s k) d f → P s (object ms) (within (key k) f)
  pub in_list : (s : Place) (i : ℕ) (d : Data) (es : Items) (f : Flaw) → get_item i es ≡ Some d → P (place_of_items s) d f → P s (array es) (within (index i) f)
  pub wrong : (s : Place) (v : Data) → is_wrong s v ≡ true → P s v (here WrongKind)
  pub misnamed : (s : Place) (v : Data) (kind : FaultKind) → name_fault ask s v ≡ Some kind → P s v (here kind)
  pub crowded : (s : Place) (v : Data) → is_crowded s v ≡ true → P s v (here Limit)
  pub clash : (s : Place) (es : Items) (i j : ℕ) (n : List ℕ) → lists_members s ≡ true → j < i → HasEntry j n es → HasEntry i n es → P s (array es) (within (index i) (within (key n) (here NameClash)))
  pub alone : (s : Place) (k : List ℕ) (d : Data) → is_alone top s k ≡ true → Each (P (place_under s k) d) (limits rs (place_under s k) d)

-- what is said of each kind that a flaw of a value may have, or else the flaw holds at its path
abbrev pub HoldsOr : (FaultKind → Type 0) → Members → Place → Data → Flaw → Type 0
HoldsOr Q al s v f = Q f.kind ⊎ FlawHolds al s v f

-- it holds where the limits that are listed of field types do, and each name that is wrong is no alias's
module _ (Q : FaultKind → Type 0) (al : Members) (ask : List ℕ → Option FaultKind) (names : (n : List ℕ) (kind : FaultKind) → ask n ≡ Some kind → Q kind ⊎ ((kind ≡ NoSuchAlias) × (has al n ≡ false))) where
  misnamed_told : (s : Place) (v : Data) (kind : FaultKind) → name_fault ask s v ≡ Some kind → HoldsOr Q al s v (here kind)
  misnamed_told s (string n) kind h = elim (cases_Bool (names_type s)) [
    | inl is ↦ elim (names n kind (rw is at h)) [
      | inl q ↦ inl q
      | inr (one, none) ↦ inr (inl (s, string n, (refl, refl), inl (subst (λ k. Tells al k s (string n)) (sym one) (rw (is, none) refl))))
    ]
    | inr is ↦ absurd (let bad : None ≡ Some kind = rw is at h in cc)
  ]
  misnamed_told s _ kind h = absurd cc

  pub holds_told : (rs : Option Members) → ((s : Place) (k : List ℕ) (d : Data) → is_alone true s k ≡ true → Each (FlawHolds al (place_under s k) d) (limits rs (place_under s k) d)) → IsTold ask rs true (HoldsOr Q al)
  holds_told rs alone = record {
    in_object = λ s k d ms f there h. elim h [ inl q ↦ inl q | inr x ↦ inr (holds_in_object al s k d ms f there x) ];
    in_list = λ s i d es f there h. elim h [ inl q ↦ inl q | inr x ↦ inr (holds_in_list al s i d es f there x) ];
    wrong = λ s v is. inr (inl (s, v, (refl, refl), inl is));
    misnamed = misnamed_told;
    crowded = λ s v is. inr (inl (s, v, (refl, refl), inl is));
    clash = λ s es i j n lists before first second. inr (inr (inl (refl, ([], s, es, j, i, n, refl, (refl, refl), lists, before, first, second))));
    alone = λ s k d is. each_along (λ f x. inr x) (alone s k d is);
  }

more_alone : (base out more type : Bool) → (out ≡ true → more ≡ true) → (base || (out && type)) ≡ true → (base || (more && type)) ≡ true
more_alone true out more type less h = refl
more_alone false true more type less h = rw (less refl) h
more_alone false false more type less h = absurd (true≢false (sym h))

module _ (ask : List ℕ → Option FaultKind) (rs : Option Members) (top : Bool) (P : Place → Data → Flaw → Type 0) (told : IsTold ask rs top P) where
  -- it is told of a flaw that a value has by itself, or its name is taken
  own_told : (s : Place) (taken : Bool) (v : Data) → Each (λ f. P s v f ⊎ ((f ≡ here NameClash) × (taken ≡ true))) (own_flaws ask s taken v)
  unfolding own_flaws
  own_told s taken v = go (is_wrong s v) refl (name_fault ask s v) refl taken (is_crowded s v) refl
    where
      go : (a : Bool) → is_wrong s v ≡ a → (o : Option FaultKind) → name_fault ask s v ≡ o → (c d : Bool) → is_crowded s v ≡ d → Each (λ f. P s v f ⊎ ((f ≡ here NameClash) × (c ≡ true))) (own_flaws ask s c v)
      go true a o b c d d' = rw a (a_flaw (inl (told.wrong s v a)) no_flaw)
      go false a (Some kind) b c d d' = rw (a, b) (a_flaw (inl (told.misnamed s v kind b)) no_flaw)
      go false a None b true d d' = rw (a, b) (a_flaw (inr (refl, refl)) no_flaw)
      go false a None b false true d = rw (a, b, d) (a_flaw (inl (told.crowded s v d)) no_flaw)
      go false a None b false false d = rw (a, b, d) no_flaw

  -- and of the limit of a field type that is no part of another
  alone_told : (outside : Bool) → (outside ≡ true → top ≡ true) → (s : Place) (k : List ℕ) (d : Data) → Each (P (place_under s k) d) (alone_flaws rs outside s k d)
  unfolding alone_flaws
  alone_told outside less s k d = elim (cases_Bool (is_alone outside s k)) [
    | inl is ↦ rw is (told.alone s k d (more_alone (is_base_name s k) outside top (names_type (place_under s k)) less is))
    | inr is ↦ rw is no_flaw
  ]

  pub of_itself : (s : Place) (v : Data) → Each (P s v) (own_flaws ask s false v)
  of_itself s v = each_along (λ f h. elim h [ inl x ↦ x | inr bad ↦ absurd (true≢false (sym bad.1)) ]) (own_told s false v)

  -- a flaw of an item is told of the list
  item_told : (s : Place) (es : Items) (i : ℕ) (seen : Members) (e : Data) → get_item i es ≡ Some e → Seen es i seen → (f : Flaw) → P (place_of_items s) e f ⊎ Taken (place_of_items s) seen e f → P s (array es) (within (index i) f)
  item_told s es i seen e there before f (inl x) = told.in_list s i e es f there x
  item_told s es i seen e there before f (inr (n, d, ms, v, m, entry, b, flaw)) =
      let (j, lt, first) = before n b in
      subst (λ g. P s (array es) (within (index i) g)) (sym flaw) (told.clash s es i j n (entry_list s entry) lt first (ms, d, there ∙ ap Some v, m))

  -- the name of an entry is a flaw of the entry, where it is taken
  name_told : (s : Place) (ms : Members) (seen : Members) (k : List ℕ) (d : Data) → HasMember k d ms → (f : Flaw) → P (place_under s k) d f ⊎ ((f ≡ here NameClash) × (is_entry s && has seen k ≡ true))
      → P s (object ms) (within (key k) f) ⊎ Taken s seen (object ms) (within (key k) f)
  name_told s ms seen k d m f (inl x) = inl (told.in_object s k d ms f m x)
  name_told s ms seen k d m f (inr (clash, both)) = let (entry, there) = and_parts (is_entry s) (has seen k) both in inr (k, d, ms, refl, m, entry, there, ap (within (key k)) clash)

  mutual
    inner_told : (v : Data) (outside : Bool) → (outside ≡ true → top ≡ true) → (s : Place) (seen : Members) → Each (λ f. P s v f ⊎ Taken s seen v f) (inner_flaws ask rs outside s seen v)
    inner_told (array es) outside less s seen = each_along (λ f x. inl x) (items_told es outside less s es 0 no_members (aligned_all es) (λ n b. absurd (none_seen n b)))
    inner_told (object ms) outside less s seen = members_told ms outside less s ms seen (λ k d m. m)
    inner_told _ outside less s seen = no_flaw

    items_told : (rest : Items) (outside : Bool) → (outside ≡ true → top ≡ true) → (s : Place) (es : Items) (i : ℕ) (seen : Members) → Aligned es i rest → Seen es i seen → Each (P s (array es)) (item_flaws ask rs outside s i seen rest)
    items_told no_items outside less s es i seen left before = no_flaw
    items_told (item e rest) outside less s es i seen left before =
        let there = aligned_here es i e rest left in
        joined (part (index i) (joined (each_along (λ f x. told.in_list s i e es f there x) (of_itself (place_of_items s) e)) (each_along (item_told s es i seen e there before) (inner_told e outside less (place_of_items s) seen))))
        (items_told rest outside less s es (suc i) (mark e seen) (aligned_next es i e rest left) (seen_next_at es i e seen there before))

    members_told : (rest : Members) (outside : Bool) → (outside ≡ true → top ≡ true) → (s : Place) (ms : Members) (seen : Members) → ((k : List ℕ) (d : Data) → HasMember k d rest → HasMember k d ms)
        → Each (λ f. P s (object ms) f ⊎ Taken s seen (object ms) f) (member_flaws ask rs outside s seen rest)
    members_told no_members outside less s ms seen sub = no_flaw
    members_told (member k d rest) outside less s ms seen sub =
        let there = sub k d (inl (refl, refl)) in
        joined (part (key k) (joined (joined
        (each_along (name_told s ms seen k d there) (own_told (place_under s k) (is_entry s && has seen k) d))
        (each_along (λ f h. elim h [ inl x ↦ inl (told.in_object s k d ms f there x) | inr bad ↦ absurd (none_seen bad.0 bad.6) ]) (inner_told d (is_outside outside (place_under s k)) (λ h. less (and_parts outside (not (names_type (place_under s k))) h).0) (place_under s k) no_members)))
        (each_along (λ f x. inl (told.in_object s k d ms f there x)) (alone_told outside less s k d))))
        (members_told rest outside less s ms seen (λ q e m. sub q e (inr m)))

  -- it is told of each flaw of a value, with no entry before it
  pub flaws_told : (outside : Bool) → (outside ≡ true → top ≡ true) → (s : Place) (v : Data) → Each (P s v) (value_flaws ask rs outside s false no_members v)
  flaws_told outside less s v = joined (of_itself s v) (each_along (λ f h. elim h [ inl x ↦ x | inr bad ↦ absurd (none_seen bad.0 bad.6) ]) (inner_told v outside less s no_members))

-- The names of aliases in a value: where one test passes and another doesn't, and that a value without a flaw
-- names aliases alone.

-- a test passes every name, or is open for one
abbrev Decided : (List ℕ → Bool) → Bool → (List ℕ → Type 0) → Type 0
Decided p b In = ((b ≡ true) × ((m : List ℕ) → In m → p m ≡ true)) ⊎ ((b ≡ false) × ((m : List ℕ) × In m × (p m ≡ false)))

both_decided : (p : List ℕ → Bool) (a b : Bool) (In On : List ℕ → Type 0) → Decided p a In → Decided p b On → Decided p (a && b) (λ m. In m ⊎ On m)
both_decided p a b In On (inl (x, f)) (inl (y, g)) = inl (and_from a b x y, λ m h. elim h [ inl i ↦ f m i | inr i ↦ g m i ])
both_decided p a b In On (inl (x, f)) (inr (y, (m, i, off))) = inr (and_right a b y, (m, inr i, off))
both_decided p a b In On (inr (x, (m, i, off))) t = inr (and_left a b x, (m, inl i, off))

abbrev pub Blocks : (List ℕ → Bool) → Place → Data → Type 0
Blocks p s v = (m : List ℕ) × Mentions m s v × (p m ≡ false)

blocks_text : (p : List ℕ → Bool) (s : Place) (n : List ℕ) → all_named p s (string n) ≡ false → Blocks p s (string n)
blocks_text p s n h = elim (cases_Bool (names_type s)) [ inl e ↦ (n, (e, refl), rw e at h) | inr e ↦ absurd (true≢false (rw e at h)) ]

mutual
  decided : (p : List ℕ → Bool) (v : Data) (s : Place) → Decided p (all_named p s v) (λ m. Mentions m s v)
  decided p (string n) s = elim (cases_Bool (all_named p s (string n))) [ inl e ↦ inl (e, λ m x. ap p (sym x.1) ∙ passes_text p s n x.0 e) | inr e ↦ inr (e, blocks_text p s n e) ]
  decided p (array ds) s = decided_items p ds (place_of_items s)
  decided p (object ms) s = decided_members p ms s
  decided p _ s = inl (refl, λ m x. absurd x)

  decided_items : (p : List ℕ → Bool) (ds : Items) (s : Place) → Decided p (all_named_in_items p s ds) (λ m. MentionsInItems m s ds)
  decided_items p no_items s = inl (refl, λ m x. absurd x)
  decided_items p (item d ds) s = both_decided p _ _ _ _ (decided p d s) (decided_items p ds s)

  decided_members : (p : List ℕ → Bool) (ms : Members) (s : Place) → Decided p (all_named_in_members p s ms) (λ m. MentionsInMembers m s ms)
  decided_members p no_members s = inl (refl, λ m x. absurd x)
  decided_members p (member k d ms) s = both_decided p _ _ _ _ (decided p d (place_under s k)) (decided_members p ms s)

-- what a value names passes a test that every name in it passes
pub mentioned : (p : List ℕ → Bool) (m : List ℕ) (v : Data) (s : Place) → all_named p s v ≡ true → Mentions m s v → p m ≡ true
mentioned p m v s h x = elim (decided p v s) [ inl all ↦ all.1 m x | inr one ↦ absurd (true≢false (sym h ∙ one.0)) ]

-- and else a name keeps it from its turn
pub blocked : (p : List ℕ → Bool) (v : Data) (s : Place) → all_named p s v ≡ false → Blocks p s v
blocked p v s h = elim (decided p v s) [ inl all ↦ absurd (true≢false (sym all.0 ∙ h)) | inr one ↦ one.1 ]

-- ---- tests that all names pass

-- a text without a flaw passes a test that all aliases pass
module _ (al : Members) (rs : Option Members) (p : List ℕ → Bool) (passes : (n : List ℕ) → has al n ≡ true → p n ≡ true) where
  named_text : (s : Place) (taken : Bool) (n : List ℕ) → own_flaws (known_in al) s taken (string n) ≡ [] → all_named p s (string n) ≡ true
  named_text s taken n h = elim (cases_Bool (names_type s)) [
    | inl is ↦ elim (cases_Bool (has al n)) [ inl e ↦ rw is (passes n e) | inr e ↦ (let known = (own_sound (known_in al) s taken (string n) h).known in let bad : Some NoSuchAlias ≡ None = rw (is, e) at known in absurd cc) ]
    | inr is ↦ rw is refl
  ]

  mutual
    pub named : (v : Data) (outside : Bool) (s : Place) (taken : Bool) (seen : Members) → value_flaws (known_in al) rs outside s taken seen v ≡ [] → all_named p s v ≡ true
    named (string n) outside s taken seen h = named_text s taken n (joined_empty _ _ h).0
    named (array es) outside s taken seen h = named_items es outside s 0 no_members (joined_empty _ _ h).1
    named (object ms) outside s taken seen h = named_members ms outside s seen (joined_empty _ _ h).1
    named _ outside s taken seen h = refl

    named_items : (es : Items) (outside : Bool) (s : Place) (i : ℕ) (seen : Members) → item_flaws (known_in al) rs outside s i seen es ≡ [] → all_named_in_items p (place_of_items s) es ≡ true
    named_items no_items outside s i seen h = refl
    named_items (item v es) outside s i seen h =
        let (mine, later) = part_empty (within (index i)) _ _ h in
        and_from (all_named p (place_of_items s) v) (all_named_in_items p (place_of_items s) es) (named v outside (place_of_items s) false seen mine) (named_items es outside s (suc i) (mark v seen) later)

    named_members : (ms : Members) (outside : Bool) (s : Place) (seen : Members) → member_flaws (known_in al) rs outside s seen ms ≡ [] → all_named_in_members p s ms ≡ true
    named_members no_members outside s seen h = refl
    named_members (member k d ms) outside s seen h =
        let (mine, later) = part_empty (within (key k)) _ _ h in
        and_from (all_named p (place_under s k) d) (all_named_in_members p s ms) (named d (is_outside outside (place_under s k)) (place_under s k) _ no_members (joined_empty _ _ mine).0) (named_members ms outside s seen later)

-- names that pass a test pass each that is passed more often
pub named_along : (p q : List ℕ → Bool) → ((n : List ℕ) → p n ≡ true → q n ≡ true) → (s : Place) (v : Data) → all_named p s v ≡ true → all_named q s v ≡ true
named_along p q along s v h = elim (cases_Bool (all_named q s v)) [ inl e ↦ e | inr e ↦ (let (m, x, open_m) = blocked q v s e in absurd (true≢false (sym (along m (mentioned p m v s h x)) ∙ open_m))) ]

-- The first of several flaws.

pub refused_first : (xs ys : List Flaw) (f : Flaw) → refusal xs ≡ Err f → refusal (xs ++ ys) ≡ Err f
refused_first [] ys f e = cc
refused_first (x ∷ xs) ys f e = e

pub refused_later : (xs ys : List Flaw) → refusal xs ≡ Ok tt → refusal (xs ++ ys) ≡ refusal ys
refused_later [] ys e = refl
refused_later (x ∷ xs) ys e = cc

-- ---- a name that is noted, and one that is looked for

pub noted : (es : List (Bor (List ℕ) × ⊤)) (k : Bor (List ℕ)) (v : ⊤) → members_named (insert_entry (λ x y. slice_cmp nat_cmp x.now y.now) es k v) ≡ put k.now null (members_named es)
noted [] k v = refl
noted (e ∷ es) k v = elim (stands k.now e.0.now) [ inl is ↦ rw is refl | inr (inl is) ↦ rw is refl | inr (inr is) ↦ rw (is, noted es k v) refl ]

pub looked_for : (n : List ℕ) (es : List (Bor (List ℕ) × ⊤)) → is_some (lookup (is_at (λ k. slice_cmp nat_cmp n k.now)) es) ≡ is_some (get_member n (members_named es))
looked_for n [] = refl
looked_for n (e ∷ es) = elim (stands n e.0.now) [ inl is ↦ rw is (looked_for n es) | inr (inl is) ↦ rw is refl | inr (inr is) ↦ rw is (looked_for n es) ]

-- ---- a list that is counted

pub counted : (s : Place) (v : Value) (vs : Vec Value Global) (n : ℕ) (extras : Bool) → extras ≡ lists_extra_members s → extras ≡ true → v ≡ Array vs → n ≡ length vs.items → nat_lt MAX_CONFIG_MEMBERS n ≡ is_crowded s (view v)
counted s v vs n extras at are is many = rw (ap view is ∙ view-Array vs, items_len-items_view vs.items, ← at, are, many) refl
