-- Which fault of inheritance is told first.
use Rattle.std.proofs.Common.{◌≡◌, ◌++◌, ◌⊎◌, inl, inr, ℕ, List, [], ◌∷◌, Some, None, Result, Ok, Err, Bool, true, false, true≢false, refl, sym, ap, ◌∙◌, subst, bytes_eq, codes, if◌then◌else◌}
use Rattle.std.proofs.lemmas.{Bool.{or_left, or_right}, Option.same_Some}
use Rattle.std.specs.{Prelude.⊤, Cmp.Lexicographic.slice_cmp, Ordering.nat_cmp, declared.cmp.Ordering.TheVariants.Less}
use Rattle.serde_json.specs.{Data.{Data, array, object, Items, Members, no_members, member}, Events.members_len, Find.{get, get_member}}
use Rattle.conf_tree.specs.{Flaw.{Flaw, key, index, within, Place as Step}, Order.{Ascends, IsInOrder}, Reading.◌>>=◌, Walk.{HasMember, refusal}}
use Rattle.conf_tree.specs.{declared.fault_kind.FaultKind.FaultKind, declared.fault_kind.FaultKind.TheVariants.{TooDeep, Limit}}
use Rattle.conf_table.specs.{declared.place.Place.Place, Table.{content_under, entries_of, rows_of, place_in}}
use Rattle.conf_table.specs.declared.place.Place.TheVariants as places
use Rattle.conf_inherit.specs.FieldPlaces.{field_place, field_type_name, inherit_name, place_under, place_in_type, place_of_items}
use Rattle.conf_inherit.specs.{AliasFlaws.{open_in, alias_flaws, all_alias_flaws}, Circle.Walks, FaultOrder.{IsNoLimit, TellsDepthLast, TellsAliasesFirst, TellsFirstAlias, IsToldInTurn}}
use Rattle.conf_inherit.specs.{Faults.{FlawHolds, Leads}, Flaws.{known_in, flaws, asked_flaws, type_flaws, whole_flaws}, Laying.lay, Limits.{Exceeds, limit_flaws}}
use Rattle.conf_inherit.specs.{Named.has, Names.NoClash, Rounds.{Outcomes, Reached, has_outcome}}
use Rattle.conf_inherit.specs.Resolution.{aliases_of, members_or_none, trace_name, type_name, aliases_name, in_aliases, from_aliases, if_shallow, resolution}
use Rattle.conf_inherit.proofs.{FieldPlaceLemmas.{trace_place, trace_type_place, aliases_place, alias_type_place}, PlacesFit.{IsFit, sound_named}}
use Rattle.conf_inherit.proofs.FaultLemmas.{SoundAt, item_sound, joined_empty, first_told, sound_entries, sound_under, some_of}
use Rattle.conf_inherit.proofs.LayingLemmas.{above_through, each_has, found_each, get_none, get_other, get_same, has_found, meets, other, same, some_is_none}
use Rattle.conf_inherit.proofs.{LimitLemmas.limit_fits, LookedUp.{aliases_found, aliases_in_order, apart, member_in_order, no_twice}, TakenLemmas.alias_sound, TurnLemmas.reached_sound}
use Rattle.conf_inherit.proofs.RefusalLemmas.{told_excluded, known_holds, err_aliases, err_then, alias_refused, all_known, known, fit_excluded, whole_excluded}
use Rattle.conf_inherit.proofs.RoundLemmas.{rounds_of, rounds_reached, no_flaws, no_circle, open_flawed, outcome_ends, outcome_is, walk_starts}

-- ---- where the first step of a flaw's path leads

-- what holds of a value by its property of this name
pub record Inside (al : Members) (s : Place) (v : Data) (k : List ℕ) (f : Flaw) : Type 0 where
  pub members : Members
  pub value : Data
  pub object_is : v ≡ object members
  pub there : HasMember k value members
  pub holds : FlawHolds al (place_under s k) value f

front_inside : (s u : Place) (v w : Data) (k : List ℕ) (path front tail : List Step) → key k ∷ path ≡ front ++ tail → (front ≡ [] → ⊥) → Leads s v front u w
    → (ms : Members) × (d : Data) × (rest : List Step) × (v ≡ object ms) × HasMember k d ms × (path ≡ rest ++ tail) × Leads (place_under s k) d rest u w
front_inside s u v w k path [] tail is some leads = absurd (some refl)
front_inside s u v w k path (key l ∷ rest) tail is some (ms, d, value, there, leads) =
    let one : l ≡ k = cc in
    let later : path ≡ rest ++ tail = cc in
    (ms, d, rest, value, subst (λ x. HasMember x d ms) one there, later, subst (λ x. Leads (place_under s x) d rest u w) one leads)
front_inside s u v w k path (index i ∷ rest) tail is some leads = absurd cc

module _ (al : Members) (s : Place) (v : Data) (k : List ℕ) (f : Flaw) where
  clash_inside : (front : List Step) (u : Place) (es : Items) (i : ℕ) (n : List ℕ) → key k ∷ f.path ≡ front ++ index i ∷ key n ∷ [] → front ≡ [] → ⊥
  clash_inside front u es i n path none = let bad : key k ∷ f.path ≡ index i ∷ key n ∷ [] = path ∙ ap (λ x. x ++ index i ∷ key n ∷ []) none in absurd cc

  -- it holds by the property, or is the circle of the alias of this name
  inside : FlawHolds al s v (within (key k) f) → Inside al s v k f ⊎ ((s ≡ places.FieldTypeAliases) × Walks al (members_len al) k)
  inside (inl (u, w, (ms, d, is, there, leads), says)) = inl record { members = ms; value = d; object_is = is; there = there; holds = inl (u, w, leads, says) }
  inside (inr (inl (kind, (front, u, es, i, j, n, path, leads, lists, below, a, b)))) =
      let (ms, d, rest, is, there, later, on) = front_inside s u v (array es) k f.path front (index j ∷ key n ∷ []) path (clash_inside front u es j n path) leads in
      inl record { members = ms; value = d; object_is = is; there = there; holds = inr (inl (kind, (rest, u, es, i, j, n, later, on, lists, below, a, b))) }
  inside (inr (inr (kind, ([], n, path, leads, walks)))) = let one : n ≡ k = cc in inr (leads.0, subst (Walks al (members_len al)) one walks)
  inside (inr (inr (kind, (p ∷ front, n, path, leads, walks)))) =
      let (ms, d, rest, is, there, later, on) = front_inside s places.FieldTypeAliases v (object al) k f.path (p ∷ front) (key n ∷ []) path (λ none. absurd cc) leads in
      inl record { members = ms; value = d; object_is = is; there = there; holds = inr (inr (kind, (rest, n, later, on, walks))) }

only_one : (v : Data) (ms : Members) (k : List ℕ) (d : Data) → Ascends v → v ≡ object ms → HasMember k d ms → (get k v ≡ Some d) × Ascends d
only_one v ms k d ordered is there =
    let order = subst Ascends is ordered in
    (ap (get k) is ∙ each_has (λ n x. get_member n ms ≡ Some x) ms k d (found_each ms (apart ms order.0)) there, member_in_order ms k d order.1 there)

-- a step from above the aliases is none of a circle
above : (al : Members) (s t : Place) (k : List ℕ) (v : Data) (f : Flaw) → place_under s k ≡ t → (s ≡ places.FieldTypeAliases → ⊥) → Ascends v → FlawHolds al s v (within (key k) f)
    → (d : Data) × (get k v ≡ Some d) × Ascends d × FlawHolds al t d f
above al s t k v f place away ordered h = elim (inside al s v k f h) [
  | inl x ↦ (let one = only_one v x.members k x.value ordered x.object_is x.there in (x.value, one.0, one.1, subst (λ u. FlawHolds al u x.value f) place x.holds))
  | inr circle ↦ absurd (away circle.0)
]

-- what is wrong in an alias: it holds of its type, or leads into a circle
pub record InAlias (al : Members) (k : List ℕ) (f : Flaw) : Type 0 where
  pub body : Data
  pub is : get_member k al ≡ Some body
  pub ordered : Ascends body
  pub holds : FlawHolds al places.FieldType body f ⊎ Walks al (members_len al) k

body_in_order : (k : List ℕ) (body d : Data) → Ascends d → get_member k (members_or_none (Some d)) ≡ Some body → Ascends body
body_in_order k body (object ms) ordered is = member_in_order ms k body ordered.1 (has_found k body ms is)
body_in_order k body _ ordered is = absurd cc

in_aliases_of : (al : Members) (k : List ℕ) (f : Flaw) (d : Data) → al ≡ members_or_none (Some d) → Ascends d → FlawHolds al places.FieldTypeAliases d (within (key k) f) → InAlias al k f
in_aliases_of al k f d own ordered h = elim (inside al places.FieldTypeAliases d k f h) [
  | inl x ↦ (let one = only_one d x.members k x.value ordered x.object_is x.there in
      let all : al ≡ x.members = own ∙ ap (λ v. members_or_none (Some v)) x.object_is in
      record {
        body = x.value;
        is = ap (get_member k) all ∙ sym (ap (get k) x.object_is) ∙ one.0;
        ordered = one.1;
        holds = inl (subst (λ s. FlawHolds al s x.value f) (alias_type_place k) x.holds);
      })
  | inr circle ↦ (let (body, is) = some_of (get_member k al) (walk_starts al (members_len al) k circle.1) in
      record {
        body = body;
        is = is;
        ordered = body_in_order k body d ordered (ap (λ ms. get_member k ms) (sym own) ∙ is);
        holds = inr circle.1;
      })
]

-- what is wrong in an alias of a configuration
in_alias : (t : Data) (k : List ℕ) (f that : Flaw) → Ascends t → that ≡ in_aliases (within (key k) f) → FlawHolds (aliases_of t) places.Root t that → InAlias (aliases_of t) k f
in_alias t k f that ordered is h =
    let al = aliases_of t in
    let (trace, in_root, in_order, holds) = above al places.Root places.Trace trace_name t (within (key type_name) (within (key aliases_name) (within (key k) f))) trace_place (λ e. cc) ordered (subst (FlawHolds al places.Root t) is h) in
    let (type, in_trace, in_order_too, holds_too) = above al places.Trace places.TraceType type_name trace (within (key aliases_name) (within (key k) f)) trace_type_place (λ e. cc) in_order holds in
    let (found, in_type, found_in_order, found_holds) = above al places.TraceType places.FieldTypeAliases aliases_name type (within (key k) f) aliases_place (λ e. cc) in_order_too holds_too in
    in_aliases_of al k f found (aliases_found t trace type found in_root in_trace in_type) found_in_order found_holds

-- ---- where nothing is found in the aliases

module _ (t : Data) (separate : NoClash (aliases_of t)) (none : all_alias_flaws (aliases_of t) (rounds_of t) (aliases_of t) ≡ []) where
  alias_fit : (k : List ℕ) (w : Data) → get_member k (aliases_of t) ≡ Some w → Ascends w → IsFit (aliases_of t) (rounds_of t).done (known t separate none) (all_known t separate none) places.FieldType w
  alias_fit k w is ordered =
      let al = aliases_of t in
      let done = (rounds_of t).done in
      let sound = alias_sound al (members_len al) (rounds_of t) separate refl (ap (λ fs. from_aliases (refusal fs)) none) k w is in
      let parts = joined_empty (flaws al (Some done) places.FieldType false no_members w) (limit_flaws done places.FieldType w) sound in
      let at : SoundAt al places.FieldType w = record { resolved = Some done; outside = false; taken = false; seen = no_members; sound = parts.0 } in
      record {
        outside = false;
        taken = false;
        seen = no_members;
        sound = parts.0;
        in_order = ordered;
        untyped = λ out. absurd (true≢false (sym out));
        whole = λ inside away. (limit_fits done places.FieldType w).0 parts.1 (sound_named al done (known t separate none) (all_known t separate none) places.FieldType w at);
      }

  -- nothing is wrong in an alias
  alias_excluded : (k : List ℕ) (f : Flaw) → ¬ InAlias (aliases_of t) k f
  alias_excluded k f h = elim h.holds [
    | inl holds ↦ fit_excluded t separate none places.FieldType h.body (alias_fit k h.body h.is h.ordered) f holds
    | inr walks ↦ no_circle t k separate none walks
  ]

-- ---- an alias in which nothing is found

-- places in a field type
abbrev is_within : Place → Bool
is_within places.FieldType = true
is_within places.Members = true
is_within places.Entry = true
is_within places.Member = true
is_within places.Ignored = true
is_within _ = false

one_of_four : (a b c d : Bool) → is_within (if a then places.Members else if b then places.FieldType else if c then places.FieldType else if d then places.FieldType else places.Ignored) ≡ true
one_of_four true b c d = refl
one_of_four false true c d = refl
one_of_four false false true d = refl
one_of_four false false false true = refl
one_of_four false false false false = refl

within_type : (k : List ℕ) → is_within (place_in_type k) ≡ true
unfolding place_in_type
within_type k = one_of_four (bytes_eq k (codes "members")) (bytes_eq k field_type_name) (bytes_eq k (codes "element-field-type")) (bytes_eq k inherit_name)

within_under : (s : Place) (k : List ℕ) → is_within s ≡ true → is_within (place_under s k) ≡ true
unfolding place_under content_under entries_of rows_of place_in field_place
within_under places.FieldType k h = within_type k
within_under places.Member k h = within_type k
within_under places.Members k h = refl
within_under places.Entry k h = refl
within_under places.Ignored k h = refl
within_under _ k h = absurd (true≢false (sym h))

within_items : (s : Place) → is_within s ≡ true → is_within (place_of_items s) ≡ true
unfolding place_of_items
within_items places.FieldType h = refl
within_items places.Member h = refl
within_items places.Members h = refl
within_items places.Entry h = refl
within_items places.Ignored h = refl
within_items _ h = absurd (true≢false (sym h))

-- no path leads out of a field type
leads_within : (path : List Step) (s t : Place) (v w : Data) → is_within s ≡ true → Leads s v path t w → is_within t ≡ true
leads_within [] s t v w h (place, value) = ap is_within (sym place) ∙ h
leads_within (key k ∷ path) s t v w h (ms, d, is, there, leads) = leads_within path (place_under s k) t d w (within_under s k h) leads
leads_within (index i ∷ path) s t v w h (es, d, is, there, leads) = leads_within path (place_of_items s) t d w (within_items s h) leads

sound_along : (al : Members) (path : List Step) (s t : Place) (v w : Data) → SoundAt al s v → Leads s v path t w → SoundAt al t w
sound_along al [] s t v w h (place, value) = subst (λ x. SoundAt al x w) place (subst (SoundAt al s) value h)
sound_along al (key k ∷ path) s t v w h (ms, d, is, there, leads) = sound_along al path (place_under s k) t d w (sound_under al s ms k d (subst (SoundAt al s) is h) there) leads
sound_along al (index i ∷ path) s t v w h (es, d, is, there, leads) =
    let at = subst (SoundAt al s) is h in
    let (before, none) = item_sound (known_in al) at.resolved at.outside s 0 no_members es i d (joined_empty _ _ at.sound).1 there in
    sound_along al path (place_of_items s) t d w (record { resolved = at.resolved; outside = at.outside; taken = false; seen = before; sound = none }) leads

no_limit_past : (kind : FaultKind) (r : Data) → IsNoLimit kind → ¬ Exceeds kind r
no_limit_past TooDeep r kept past = kept
no_limit_past Limit r kept past = kept
no_limit_past _ r kept past = past

-- nothing is wrong with a type in which nothing is found, but maybe a limit
sound_excluded : (al : Members) (w : Data) (flaw : Flaw) → SoundAt al places.FieldType w → IsNoLimit flaw.kind → ¬ FlawHolds al places.FieldType w flaw
sound_excluded al w flaw h kept (inl (t, u, leads, inl told)) = told_excluded al flaw.kind t u (sound_along al flaw.path places.FieldType t w u h leads) told
sound_excluded al w flaw h kept (inl (t, u, leads, inr (names, (others, resolved, named, past)))) = no_limit_past flaw.kind (lay others t u None) kept past
sound_excluded al w flaw h kept (inr (inl (kind, (front, s, es, i, j, n, is, leads, lists, before, first, second)))) =
    no_twice es i j n (sound_entries al s es lists (sound_along al front places.FieldType s w (array es) h leads)) before first second
sound_excluded al w flaw h kept (inr (inr (kind, (front, k, is, leads, walks)))) = true≢false (sym (leads_within front places.FieldType places.FieldTypeAliases w (object al) refl leads))

-- such an alias has its outcome, and a sound type
module _ (al : Members) (st : Outcomes) (reached : Reached al st) where
  found_none : (j : List ℕ) (w : Data) → get_member j al ≡ Some w → alias_flaws al st j w ≡ [] → (has_outcome st j ≡ true) × (flaws al (Some st.done) places.FieldType false no_members w ≡ [])
  unfolding alias_flaws
  found_none j w is none = go (has st.done j) refl (has st.refused j) refl
    where
      go : (a : Bool) → has st.done j ≡ a → (b : Bool) → has st.refused j ≡ b → (has_outcome st j ≡ true) × (flaws al (Some st.done) places.FieldType false no_members w ≡ [])
      go true x b y =
          let over = or_left (has st.done j) (has st.refused j) x in
          let (r, found) = some_of (get_member j st.done) x in
          (over, (outcome_is al st.done w r (sym ((reached_sound al reached).comes j w is over).value ∙ found)).flawless)
      go false x true y = (or_right (has st.done j) (has st.refused j) y, (joined_empty _ _ (let both : type_flaws al st.done places.FieldType w ≡ [] = rw (x, y) at none in both)).0)
      go false x false y = absurd (open_flawed (refusal (asked_flaws (open_in al st) st.done places.FieldType w)) (rw (x, y) at none))

-- the flaw is of one of the aliases, and nothing is found in those before it
pub record IsOfFirst (al : Members) (st : Outcomes) (ms : Members) (f : Flaw) : Type 0 where
  pub name : List ℕ
  pub inner : Flaw
  pub is : f ≡ within (key name) inner
  pub before : (j : List ℕ) (w : Data) → get_member j ms ≡ Some w → slice_cmp nat_cmp j name ≡ Less → alias_flaws al st j w ≡ []

of_first : (al : Members) (st : Outcomes) (ms : Members) (f : Flaw) → IsInOrder ms → refusal (all_alias_flaws al st ms) ≡ Err f → IsOfFirst al st ms f
of_first al st no_members f order h = absurd cc
of_first al st (member k d ms) f order h = go (alias_flaws al st k d) refl (of_first al st ms f order.1)
  where
    go : (fs : List Flaw) → alias_flaws al st k d ≡ fs → (refusal (all_alias_flaws al st ms) ≡ Err f → IsOfFirst al st ms f) → IsOfFirst al st (member k d ms) f
    go [] none rest =
        let later = rest (rw none at h) in
        record {
          name = later.name;
          inner = later.inner;
          is = later.is;
          before = λ j w there below. elim (meets j k) [
            | same e ↦ subst (λ x. alias_flaws al st x w ≡ []) (sym e) (subst (λ x. alias_flaws al st k x ≡ []) (same_Some d w (sym (get_same j k d ms e) ∙ there)) none)
            | other away ↦ later.before j w (sym (get_other j k d ms away) ∙ there) below
          ];
        }
    go (g ∷ gs) some rest = record {
      name = k;
      inner = g;
      is = let first : refusal (within (key k) g ∷ []) ≡ Err f = rw some at h in let one : f ≡ within (key k) g = cc in one;
      before = λ j w there below. absurd (some_is_none w (sym there ∙ get_none j (member k d ms) (below, above_through j k ms below order.0)));
    }

-- ---- what is told

module _ (t : Data) (flaw : Flaw) (ordered : Ascends t) (told : resolution t ≡ Err flaw) where
  separate : NoClash (aliases_of t)
  separate = apart (aliases_of t) (aliases_in_order t ordered)

  abbrev in_all : List Flaw
  in_all = all_alias_flaws (aliases_of t) (rounds_of t) (aliases_of t)

  abbrev in_whole : List Flaw
  in_whole = whole_flaws (aliases_of t) (rounds_of t).done t

  abbrev if_laid : ⊤ → Result Data Flaw
  if_laid a = if_shallow (lay (rounds_of t).done places.Root t None)

  staged : ((g : Flaw) × (refusal in_all ≡ Err g) × (flaw ≡ in_aliases g)) ⊎ ((refusal in_all ≡ Ok tt) × ((refusal in_whole >>= if_laid) ≡ Err flaw))
  staged = err_aliases (refusal in_all) (λ a. refusal in_whole >>= if_laid) flaw told

  depth_last : TellsDepthLast t flaw
  depth_last that wrong = elim staged [
    | inl (g, first, is) ↦ subst (FlawHolds (aliases_of t) places.Root t) (sym is) (alias_refused t flaw separate g first)
    | inr (none, rest) ↦ elim (err_then (refusal in_whole) if_laid flaw rest) [
      | inl first ↦ first_told flaw (known_holds (aliases_of t) (rounds_of t).done (known t separate (no_flaws in_all none)) true places.Root t) first
      | inr (sound, deep) ↦ absurd (whole_excluded t separate (no_flaws in_all none) ordered (no_flaws in_whole sound) that wrong)
    ]
  ]

  aliases_first : TellsAliasesFirst t flaw
  aliases_first j that (f, is) wrong = elim staged [
    | inl (g, first, from) ↦ (let one = of_first (aliases_of t) (rounds_of t) (aliases_of t) g (aliases_in_order t ordered) first in (one.name, (one.inner, from ∙ ap in_aliases one.is)))
    | inr (none, rest) ↦ absurd (alias_excluded t separate (no_flaws in_all none) j f (in_alias t j f that ordered is wrong))
  ]

  one_name : (k l : List ℕ) (f g : Flaw) → in_aliases (within (key k) f) ≡ in_aliases (within (key l) g) → k ≡ l
  one_name k l f g e = let paths : (in_aliases (within (key k) f)).path ≡ (in_aliases (within (key l) g)).path = ap (λ x. x.path) e in cc

  first_alias : TellsFirstAlias t flaw
  first_alias k (f, lies) j that below (g, is) kept wrong =
      let at = in_alias t j g that ordered is wrong in
      elim staged [
        | inl (h, first, from) ↦ (
            let al = aliases_of t in
            let one = of_first al (rounds_of t) al h (aliases_in_order t ordered) first in
            let name = one_name k one.name f one.inner (sym lies ∙ from ∙ ap in_aliases one.is) in
            let none = found_none al (rounds_of t) (rounds_reached al (members_len al) (found_each al separate)) j at.body at.is (one.before j at.body at.is (subst (λ x. slice_cmp nat_cmp j x ≡ Less) name below)) in
            elim at.holds [
              | inl holds ↦ sound_excluded al at.body g (record { resolved = Some (rounds_of t).done; outside = false; taken = false; seen = no_members; sound = none.1 }) (subst IsNoLimit (ap (λ x. x.kind) is) kept) holds
              | inr walks ↦ outcome_ends t j separate none.0 walks
            ])
        | inr (none, rest) ↦ alias_excluded t separate (no_flaws in_all none) j g at
      ]

  pub told_in_turn : IsToldInTurn t flaw
  told_in_turn = record { depth_last = depth_last; aliases_first = aliases_first; first_alias = first_alias }
