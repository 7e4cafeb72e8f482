-- The kind of a refusal holds at its path.
use Rattle.std.proofs.Common.{◌≡◌, ◌⊎◌, inl, inr, ℕ, List, [], ◌∷◌, Option, Some, None, option_and_then, Result, Ok, Err, is_some, Bool, true, false, refl, sym, ap, ◌∙◌, subst}
use Rattle.std.proofs.lemmas.Bool.{cases_Bool, or_cases, or_from, true≢false}
use Rattle.std.specs.Prelude.{⊤}
use Rattle.serde_json.specs.{Data.{Data, array, object, Members, no_members, member}, Events.members_len}
use Rattle.serde_json.specs.Find.{get, get_member}
use Rattle.conf_tree.specs.{Flaw.{Flaw, key, here, within, Place as Step}, Order.Ascends, Reading.◌>>=◌, Walk.{HasMember, refusal, IsTreeOf}}
use Rattle.conf_tree.specs.{declared.fault_kind.FaultKind.FaultKind, declared.fault_kind.FaultKind.TheVariants.{InheritCycle, Limit, WrongKind, NoSuchAlias}}
use Rattle.conf_tree.specs.declared.limits.TheConstants.{MAX_LEVELS}
use Rattle.conf_table.specs.{declared.place.Place.Place, Table.{content_under, entries_of, rows_of, place_in}}
use Rattle.conf_inherit.specs.FieldPlaces.{field_place, place_under, names_type, is_base_name}
use Rattle.conf_inherit.specs.{AliasFlaws.{open_in, is_circle, first_or_circle, alias_flaws, all_alias_flaws}, Flaws.{known_in, is_alone, value_flaws, asked_flaws, type_flaws, whole_flaws}, Looks.{AreResolved, Looks}, Names.NoClash}
use Rattle.conf_inherit.specs.{Circle.Walks, Named.{Names, all_named, has}, Rounds.{Outcomes, has_outcome}, Laying.lay}
use Rattle.conf_inherit.specs.{Faults.{Passes, FlawHolds, RefusalHolds, Leads, Tells}, Limits.{Exceeds, limit_flaws}}
use Rattle.conf_inherit.specs.Nesting.{deep_flaws, PassesDepth}
use Rattle.conf_inherit.specs.Resolution.{members_or_none, trace_name, type_name, aliases_name, aliases_of, in_aliases, from_aliases, if_shallow, resolution, Resolves}
use Rattle.conf_inherit.proofs.SizeLemmas.{deep_told, depth_excluded}
use Rattle.conf_inherit.proofs.RoundLemmas.{rounds_of, tree_sound, laid_resolves, resolution_sound, no_flaws, no_circle, rounds_resolved, rounds_reached, all_done}
use Rattle.conf_inherit.proofs.{LimitLemmas.{limits_told, apart_fits}, LookedUp.{no_twice, one_look, both_there, read_in_order, aliases_apart}, LaysOver.lays}
use Rattle.conf_inherit.proofs.{FieldPlaceLemmas.{trace_place, trace_type_place, aliases_place, alias_named, base_place}, TurnLemmas.rounds_open}
use Rattle.conf_inherit.proofs.FaultLemmas.{joined_empty, OwnSound, own_sound, Each, no_flaw, a_flaw, joined, each_along, part, first_told, HoldsOr, holds_told, holds_in_object, flaws_told, SoundAt, sound_entries}
use Rattle.conf_inherit.proofs.{LayingLemmas.{has_found, AllEntries, found_each}, PlacesFit.{IsFit, fit_sound, sound_named, fit_along, root_fit, type_fit}}
use Rattle.conf_table.specs.declared.place.Place.TheVariants as places

module _ (al : Members) where
  -- ---- a field type, where the resolved aliases are known

  module _ (done : Members) (known : AreResolved al done) where
    limit_holds : (s : Place) (v : Data) → Names s → Each (FlawHolds al s v) (limit_flaws done s v)
    limit_holds s v names = limits_told (FlawHolds al s v) done s v (λ named kind past. inl (s, v, (refl, refl), inr (names, (done, known, named, past))))

    alone_names : (s : Place) (k : List ℕ) → is_alone true s k ≡ true → Names (place_under s k)
    alone_names s k is = elim (or_cases (is_base_name s k) (names_type (place_under s k)) is) [ inl base ↦ subst (λ t. Names t) (sym (base_place s k base)) alias_named | inr type ↦ type ]

    limits_hold : (s : Place) (k : List ℕ) (d : Data) → is_alone true s k ≡ true → Each (FlawHolds al (place_under s k) d) (limit_flaws done (place_under s k) d)
    limits_hold s k d is = limit_holds (place_under s k) d (alone_names s k is)

    no_alias : (n : List ℕ) (kind : FaultKind) → known_in al n ≡ Some kind → ⊥ ⊎ ((kind ≡ NoSuchAlias) × (has al n ≡ false))
    no_alias n kind h = elim (cases_Bool (has al n)) [
      | inl e ↦ absurd (let bad : None ≡ Some kind = rw e at h in cc)
      | inr e ↦ (let same : Some NoSuchAlias ≡ Some kind = rw e at h in inr (let one : kind ≡ NoSuchAlias = cc in one, e))
    ]

    pub known_holds : (outside : Bool) (s : Place) (v : Data) → Each (FlawHolds al s v) (value_flaws (known_in al) (Some done) outside s false no_members v)
    known_holds outside s v =
        each_along (λ f h. elim h [ inl bad ↦ absurd bad | inr x ↦ x ]) (flaws_told (known_in al) (Some done) true (HoldsOr (λ kind. ⊥) al) (holds_told (λ kind. ⊥) al (known_in al) no_alias (Some done) limits_hold) outside (λ h. refl) s v)

    type_holds : (s : Place) (v : Data) → Names s → Each (FlawHolds al s v) (type_flaws al done s v)
    type_holds s v names = joined (known_holds false s v) (limit_holds s v names)

    -- a name in an alias without an outcome is no alias's, or leads into the circle
    abbrev OfCircle : FaultKind → Type 0
    OfCircle kind = is_circle kind ≡ true

    no_alias_or_open : (st : Outcomes) (n : List ℕ) (kind : FaultKind) → open_in al st n ≡ Some kind → OfCircle kind ⊎ ((kind ≡ NoSuchAlias) × (has al n ≡ false))
    no_alias_or_open st n kind h = elim (cases_Bool (has al n)) [
      | inl e ↦ elim (cases_Bool (has_outcome st n)) [
        | inl o ↦ absurd (let bad : None ≡ Some kind = rw (e, o) at h in cc)
        | inr o ↦ (let same : Some InheritCycle ≡ Some kind = rw (e, o) at h in let one : InheritCycle ≡ kind = cc in inl (subst OfCircle one refl))
      ]
      | inr e ↦ (let same : Some NoSuchAlias ≡ Some kind = rw e at h in inr (let one : kind ≡ NoSuchAlias = cc in one, e))
    ]

    open_holds : (st : Outcomes) (v : Data) → Each (HoldsOr OfCircle al places.FieldType v) (asked_flaws (open_in al st) done places.FieldType v)
    open_holds st v = joined (flaws_told (open_in al st) (Some done) true (HoldsOr OfCircle al) (holds_told OfCircle al (open_in al st) (no_alias_or_open st) (Some done) limits_hold) false (λ h. refl) places.FieldType v)
        (each_along (λ f x. inr x) (limit_holds places.FieldType v alias_named))

    -- a flaw of its own holds, and else the circle is told of
    own_or_circle : (st : Outcomes) (w : Data) (found : Result ⊤ Flaw) → refusal (asked_flaws (open_in al st) done places.FieldType w) ≡ found → Each (λ f. FlawHolds al places.FieldType w f ⊎ (f ≡ here InheritCycle)) (first_or_circle found)
    own_or_circle st w (Ok x) is = a_flaw (inr refl) no_flaw
    own_or_circle st w (Err g) is = elim (cases_Bool (is_circle g.kind)) [
      | inl e ↦ rw e (a_flaw (inr refl) no_flaw)
      | inr e ↦ rw e (a_flaw {f = g} (elim (first_told g (open_holds st w) is) [ inl q ↦ absurd (true≢false (sym q ∙ e)) | inr x ↦ inl x ]) no_flaw)
    ]

  -- ---- the aliases

  module _ (st : Outcomes) (known : AreResolved al st.done) (walks : (k : List ℕ) → has al k ≡ true → has_outcome st k ≡ false → Walks al (members_len al) k) where
    -- a flaw of an alias holds of its value, or is the circle
    alias_told : (k : List ℕ) (w : Data) → get_member k al ≡ Some w → Each (λ f. FlawHolds al places.FieldType w f ⊎ ((f ≡ here InheritCycle) × Walks al (members_len al) k)) (alias_flaws al st k w)
    unfolding alias_flaws
    alias_told k w is = go (has st.done k) refl (has st.refused k) refl
      where
        go : (t : Bool) → has st.done k ≡ t → (u : Bool) → has st.refused k ≡ u → Each (λ f. FlawHolds al places.FieldType w f ⊎ ((f ≡ here InheritCycle) × Walks al (members_len al) k)) (alias_flaws al st k w)
        go true a u b = rw a no_flaw
        go false a true b = rw (a, b) (each_along (λ f h. inl h) (type_holds st.done known places.FieldType w alias_named))
        go false a false b = rw (a, b) (each_along (λ f h. elim h [ inl x ↦ inl x | inr e ↦ inr (e, walks k (ap is_some is) (or_from (has st.done k) (has st.refused k) a b)) ]) (own_or_circle st.done known st w _ refl))

    aliases_told : (ms : Members) → AllEntries (λ k w. get_member k al ≡ Some w) ms → ((k : List ℕ) (d : Data) → HasMember k d ms → HasMember k d al) → Each (FlawHolds al places.FieldTypeAliases (object al)) (all_alias_flaws al st ms)
    unfolding place_under content_under entries_of rows_of place_in field_place
    aliases_told no_members each sub = no_flaw
    aliases_told (member k w ms) each sub =
        joined (part (key k) (each_along (λ f h. elim h [
          | inl holds ↦ holds_in_object al places.FieldTypeAliases k w al f (sub k w (inl (refl, refl))) holds
          | inr (circle, steps) ↦ inr (inr (ap (λ x. x.kind) circle, ([], k, ap (λ x. key k ∷ x.path) circle, (refl, refl), steps)))
        ]) (alias_told k w each.0))) (aliases_told ms each.1 (λ q d m. sub q d (inr m)))

-- ---- seen from the configuration

lift : (al : Members) (s t : Place) (k : List ℕ) (v d : Data) (f : Flaw) → place_under s k ≡ t → get k v ≡ Some d → FlawHolds al t d f → FlawHolds al s v (within (key k) f)
lift al s t k (object ms) d f place is h = holds_in_object al s k d ms f (has_found k d ms is) (subst (λ x. FlawHolds al x d f) (sym place) h)
lift al s t k _ d f place is h = cc

some_members : (o : Option Data) → (members_or_none o ≡ no_members → ⊥) → o ≡ Some (object (members_or_none o))
some_members (Some (object ms)) some = refl
some_members (Some _) some = absurd (some refl)
some_members None some = absurd (some refl)

-- the flaws of the aliases, seen from the configuration
lift_aliases : (al : Members) (t : Data) (f : Flaw) → (aliases_of t ≡ no_members → ⊥) → FlawHolds al places.FieldTypeAliases (object (aliases_of t)) f → FlawHolds al places.Root t (in_aliases f)
lift_aliases al t f some h =
    let type = option_and_then (get type_name) (get trace_name t) in
    let (b, has_type, found) = both_there (get aliases_name) type (object (aliases_of t)) (some_members (option_and_then (get aliases_name) type) some) in
    let (a, has_trace, in_trace) = both_there (get type_name) (get trace_name t) b has_type in
    lift al places.Root places.Trace trace_name t a (within (key type_name) (within (key aliases_name) f)) trace_place has_trace
    (lift al places.Trace places.TraceType type_name a b (within (key aliases_name) f) trace_type_place in_trace
    (lift al places.TraceType places.FieldTypeAliases aliases_name b (object (aliases_of t)) f aliases_place found h))

-- ---- a refusal

pub err_aliases : (a : Result ⊤ Flaw) (k : ⊤ → Result Data Flaw) (f : Flaw) → (from_aliases a >>= k) ≡ Err f → ((g : Flaw) × (a ≡ Err g) × (f ≡ in_aliases g)) ⊎ ((a ≡ Ok tt) × (k tt ≡ Err f))
err_aliases (Ok x) k f h = inr (refl, h)
err_aliases (Err g) k f h = inl (g, refl, let e : f ≡ in_aliases g = cc in e)

pub err_then : (a : Result ⊤ Flaw) (k : ⊤ → Result Data Flaw) (f : Flaw) → (a >>= k) ≡ Err f → (a ≡ Err f) ⊎ ((a ≡ Ok tt) × (k tt ≡ Err f))
err_then (Ok x) k f h = inr (refl, h)
err_then (Err g) k f h = inl (let e : g ≡ f = cc in ap (λ x. Err x) e)

err_shallow : (x : Data) (f : Flaw) → if_shallow x ≡ Err f → PassesDepth MAX_LEVELS x f
err_shallow x f h = elim (err_then (refusal (deep_flaws x MAX_LEVELS)) (λ a. Ok x) f h) [ inl e ↦ first_told f (deep_told x MAX_LEVELS) e | inr e ↦ absurd (let o : Result Data Flaw = Ok x in let bad : o ≡ Err f = e.1 in cc) ]

module _ (t : Data) (f : Flaw) (apart : NoClash (aliases_of t)) where
  pub alias_refused : (g : Flaw) → refusal (all_alias_flaws (aliases_of t) (rounds_of t) (aliases_of t)) ≡ Err g → FlawHolds (aliases_of t) places.Root t (in_aliases g)
  alias_refused g h =
      let each = found_each (aliases_of t) apart in
      let known = rounds_resolved (aliases_of t) (members_len (aliases_of t)) each in
      let all = aliases_told (aliases_of t) (rounds_of t) known (rounds_open (aliases_of t) apart (members_len (aliases_of t))) (aliases_of t) each (λ k d m. m) in
      lift_aliases (aliases_of t) t g (λ none. let bad : refusal (all_alias_flaws (aliases_of t) (rounds_of t) no_members) ≡ Err g = ap (λ x. refusal (all_alias_flaws (aliases_of t) (rounds_of t) x)) (sym none) ∙ h in cc) (first_told g all h)

  after_aliases : refusal (all_alias_flaws (aliases_of t) (rounds_of t) (aliases_of t)) ≡ Ok tt → (refusal (whole_flaws (aliases_of t) (rounds_of t).done t) >>= (λ b. if_shallow (lay (rounds_of t).done places.Root t None))) ≡ Err f → RefusalHolds t f
  after_aliases a h = elim (err_then (refusal (whole_flaws (aliases_of t) (rounds_of t).done t)) (λ b. if_shallow (lay (rounds_of t).done places.Root t None)) f h) [
    | inl e ↦ inl (first_told f (known_holds (aliases_of t) (rounds_of t).done (rounds_resolved (aliases_of t) (members_len (aliases_of t)) (found_each (aliases_of t) apart)) true places.Root t) e)
    | inr (b, e) ↦ inr (lay (rounds_of t).done places.Root t None, laid_resolves t (aliases_of t) (members_len (aliases_of t)) (rounds_of t) refl apart refl (no_flaws (all_alias_flaws (aliases_of t) (rounds_of t) (aliases_of t)) a) (no_flaws (whole_flaws (aliases_of t) (rounds_of t).done t) b), err_shallow (lay (rounds_of t).done places.Root t None) f e)
  ]

  -- the kind of a refusal holds at its path
  pub refusal_holds : resolution t ≡ Err f → RefusalHolds t f
  refusal_holds h = elim (err_aliases (refusal (all_alias_flaws (aliases_of t) (rounds_of t) (aliases_of t))) (λ a. refusal (whole_flaws (aliases_of t) (rounds_of t).done t) >>= (λ b. if_shallow (lay (rounds_of t).done places.Root t None))) f h) [
    | inl (g, e, is) ↦ inl (subst (FlawHolds (aliases_of t) places.Root t) (sym is) (alias_refused g e))
    | inr (a, e) ↦ after_aliases a e
  ]

-- a configuration has a resolution, or a fault that holds
pub resolved_or_refused : (t : Data) → NoClash (aliases_of t) → ((r : Data) × Resolves t r) ⊎ ((f : Flaw) × RefusalHolds t f)
resolved_or_refused t apart = go (resolution t) refl
  where
    go : (o : Result Data Flaw) → resolution t ≡ o → ((r : Data) × Resolves t r) ⊎ ((f : Flaw) × RefusalHolds t f)
    go (Ok r) e = inl (r, (resolution_sound t r apart e).0)
    go (Err f) e = inr (f, refusal_holds t f apart e)

-- ---- a tree that was read and has a resolution has no fault of inheritance

-- ---- all of a tree that has a resolution

pub told_excluded : (aliases : Members) (kind : FaultKind) (s : Place) (w : Data) → SoundAt aliases s w → ¬ Tells aliases kind s w
told_excluded aliases kind s w h told = go kind told
  where
    own : OwnSound (known_in aliases) s h.taken w
    own = own_sound (known_in aliases) s h.taken w (joined_empty _ _ h.sound).0

    go : (kind : FaultKind) → ¬ Tells aliases kind s w
    go WrongKind told = true≢false (sym told ∙ own.right)
    go NoSuchAlias told = let bad : Some NoSuchAlias ≡ None = sym told ∙ own.known in absurd cc
    go Limit told = true≢false (sym told ∙ own.few)
    go _ told = absurd told

module _ (t : Data) (apart : NoClash (aliases_of t)) (outcomes : all_alias_flaws (aliases_of t) (rounds_of t) (aliases_of t) ≡ []) where
  abbrev pub done : Members
  done = (rounds_of t).done

  pub known : AreResolved (aliases_of t) done
  known = rounds_resolved (aliases_of t) (members_len (aliases_of t)) (found_each (aliases_of t) apart)

  pub all_known : (n : List ℕ) → has (aliases_of t) n ≡ true → has done n ≡ true
  all_known = all_done (aliases_of t) (rounds_of t) outcomes (rounds_reached (aliases_of t) (members_len (aliases_of t)) (found_each (aliases_of t) apart))

  -- what a value is laid to is what it is looked up as, under whatever resolved aliases
  laid : (others : Members) (s : Place) (w : Data) → AreResolved (aliases_of t) others → SoundAt (aliases_of t) s w → all_named (has others) s w ≡ true → Looks (aliases_of t) s (w ∷ []) (lay others s w None)
  laid others s w resolved at named = lays (aliases_of t) others resolved w s at named [] None refl

  -- all that stands in a value that fits does so too
  module _ (top : Place) (v : Data) (whole : IsFit (aliases_of t) done known all_known top v) where
    fit : (path : List Step) (s : Place) (w : Data) → Leads top v path s w → IsFit (aliases_of t) done known all_known s w
    fit path s w leads = fit_along (aliases_of t) done known all_known path top v s w whole leads

    sound_at : (path : List Step) (s : Place) (w : Data) → Leads top v path s w → SoundAt (aliases_of t) s w
    sound_at path s w leads = fit_sound (aliases_of t) done known all_known s w (fit path s w leads)

    passes_excluded : (kind : FaultKind) (path : List Step) (s : Place) (w : Data) → Leads top v path s w → ¬ Passes (aliases_of t) kind s w
    passes_excluded kind path s w leads (names, (others, resolved, named, past)) =
        let at = sound_at path s w leads in
        let mine = laid done s w known at (sound_named (aliases_of t) done known all_known s w at) in
        let same = one_look (aliases_of t) (laid others s w resolved at named) mine in
        apart_fits kind (lay done s w None) (type_fit (aliases_of t) done known all_known s w (fit path s w leads) names) (subst (Exceeds kind) same past)

    -- so no flaw holds in it
    pub fit_excluded : (flaw : Flaw) → ¬ FlawHolds (aliases_of t) top v flaw
    fit_excluded flaw (inl (s, w, leads, inl told)) = told_excluded (aliases_of t) flaw.kind s w (sound_at flaw.path s w leads) told
    fit_excluded flaw (inl (s, w, leads, inr past)) = passes_excluded flaw.kind flaw.path s w leads past
    fit_excluded flaw (inr (inl (kind, (front, s, es, i, j, n, is, leads, lists, before, first, second)))) = no_twice es i j n (sound_entries (aliases_of t) s es lists (sound_at front s (array es) leads)) before first second
    fit_excluded flaw (inr (inr (kind, (front, k, is, leads, walks)))) = no_circle t k apart outcomes walks

  -- nor in the whole, where nothing was found in it
  pub whole_excluded : Ascends t → whole_flaws (aliases_of t) done t ≡ [] → (flaw : Flaw) → ¬ FlawHolds (aliases_of t) places.Root t flaw
  whole_excluded ordered none flaw holds = fit_excluded places.Root t (root_fit (aliases_of t) done known all_known t ordered none) flaw holds

-- no fault of inheritance holds of a tree that was read and has a resolution
pub refusal_excluded : (text : List ℕ) (t r : Data) → IsTreeOf text t → resolution t ≡ Ok r → (flaw : Flaw) → ¬ RefusalHolds t flaw
refusal_excluded text t r tree h flaw (inl holds) =
    whole_excluded t (aliases_apart text t tree) (tree_sound t r h).outcomes (read_in_order text t tree.0.1) (tree_sound t r h).whole flaw holds
refusal_excluded text t r tree h flaw (inr (s, looked, deep)) =
    depth_excluded r MAX_LEVELS flaw (tree_sound t r h).shallow (subst (λ x. PassesDepth MAX_LEVELS x flaw) (one_look (aliases_of t) looked (resolution_sound t r (aliases_apart text t tree) h).0) deep)
