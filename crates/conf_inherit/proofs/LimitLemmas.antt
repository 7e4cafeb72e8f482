-- What is said of a value whose names are all resolved is said of it too where more aliases are resolved.
use Rattle.std.proofs.Common.{if◌then◌else◌, ◌≡◌, ◌&&◌, ◌++◌, ℕ, suc, List, Option, Some, None, is_some, Bool, true, false, not, refl, ap, ◌∙◌, subst, ◌⊎◌, inl, inr, ◌↔◌, [], ◌∷◌, Result, Ok, Err, nat_lt, true≢false, sym, arith}
use Rattle.std.proofs.lemmas.Bool.{and_parts, cases_Bool, or_cases, or_left, ltb-false}
use Rattle.serde_json.specs.{Data.{Data, string, array, object, Items, no_items, item, Members, no_members, member, depth}, Find.{get, get_member}}
use Rattle.conf_tree.specs.{Flaw.{key, index, within, Flaw, here}, declared.fault_kind.FaultKind.FaultKind}
use Rattle.conf_tree.specs.{Walk.refusal, declared.fault_kind.FaultKind.TheVariants.{TooDeep, Limit, WrongKind, NoSuchAlias, NameClash}}
use Rattle.conf_tree.specs.declared.limits.TheConstants.{MAX_LEVELS, MAX_VALUES}
use Rattle.conf_table.specs.declared.place.Place.{Place}
use Rattle.conf_inherit.specs.FieldPlaces.{place_under, place_of_items, names_alias, names_type, is_base_name, lists_members, is_entry}
use Rattle.conf_inherit.specs.{Flaws.{is_wrong, known_in, name_fault, is_crowded, fault_or, own_flaws, limits, is_alone, alone_flaws, is_outside, inner_flaws, item_flaws, member_flaws, value_flaws, type_flaws, mark, flaws}, Size.size}
use Rattle.conf_inherit.specs.Laying.{members_below, items_below, lay_text, lay, lay_base, lay_members, lay_over, lay_over_member, lay_new, lay_new_member}
use Rattle.conf_inherit.specs.Limits.{fitting, passed, limit_flaws, Fits, Exceeds, Inherits, InheritsInItems, InheritsInMembers}
use Rattle.conf_inherit.specs.{Named.{all_named, all_named_in_items, all_named_in_members, has}, Names.{join_items, map_items, entries_of, properties_of}, Faults.Leads}
use Rattle.conf_inherit.proofs.FaultLemmas.{named_along, same_part, part_empty, joined_empty, Each, no_flaw, a_flaw, joined, first_told, IsTold, flaws_told}
use Rattle.conf_inherit.proofs.{LayingLemmas.{same_function, over_entries, new_entries, AllEntries, all_joined}, FieldPlaceLemmas.{list_place, entry_place, base_place, alias_place}, WorkedPlaces.{LeadsElsewhere, under_elsewhere, items_elsewhere, not_crowded}}
use Rattle.conf_table.specs.declared.place.Place.TheVariants as places
use borrow.Author.Tests.{ltb-true}

-- the limit of a field type that is no part of another
pub alone_limit : (known : Option Members) (outside : Bool) (s : Place) (k : List ℕ) (d : Data) → is_alone outside s k ≡ true → alone_flaws known outside s k d ≡ limits known (place_under s k) d
unfolding alone_flaws
alone_limit known outside s k d is = rw is refl

-- the flaws of a value are the same where the same names are wrong, and the limits of the field types are the same
module _ (ask now : List ℕ → Option FaultKind) (names : (n : List ℕ) → now n ≡ ask n) where
  alike_name : (s : Place) (v : Data) → name_fault now s v ≡ name_fault ask s v
  alike_name s (string n) = ap (λ o. if names_type s then o else None) (names n)
  alike_name s _ = refl

  pub alike_own : (s : Place) (taken : Bool) (v : Data) → own_flaws now s taken v ≡ own_flaws ask s taken v
  unfolding own_flaws
  alike_own s taken v = ap (λ o. if is_wrong s v then here WrongKind ∷ [] else fault_or o (if taken then here NameClash ∷ [] else if is_crowded s v then here Limit ∷ [] else [])) (alike_name s v)

  module _ (rs ks : Option Members) where
    abbrev SameLimits : Place → Data → Type 0
    SameLimits s d = limits ks s d ≡ limits rs s d

    alike_alone : (outside : Bool) (s : Place) (k : List ℕ) (d : Data) → (outside ≡ true → (t : Place) (x : Data) → SameLimits t x) → (is_base_name s k ≡ true → SameLimits places.FieldType d) → alone_flaws ks outside s k d ≡ alone_flaws rs outside s k d
    unfolding alone_flaws
    alike_alone outside s k d all h = elim (cases_Bool (is_alone outside s k)) [
      | inl is ↦ elim (or_cases (is_base_name s k) (outside && names_type (place_under s k)) is) [
        | inl base ↦ rw (is, base_place s k base) (h base)
        | inr out ↦ rw is (all (and_parts outside (names_type (place_under s k)) out).0 (place_under s k) d)
      ]
      | inr is ↦ rw is refl
    ]

    pub alike_flaws : (outside : Bool) (s : Place) (taken : Bool) (seen : Members) (v : Data) → inner_flaws now ks outside s seen v ≡ inner_flaws ask rs outside s seen v → value_flaws now ks outside s taken seen v ≡ value_flaws ask rs outside s taken seen v
    alike_flaws outside s taken seen v inner = ap (λ x. x ++ inner_flaws now ks outside s seen v) (alike_own s taken v) ∙ ap (λ x. own_flaws ask s taken v ++ x) inner

    mutual
      pub alike_in : (v : Data) (outside : Bool) (s : Place) (seen : Members) → (outside ≡ true → (t : Place) (d : Data) → SameLimits t d) → ((d : Data) → Inherits d s v → SameLimits places.FieldType d) → inner_flaws now ks outside s seen v ≡ inner_flaws ask rs outside s seen v
      alike_in (array es) outside s seen all h = alike_in_items es outside s 0 no_members all h
      alike_in (object ms) outside s seen all h = alike_in_members ms outside s seen all h
      alike_in _ outside s seen all h = refl

      alike_in_items : (es : Items) (outside : Bool) (s : Place) (i : ℕ) (seen : Members) → (outside ≡ true → (t : Place) (d : Data) → SameLimits t d) → ((d : Data) → InheritsInItems d (place_of_items s) es → SameLimits places.FieldType d) → item_flaws now ks outside s i seen es ≡ item_flaws ask rs outside s i seen es
      alike_in_items no_items outside s i seen all h = refl
      alike_in_items (item e es) outside s i seen all h =
          same_part (within (index i)) _ _ _ _ _ _ (alike_own (place_of_items s) false e) (alike_in e outside (place_of_items s) seen all (λ d x. h d (inl x))) (alike_in_items es outside s (suc i) (mark e seen) all (λ d x. h d (inr x)))

      alike_in_members : (ms : Members) (outside : Bool) (s : Place) (seen : Members) → (outside ≡ true → (t : Place) (d : Data) → SameLimits t d) → ((d : Data) → InheritsInMembers d s ms → SameLimits places.FieldType d) → member_flaws now ks outside s seen ms ≡ member_flaws ask rs outside s seen ms
      alike_in_members no_members outside s seen all h = refl
      alike_in_members (member k e ms) outside s seen all h =
          let t = place_under s k in
          let inner = alike_in e (is_outside outside t) t no_members (λ o. all (and_parts outside (not (names_type t)) o).0) (λ d x. h d (inl (inr x))) in
          same_part (within (key k)) _ _ _ _ _ _ (alike_flaws (is_outside outside t) t (is_entry s && is_some (get_member k seen)) no_members e inner) (alike_alone outside s k e all (λ is. h e (inl (inl (is, refl))))) (alike_in_members ms outside s seen all (λ d x. h d (inr x)))

-- each value of a `$inherit` in a value names what the value does
mutual
  pub inherited_named : (p : List ℕ → Bool) (v : Data) (s : Place) (d : Data) → all_named p s v ≡ true → Inherits d s v → all_named p places.FieldType d ≡ true
  inherited_named p (array es) s d h x = inherited_in_items p es (place_of_items s) d h x
  inherited_named p (object ms) s d h x = inherited_in_members p ms s d h x
  inherited_named p _ s d h x = absurd x

  inherited_in_items : (p : List ℕ → Bool) (es : Items) (s : Place) (d : Data) → all_named_in_items p s es ≡ true → InheritsInItems d s es → all_named p places.FieldType d ≡ true
  inherited_in_items p no_items s d h x = absurd x
  inherited_in_items p (item e es) s d h x = let parts = and_parts (all_named p s e) (all_named_in_items p s es) h in elim x [ inl y ↦ inherited_named p e s d parts.0 y | inr y ↦ inherited_in_items p es s d parts.1 y ]

  inherited_in_members : (p : List ℕ → Bool) (ms : Members) (s : Place) (d : Data) → all_named_in_members p s ms ≡ true → InheritsInMembers d s ms → all_named p places.FieldType d ≡ true
  inherited_in_members p no_members s d h x = absurd x
  inherited_in_members p (member k e ms) s d h x =
      let parts = and_parts (all_named p (place_under s k) e) (all_named_in_members p s ms) h in
      elim x [ inl (inl (is, same)) ↦ rw (same, ← base_place s k is) parts.0 | inl (inr y) ↦ inherited_named p e (place_under s k) d parts.0 y | inr y ↦ inherited_in_members p ms s d parts.1 y ]

module _ (done more : Members) (kept : (n : List ℕ) → has done n ≡ true → get_member n more ≡ get_member n done) where
  -- all that a value names is resolved
  abbrev IsNamed : Place → Data → Type 0
  IsNamed s v = all_named (has done) s v ≡ true

  pub more_named : (s : Place) (v : Data) → IsNamed s v → all_named (has more) s v ≡ true
  more_named s v h = named_along (has done) (has more) (λ n is. ap is_some (kept n is) ∙ is) s v h

  kept_text : (s : Place) (n : List ℕ) → IsNamed s (string n) → lay_text more s n ≡ lay_text done s n
  kept_text s n h = grind (arith, kept n)

  -- a value is laid to the same, over whatever base
  abbrev IsKept : Data → Type 0
  IsKept d = (base : Option Data) → lay more places.Member d base ≡ lay done places.Member d base

  kept_over : (ms : Members) → AllEntries (λ n d. IsKept d) ms → (b rest : Data) → lay_over_member more ms b rest ≡ lay_over_member done ms b rest
  kept_over no_members each b rest = refl
  kept_over (member n d ms) each b rest = rw (each.0 (get n b), kept_over ms each.1 b rest) refl

  kept_new : (ms : Members) → AllEntries (λ n d. IsKept d) ms → (seen : Items) → lay_new_member more ms seen no_items ≡ lay_new_member done ms seen no_items
  kept_new no_members each seen = refl
  kept_new (member n d ms) each seen = rw (each.0 None, kept_new ms each.1 seen) refl

  mutual
    pub kept_lay : (v : Data) (s : Place) (base : Option Data) → IsNamed s v → lay more s v base ≡ lay done s v base
    kept_lay (string n) s base h = kept_text s n h
    kept_lay (array es) s base h = elim (cases_Bool (lists_members s)) [
      | inl is ↦ (let each = kept_entries es (subst (λ t. all_named_in_items (has done) t es ≡ true) (list_place s is) h) in
          let over = same_function (λ b. lay_over more es b) (λ b. lay_over done es b) (λ b. over_entries more es b ∙ kept_over (entries_of es) each b b ∙ sym (over_entries done es b)) in
          let new = new_entries more es (items_below base) ∙ kept_new (entries_of es) each (items_below base) ∙ sym (new_entries done es (items_below base)) in
          rw is (ap (λ f. array (join_items (map_items f (items_below base)) (lay_new more es (items_below base)))) over ∙ ap (λ x. array (join_items (map_items (λ b. lay_over done es b) (items_below base)) x)) new))
      | inr is ↦ rw is refl
    ]
    kept_lay (object ms) s base h =
        ap object (kept_members ms s (members_below (lay_base more s ms base)) h ∙ ap (λ b. lay_members done s ms (members_below b)) (kept_base ms s base h))
    kept_lay _ s base h = refl

    kept_base : (ms : Members) (s : Place) (base : Option Data) → all_named_in_members (has done) s ms ≡ true → lay_base more s ms base ≡ lay_base done s ms base
    kept_base no_members s base h = refl
    kept_base (member k d ms) s base h =
        let parts = and_parts (all_named (has done) (place_under s k) d) (all_named_in_members (has done) s ms) h in
        grind (arith, base_place s k, kept_lay d places.FieldType None, kept_base ms s base parts.1, parts.0)

    kept_members : (ms : Members) (s : Place) (base : Members) → all_named_in_members (has done) s ms ≡ true → lay_members more s ms base ≡ lay_members done s ms base
    kept_members no_members s base h = refl
    kept_members (member k d ms) s base h =
        let parts = and_parts (all_named (has done) (place_under s k) d) (all_named_in_members (has done) s ms) h in
        rw (kept_lay d (place_under s k) (get_member k base) parts.0, kept_members ms s base parts.1) refl

    kept_entries : (es : Items) → all_named_in_items (has done) places.Entry es ≡ true → AllEntries (λ n d. IsKept d) (entries_of es)
    kept_entries no_items h = tt
    kept_entries (item e es) h =
        let parts = and_parts (all_named (has done) places.Entry e) (all_named_in_items (has done) places.Entry es) h in
        all_joined (λ n d. IsKept d) (properties_of e) (entries_of es) (kept_entry e parts.0) (kept_entries es parts.1)

    kept_entry : (e : Data) → IsNamed places.Entry e → AllEntries (λ n d. IsKept d) (properties_of e)
    kept_entry (object ms) h = kept_properties ms h
    kept_entry _ h = tt

    kept_properties : (ms : Members) → all_named_in_members (has done) places.Entry ms ≡ true → AllEntries (λ n d. IsKept d) ms
    kept_properties no_members h = tt
    kept_properties (member n d ms) h =
        let parts = and_parts (all_named (has done) (place_under places.Entry n) d) (all_named_in_members (has done) places.Entry ms) h in
        (λ base. kept_lay d places.Member base (subst (λ t. all_named (has done) t d ≡ true) (entry_place n) parts.0), kept_properties ms parts.1)

  kept_limit : (s : Place) (v : Data) → IsNamed s v → limit_flaws more s v ≡ limit_flaws done s v
  kept_limit s v h = rw (more_named s v h, h) (ap (λ r. passed (fitting r)) (kept_lay v s None h))

  module _ (al : Members) where
    pub kept_inner : (v : Data) (s : Place) (seen : Members) → IsNamed s v → inner_flaws (known_in al) (Some more) false s seen v ≡ inner_flaws (known_in al) (Some done) false s seen v
    kept_inner v s seen h = alike_in (known_in al) (known_in al) (λ n. refl) (Some done) (Some more) v false s seen (λ out. absurd (true≢false (sym out))) (λ d x. kept_limit places.FieldType d (inherited_named (has done) v s d h x))

    -- the flaws of a type stay the same
    pub kept_flaws : (s : Place) (v : Data) → IsNamed s v → type_flaws al more s v ≡ type_flaws al done s v
    kept_flaws s v h =
        ap (λ x. (own_flaws (known_in al) s false v ++ x) ++ limit_flaws more s v) (kept_inner v s no_members h)
        ∙ ap (λ x. (own_flaws (known_in al) s false v ++ inner_flaws (known_in al) (Some done) false s no_members v) ++ x) (kept_limit s v h)

-- What the limits of a type are judged by: nothing is refused exactly where all that is judged fits, and what is
-- refused is past the limit.

-- a resolved type fits, or passes a limit
pub data Judged (r : Data) : Result Data FaultKind → Type 0 where
  fits : Fits r → Judged r (Ok r)
  exceeds : (kind : FaultKind) → Exceeds kind r → Judged r (Err kind)

pub judged : (r : Data) → Judged r (fitting r)
judged r = go (nat_lt MAX_VALUES (size r)) refl (nat_lt MAX_LEVELS (depth r)) refl
  where
    go : (a : Bool) → nat_lt MAX_VALUES (size r) ≡ a → (b : Bool) → nat_lt MAX_LEVELS (depth r) ≡ b → Judged r (fitting r)
    go true is b deep = rw is (exceeds Limit (ltb-true MAX_VALUES (size r) is))
    go false is true deep = rw (is, deep) (exceeds TooDeep (ltb-true MAX_LEVELS (depth r) deep))
    go false is false flat = rw (is, flat) (fits (ltb-false MAX_VALUES (size r) is, ltb-false MAX_LEVELS (depth r) flat))

-- no type fits that is past a limit
pub apart_fits : (kind : FaultKind) (r : Data) → Fits r → Exceeds kind r → ⊥
apart_fits Limit r (few, flat) past = omega arith
apart_fits TooDeep r (few, flat) past = omega arith
apart_fits _ r f h = h

-- what fits is the value itself
pub fitting_value : (r t : Data) → fitting r ≡ Ok t → r ≡ t
fitting_value r t h = grind arith

-- what is told of each limit that a type passes
passed_told : (P : Flaw → Type 0) (r : Data) (o : Result Data FaultKind) → ((kind : FaultKind) → Exceeds kind r → P (here kind)) → Judged r o → Each P (passed o)
passed_told P r o told (fits h) = no_flaw
passed_told P r o told (exceeds kind past) = a_flaw (told kind past) no_flaw

pub limits_told : (P : Flaw → Type 0) (done : Members) (s : Place) (v : Data) → (all_named (has done) s v ≡ true → (kind : FaultKind) → Exceeds kind (lay done s v None) → P (here kind)) → Each P (limit_flaws done s v)
limits_told P done s v told = elim (cases_Bool (all_named (has done) s v)) [ inl is ↦ rw is (passed_told P (lay done s v None) _ (told is) (judged (lay done s v None))) | inr is ↦ rw is no_flaw ]

-- nothing is listed where the type fits, and only there
fits_at : (r : Data) (o : Result Data FaultKind) → Judged r o → (passed o ≡ [] → Fits r) × (Fits r → passed o ≡ [])
fits_at r o (fits h) = ((λ e. h), (λ f. refl))
fits_at r o (exceeds kind past) = ((λ e. cc), (λ f. absurd (apart_fits kind r f past)))

-- the limit that the alias of a name passes
pub name_limit : (done : Members) (s : Place) (v : Data) (n m : List ℕ) → v ≡ string n → m ≡ n → names_alias s ≡ true → all_named (has done) s v ≡ true → passed (fitting (lay done places.FieldType (string m) None)) ≡ limit_flaws done s v
name_limit done s v n m is same names named =
    let at : limit_flaws done s v ≡ passed (fitting (lay done s v None)) = rw named refl in
    ap (λ x. passed (fitting (lay done places.FieldType (string x) None))) same
    ∙ ap (λ t. passed (fitting (lay done t (string n) None))) (sym (alias_place s names))
    ∙ ap (λ x. passed (fitting (lay done s x None))) (sym is)
    ∙ sym at

pub both_empty : {A : Type 0} (xs ys : List A) → xs ≡ [] → ys ≡ [] → xs ++ ys ≡ []
both_empty [] ys e h = h
both_empty (x ∷ xs) ys e h = cc

module _ (done : Members) where
  -- a field type, by itself, fits, if it resolves
  abbrev pub FitsAlone : Place → Data → Type 0
  FitsAlone s d = all_named (has done) s d ≡ true → Fits (lay done s d None)

  -- all of these do
  abbrev pub EachFits : (Data → Type 0) → Type 0
  EachFits In = (d : Data) → In d → FitsAlone places.FieldType d

  pub limit_fits : (s : Place) (v : Data) → limit_flaws done s v ≡ [] ↔ FitsAlone s v
  limit_fits s v = elim (cases_Bool (all_named (has done) s v)) [
    | inl is ↦ (let fit = fits_at (lay done s v None) _ (judged (lay done s v None)) in rw is ((λ e x. fit.0 e), (λ h. fit.1 (h refl))))
    | inr is ↦ rw is ((λ e x. absurd (true≢false (sym x))), (λ h. refl))
  ]

  module _ (al : Members) where
    -- where a value has no flaw, no value of a `$inherit` in it passes a limit
    mutual
      bases_free : (v : Data) (s : Place) (taken : Bool) (seen : Members) → flaws al (Some done) s taken seen v ≡ [] → (d : Data) → Inherits d s v → limit_flaws done places.FieldType d ≡ []
      bases_free (array es) s taken seen h d x = bases_free_items es s 0 no_members (joined_empty (own_flaws (known_in al) s taken (array es)) (item_flaws (known_in al) (Some done) false s 0 no_members es) h).1 d x
      bases_free (object ms) s taken seen h d x = bases_free_members ms s seen (joined_empty (own_flaws (known_in al) s taken (object ms)) (member_flaws (known_in al) (Some done) false s seen ms) h).1 d x
      bases_free _ s taken seen h d x = absurd x

      bases_free_items : (es : Items) (s : Place) (i : ℕ) (seen : Members) → item_flaws (known_in al) (Some done) false s i seen es ≡ [] → (d : Data) → InheritsInItems d (place_of_items s) es → limit_flaws done places.FieldType d ≡ []
      bases_free_items no_items s i seen h d x = absurd x
      bases_free_items (item e es) s i seen h d x =
          let (mine, later) = part_empty (within (index i)) (flaws al (Some done) (place_of_items s) false seen e) (item_flaws (known_in al) (Some done) false s (suc i) (mark e seen) es) h in
          elim x [ inl y ↦ bases_free e (place_of_items s) false seen mine d y | inr y ↦ bases_free_items es s (suc i) (mark e seen) later d y ]

      bases_free_members : (ms : Members) (s : Place) (seen : Members) → member_flaws (known_in al) (Some done) false s seen ms ≡ [] → (d : Data) → InheritsInMembers d s ms → limit_flaws done places.FieldType d ≡ []
      bases_free_members no_members s seen h d x = absurd x
      bases_free_members (member k e ms) s seen h d x =
          let taken = is_entry s && is_some (get_member k seen) in
          let all = flaws al (Some done) (place_under s k) taken no_members e in
          let (mine, later) = part_empty (within (key k)) (all ++ alone_flaws (Some done) false s k e) (member_flaws (known_in al) (Some done) false s seen ms) h in
          let (whole, base) = joined_empty all (alone_flaws (Some done) false s k e) mine in
          elim x [
            | inl (inl (is, same)) ↦ rw same (subst (λ t. limit_flaws done t e ≡ []) (base_place s k is) (sym (alone_limit (Some done) false s k e (or_left (is_base_name s k) false is)) ∙ base))
            | inl (inr y) ↦ bases_free e (place_under s k) taken no_members whole d y
            | inr y ↦ bases_free_members ms s seen later d y
          ]

    -- the other flaws are those where no resolved alias is known
    pub fits_inside : (v : Data) (s : Place) (taken : Bool) (seen : Members) → flaws al (Some done) s taken seen v ≡ [] → (flaws al None s taken seen v ≡ []) × EachFits (λ d. Inherits d s v)
    fits_inside v s taken seen h =
        let free = bases_free v s taken seen h in
        (alike_flaws (known_in al) (known_in al) (λ n. refl) (Some done) None false s taken seen v (alike_in (known_in al) (known_in al) (λ n. refl) (Some done) None v false s seen (λ out. absurd (true≢false (sym out))) (λ d x. sym (free d x))) ∙ h, λ d x. (limit_fits places.FieldType d).0 (free d x))

    -- nothing is refused exactly where there is no other flaw, and the type and all that it inherits from fit
    pub sound_type : (s : Place) (v : Data) → type_flaws al done s v ≡ [] ↔ ((flaws al None s false no_members v ≡ []) × FitsAlone s v × EachFits (λ d. Inherits d s v))
    sound_type s v =
        let all = flaws al (Some done) s false no_members v in (
          λ e. let (none, limit) = joined_empty all (limit_flaws done s v) e in let fit = fits_inside v s false no_members none in (fit.0, (limit_fits s v).0 limit, fit.1),
          λ h. both_empty all (limit_flaws done s v) (alike_flaws (known_in al) (known_in al) (λ n. refl) None (Some done) false s false no_members v (alike_in (known_in al) (known_in al) (λ n. refl) None (Some done) v false s no_members (λ out. absurd (true≢false (sym out))) (λ d x. (limit_fits places.FieldType d).1 (h.2 d x))) ∙ h.0) ((limit_fits s v).1 h.1),
        )

    -- ---- a limit that is refused

    abbrev is_limit : FaultKind → Bool
    is_limit Limit = true
    is_limit TooDeep = true
    is_limit _ = false

    -- the type that the path leads to is past the limit
    abbrev LimitAt : Place → Data → Flaw → Type 0
    LimitAt s v f = (d : Data) × Leads s v f.path places.FieldType d × (all_named (has done) places.FieldType d ≡ true) × Exceeds f.kind (lay done places.FieldType d None)

    -- a flaw of a part of a field type, if it is a limit, is at such a type
    abbrev LimitTold : Place → Data → Flaw → Type 0
    LimitTold s v f = LeadsElsewhere s → is_limit f.kind ≡ true → LimitAt s v f

    limit_told : (d : Data) → Each (LimitTold places.FieldType d) (limit_flaws done places.FieldType d)
    limit_told d = limits_told _ done places.FieldType d (λ named kind past away is. (d, (refl, refl), named, past))

    alone_base : (s : Place) (k : List ℕ) → is_alone false s k ≡ true → place_under s k ≡ places.FieldType
    alone_base s k is = elim (or_cases (is_base_name s k) false is) [ inl base ↦ base_place s k base | inr bad ↦ absurd (true≢false (sym bad)) ]

    named_limit : (s : Place) (v : Data) (kind : FaultKind) → name_fault (known_in al) s v ≡ Some kind → is_limit kind ≡ true → ⊥
    named_limit s (string n) kind named is = elim (cases_Bool (names_type s)) [
      | inl type ↦ elim (cases_Bool (has al n)) [
        | inl e ↦ (let bad : None ≡ Some kind = rw (type, e) at named in cc)
        | inr e ↦ (let bad : Some NoSuchAlias ≡ Some kind = rw (type, e) at named in let same : NoSuchAlias ≡ kind = cc in true≢false (sym (subst (λ x. is_limit x ≡ true) (sym same) is)))
      ]
      | inr type ↦ (let bad : None ≡ Some kind = rw type at named in cc)
    ]
    named_limit s _ kind named is = cc

    told : IsTold (known_in al) (Some done) false LimitTold
    told = record {
      in_object = λ s k e ms g m at away is. let (d, leads, named, past) = at (under_elsewhere s k away) is in (d, (ms, e, refl, m, leads), named, past);
      in_list = λ s i e es g m at away is. let (d, leads, named, past) = at (items_elsewhere s) is in (d, (es, e, refl, m, leads), named, past);
      wrong = λ s v wrong away is. absurd (true≢false (sym is));
      misnamed = λ s v kind named away is. absurd (named_limit s v kind named is);
      crowded = λ s v crowded away is. absurd (true≢false (sym crowded ∙ not_crowded s v away));
      clash = λ s es i j n lists before first second away is. absurd (true≢false (sym is));
      alone = λ s k d is. subst (λ t. Each (LimitTold t d) (limit_flaws done t d)) (sym (alone_base s k is)) (limit_told d);
    }

    -- a type that is refused for a limit leads to one that passes it
    pub refused_limit : (v : Data) (f : Flaw) → refusal (type_flaws al done places.FieldType v) ≡ Err f → (f.kind ≡ Limit) ⊎ (f.kind ≡ TooDeep) → LimitAt places.FieldType v f
    refused_limit v f h named =
        first_told f (joined (flaws_told (known_in al) (Some done) false LimitTold told false (λ out. out) places.FieldType v) (limit_told v)) h refl (elim named [ inl e ↦ ap is_limit e | inr e ↦ ap is_limit e ])
