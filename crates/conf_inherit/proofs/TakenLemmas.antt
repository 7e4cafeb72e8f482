-- The aliases of a configuration: that each was resolved as it is laid, and is sound.
use Rattle.std.proofs.Common.{arith, string_bytes, ◌≡◌, ◌++◌, ◌&&◌, ℕ, List, [], map, Option, Some, None, Result, Ok, Err, is_some, true, false, true≢false, refl, sym, ap, ◌∙◌, subst, inl, inr, ◌∷◌, ◌⊎◌, suc, ◌≤◌}
use Rattle.std.proofs.{lemmas.Bool.{cases_Bool, or_left}, lemmas.Slice.Eq.{bytes_eq-Decides}, lemmas.Map.Text.{is_eq-slice_cmp}}
use Rattle.std.proofs.lemmas.Result.{err_from_is_err_and}
use Rattle.std.specs.{Prelude.{⊤}, Str.{bytes_eq}, Result.{IsErrAnd}}
use Rattle.serde_json.specs.{Data.{Data, null, object, Members, no_members, member, string, array, put, members_depth}, declared.value.Value.{Value}}
use Rattle.serde_json.specs.{Find.{get_member, get, as_object}, View.{view, members_view}}
use Rattle.serde_json.proofs.Views.{Entry}
use Rattle.conf_tree.specs.{Flaw.{Flaw, key, within, flaw_of, IsMemory}, Walk.{refusal}, Reading.{◌>>=◌, Gives}, declared.fault.ConfFault.{ConfFault}}
use Rattle.conf_tree.specs.declared.limits.TheConstants.{MAX_LEVELS}
use Rattle.conf_inherit.specs.declared.nesting.TheConstants.{ALIAS_LEVELS}
use Rattle.conf_table.specs.declared.place.Place.TheVariants as places
use Rattle.conf_table.specs.{declared.place.Place.{Place}, Table.{rows_of, entries_of, content_under, place_in}}
use Rattle.conf_inherit.specs.{AliasFlaws.{all_alias_flaws}, Flaws.{known_in, own_flaws, alone_flaws, is_outside, inner_flaws, member_flaws, value_flaws, type_flaws, whole_flaws}, Limits.{limit_flaws}, Names.{NoClash}, Spent.{Spends}}
use Rattle.conf_inherit.specs.Laying.{lay, lay_base, lay_members}
use Rattle.conf_inherit.specs.{Whole.{AreLaid, at_way, with_property, in_property, in_object, with_object, with_aliases}, Named.{has}}
use Rattle.conf_inherit.specs.FieldPlaces.{field_place, place_under, names_alias, names_member_type, is_base_name, lists_members, is_entry}
use Rattle.conf_inherit.specs.Rounds.{Outcomes, has_outcome, outcome, rounds, no_outcomes, Reached}
use Rattle.conf_inherit.specs.Resolution.{trace_name, type_name, aliases_name, from_aliases, aliases_of, members_or_none, if_shallow, resolution_after}
use Rattle.conf_inherit.specs.Nesting.{deep_flaws, deep_member_flaws}
use Rattle.conf_inherit.proofs.{FieldPlaceLemmas.{trace_place, trace_type_place, aliases_place}, WorkedPlaces.leads_on}
use Rattle.conf_inherit.proofs.LayingLemmas.{differs, cases_Option, same_members, in_order_lay, lay_members-absent, lay_members-found, same, other, meets, get_other, get_same, AllEntries, all_along, found_each, equal_names, apart_greater}
use Rattle.conf_inherit.proofs.{LimitLemmas.fitting_value, LookedUp.aliases_found}
use Rattle.conf_inherit.proofs.{RoundLemmas.{no_flaws, sound_of, outcome_is, all_done, rounds_reached}, FaultLemmas.{some_of}, TurnLemmas.{reached_sound}}
use Rattle.conf_inherit.proofs.{SpentLemmas.{written, same_names, same_alias_flaws, same_flaws}, SizeLemmas.{depth_shallow}}

-- ---- an object that has the aliases in it

-- such an object is no field type, and inherits nothing; nor is it an entry
pub record IsAbove (s : Place) : Type 0 where
  pub base : (k : List ℕ) → is_base_name s k ≡ false
  pub alias : names_alias s ≡ false
  pub member : names_member_type s ≡ false
  pub list : lists_members s ≡ false
  pub entry : is_entry s ≡ false

is_above : (s : Place) → leads_on s ≡ true → IsAbove s
unfolding leads_on is_base_name names_alias names_member_type lists_members is_entry
is_above places.FieldType on = absurd (true≢false (sym on))
is_above places.Member on = absurd (true≢false (sym on))
is_above places.Members on = absurd (true≢false (sym on))
is_above places.ExtraMembers on = absurd (true≢false (sym on))
is_above places.Entry on = absurd (true≢false (sym on))
is_above _ on = record { base = λ k. refl; alias = refl; member = refl; list = refl; entry = refl }

no_lay_base : (done : Members) (s : Place) (ms : Members) → leads_on s ≡ true → lay_base done s ms None ≡ None
no_lay_base done s no_members h = refl
no_lay_base done s (member k d ms) h = rw ((is_above s h).base k) (no_lay_base done s ms h)

pub laid_object : (done : Members) (s : Place) (ms : Members) → leads_on s ≡ true → lay done s (object ms) None ≡ object (lay_members done s ms no_members)
laid_object done s ms h = rw (no_lay_base done s ms h) refl

laid_outcome : (al done : Members) (w r : Data) → outcome al done w ≡ Some r → lay done places.FieldType w None ≡ r
laid_outcome al done w r h = fitting_value (lay done places.FieldType w None) r (outcome_is al done w r h).fits

no_done : (al : Members) (st : Outcomes) (q : List ℕ) → (has_outcome st q ≡ true → has al q ≡ true) → get_member q al ≡ None → get_member q st.done ≡ None
no_done al st q own none = grind (arith, own, cases_Option (get_member q st.done))

-- an alias is a field type
alias_laid : (done : Members) (q : List ℕ) (w : Data) (al : Members) → get_member q al ≡ Some w → get_member q (lay_members done places.FieldTypeAliases al no_members) ≡ Some (lay done places.FieldType w None)
unfolding place_under content_under entries_of rows_of place_in field_place is_base_name
alias_laid done q w al is = lay_members-found done places.FieldTypeAliases q w al no_members refl is

module _ (al : Members) (n : ℕ) (st : Outcomes) (apart : NoClash al) (turned : st ≡ rounds al n no_outcomes) (sound : from_aliases (refusal (all_alias_flaws al st al)) ≡ Ok tt) where
  reached : Reached al st
  reached = subst (Reached al) (sym turned) (rounds_reached al n (found_each al apart))

  -- where no alias has a flaw, each is resolved
  found_alias : (k : List ℕ) (w : Data) → get_member k al ≡ Some w → (r : Data) × (outcome al st.done w ≡ Some r) × (get_member k st.done ≡ Some r)
  found_alias k w is =
      let done : has st.done k ≡ true = all_done al st (no_flaws (all_alias_flaws al st al) (sound_of (refusal (all_alias_flaws al st al)) sound)) reached k (ap is_some is) in
      let found = some_of (get_member k st.done) done in
      let comes = (reached_sound al reached).comes k w is (or_left (has st.done k) (has st.refused k) done) in
      (found.0, sym comes.value ∙ found.1, found.1)

  -- and as it is laid
  pub whole_laid : AreLaid st.done al
  whole_laid =
      same_members st.done (lay_members st.done places.FieldTypeAliases al no_members) (reached_sound al reached).done_order (in_order_lay st.done places.FieldTypeAliases al no_members tt) (λ q. at q (get_member q al) refl)
    where
      at : (q : List ℕ) (o : Option Data) → get_member q al ≡ o → get_member q st.done ≡ get_member q (lay_members st.done places.FieldTypeAliases al no_members)
      at q None e = no_done al st q ((reached_sound al reached).own q) e ∙ sym (lay_members-absent st.done places.FieldTypeAliases q al no_members e)
      at q (Some w) e =
          let found = found_alias q w e in
          found.2 ∙ ap Some (sym (laid_outcome al st.done w found.0 found.1)) ∙ sym (alias_laid st.done q w al e)

-- ---- what was found to be sound

sound_outcome : (al done : Members) (w r : Data) → outcome al done w ≡ Some r → type_flaws al done places.FieldType w ≡ []
sound_outcome al done w r h =
    let is = outcome_is al done w r h in
    let named = is.named in
    let fits = is.fits in
    ap (λ fs. fs ++ limit_flaws done places.FieldType w) is.flawless ∙ rw (named, fits) refl

sound_aliases : (al done ms : Members) → AllEntries (λ k w. type_flaws al done places.FieldType w ≡ []) ms → member_flaws (known_in al) (Some done) true places.FieldTypeAliases no_members ms ≡ []
unfolding place_under content_under entries_of rows_of place_in field_place names_alias is_base_name is_entry alone_flaws
sound_aliases al done no_members each = refl
sound_aliases al done (member k w ms) each =
    ap (λ fs. map (within (key k)) fs ++ member_flaws (known_in al) (Some done) true places.FieldTypeAliases no_members ms) each.0 ∙ sound_aliases al done ms each.1

-- where nothing is found in the aliases, each is sound
pub alias_sound : (al : Members) (n : ℕ) (st : Outcomes) → NoClash al → st ≡ rounds al n no_outcomes → from_aliases (refusal (all_alias_flaws al st al)) ≡ Ok tt → (k : List ℕ) (w : Data) → get_member k al ≡ Some w → type_flaws al st.done places.FieldType w ≡ []
alias_sound al n st apart turned sound k w is = let found = found_alias al n st apart turned sound k w is in sound_outcome al st.done w found.0 found.1

pub whole_sound : (al : Members) (n : ℕ) (st : Outcomes) → NoClash al → st ≡ rounds al n no_outcomes → from_aliases (refusal (all_alias_flaws al st al)) ≡ Ok tt → member_flaws (known_in al) (Some st.done) true places.FieldTypeAliases no_members al ≡ []
whole_sound al n st apart turned sound =
    sound_aliases al st.done al (all_along (λ k w. get_member k al ≡ Some w) (λ k w. type_flaws al st.done places.FieldType w ≡ []) (alias_sound al n st apart turned sound) al (found_each al apart))

-- A configuration with other aliases in the place of its own: what is found, laid and refused in it.

-- ---- the value of one name

members_twice : (n : List ℕ) (f g h : Data → Data) → ((d : Data) → f (g d) ≡ h d) → (ms : Members) → with_property n f (with_property n g ms) ≡ with_property n h ms
members_twice n f g h each no_members = refl
members_twice n f g h each (member k d ms) = grind (arith, each d, members_twice n f g h each ms)

value_twice : (n : List ℕ) (f g h : Data → Data) → ((d : Data) → f (g d) ≡ h d) → (v : Data) → in_property n f (in_property n g v) ≡ in_property n h v
value_twice n f g h each (object ms) = ap object (members_twice n f g h each ms)
value_twice n f g h each _ = refl

members_same : (n : List ℕ) (f : Data → Data) (ms : Members) → ((d : Data) → get_member n ms ≡ Some d → f d ≡ d) → with_property n f ms ≡ ms
members_same n f no_members each = refl
members_same n f (member k d ms) each = elim (meets n k) [
  | same e ↦ grind (arith, each d (get_same n k d ms e), (bytes_eq-Decides k n).1 (sym e))
  | other away ↦ grind (arith, differs k n (λ e. away (sym e)), members_same n f ms (λ e at. each e (get_other n k d ms away ∙ at)))
]

value_stays : (n : List ℕ) (f : Data → Data) (v : Data) → ((d : Data) → get n v ≡ Some d → f d ≡ d) → in_property n f v ≡ v
value_stays n f (object ms) each = ap object (members_same n f ms each)
value_stays n f _ each = refl

-- where the name is none of theirs, all stay
pub with_none : (n : List ℕ) (f : Data → Data) (ms : Members) → get_member n ms ≡ None → with_property n f ms ≡ ms
with_none n f ms none = members_same n f ms (λ d is. absurd (let bad : None ≡ Some d = sym none ∙ is in cc))

-- it is written in its place
pub written_with : (n : List ℕ) (f : Data → Data) (d : Data) (w : Value) (es : List Entry) → get_member n (members_view es) ≡ Some d → view w ≡ f d → members_view (written n es w) ≡ with_property n f (members_view es)
written_with n f d w [] there is = cc
written_with n f d w (e ∷ es) there is =
    let k = string_bytes e.0 in
    elim (meets n k) [
      | same one ↦ grind (arith, is_eq-slice_cmp n k, (bytes_eq-Decides n k).1 one, (bytes_eq-Decides k n).1 (sym one), get_same n k (view e.1) (members_view es) one)
      | other apart ↦ grind (arith, is_eq-slice_cmp n k, differs n k apart, differs k n (λ q. apart (sym q)), get_other n k (view e.1) (members_view es) apart, written_with n f d w es)
    ]

-- ---- the aliases of a configuration

object_twice : (al ns : Members) (v : Data) → in_object al (in_object ns v) ≡ in_object al v
object_twice al ns null = refl
object_twice al ns _ = refl

-- what holds of two such values along the way, from the object of the aliases up, holds of the configuration
pub on_way : (P : Place → (Data → Data) → (Data → Data) → Type 0) (al ns : Members) → P places.FieldTypeAliases (in_object al) (in_object ns)
    → ((s : Place) (n : List ℕ) (f g : Data → Data) → leads_on s ≡ true → leads_on (place_under s n) ≡ true → P (place_under s n) f g → P s (in_property n f) (in_property n g)) → P places.Root (with_aliases al) (with_aliases ns)
unfolding with_aliases leads_on
on_way P al ns last next =
    let aliases = next places.TraceType aliases_name (in_object al) (in_object ns) refl (rw aliases_place refl) (subst (λ s. P s (in_object al) (in_object ns)) (sym aliases_place) last) in
    let f = in_property aliases_name (in_object al) in
    let g = in_property aliases_name (in_object ns) in
    let type = next places.Trace type_name f g refl (rw trace_type_place refl) (subst (λ s. P s f g) (sym trace_type_place) aliases) in
    next places.Root trace_name (in_property type_name f) (in_property type_name g) refl (rw trace_place refl) (subst (λ s. P s (in_property type_name f) (in_property type_name g)) (sym trace_place) type)

pub aliases_twice : (al ns : Members) (t : Data) → with_aliases al (with_aliases ns t) ≡ with_aliases al t
aliases_twice al ns t = on_way (λ s f g. (v : Data) → f (g v) ≡ f v) al ns (object_twice al ns) (λ s n f g above on each. value_twice n f g f each) t

own_object : (al : Members) (d : Data) → al ≡ members_or_none (Some d) → in_object al d ≡ d
own_object al (object ms) h = ap object h
own_object al _ h = refl

own_aliases : (t : Data) → with_aliases (aliases_of t) t ≡ t
unfolding with_aliases
own_aliases t =
    let al = aliases_of t in
    value_stays trace_name (in_property type_name (in_property aliases_name (in_object al))) t (λ trace in_root.
    value_stays type_name (in_property aliases_name (in_object al)) trace (λ type in_trace.
    value_stays aliases_name (in_object al) type (λ found in_type.
    own_object al found (aliases_found t trace type found in_root in_trace in_type))))

-- the aliases, put back where they were
pub back_again : (t : Data) (al none : Members) (v : Data) → al ≡ aliases_of t → v ≡ with_aliases none t → with_aliases al v ≡ t
back_again t al none v own taken = ap (λ ms. with_aliases ms v) own ∙ ap (with_aliases (aliases_of t)) taken ∙ aliases_twice (aliases_of t) none t ∙ own_aliases t

-- what they were taken out of has none
pub bare_again : (t : Data) (es : List Entry) (v : Data) → es ≡ [] → v ≡ with_aliases (members_view es) t → with_aliases no_members v ≡ v
bare_again t es v none taken =
    let bare : v ≡ with_aliases no_members t = taken ∙ ap (λ xs. with_aliases (members_view xs) t) none in
    ap (with_aliases no_members) bare ∙ aliases_twice no_members no_members t ∙ sym bare

-- ---- what is wrong with the whole, whatever sound aliases there are

module _ (al done : Members) where
  -- an object with the aliases in it has no flaw of its own
  own_none : (s : Place) (ms : Members) → leads_on s ≡ true → own_flaws (known_in al) s false (object ms) ≡ []
  unfolding own_flaws
  own_none s ms above = let at = is_above s above in rw (at.list, at.entry, at.member) refl

  -- the flaws of a property
  abbrev property_flaws : Place → List ℕ → Data → List Flaw
  property_flaws s k d =
      (own_flaws (known_in al) (place_under s k) (is_entry s && false) d ++ inner_flaws (known_in al) (Some done) (is_outside true (place_under s k)) (place_under s k) no_members d) ++ alone_flaws (Some done) true s k d

  property_there : (s : Place) (k : List ℕ) (d : Data) → leads_on s ≡ true → leads_on (place_under s k) ≡ true → property_flaws s k d ≡ value_flaws (known_in al) (Some done) true (place_under s k) false no_members d ++ []
  unfolding alone_flaws
  property_there s k d above on = let at = is_above s above in let under = is_above (place_under s k) on in rw (at.entry, at.base k, under.alias, under.member) refl

  module _ (s : Place) (n : List ℕ) (f g : Data → Data) (above : leads_on s ≡ true) (on : leads_on (place_under s n) ≡ true)
      (alike : (d : Data) → value_flaws (known_in al) (Some done) true (place_under s n) false no_members (f d) ≡ value_flaws (known_in al) (Some done) true (place_under s n) false no_members (g d)) where
    property_alike : (k : List ℕ) (d : Data) → k ≡ n → property_flaws s k (f d) ≡ property_flaws s k (g d)
    property_alike k d one = subst (λ x. property_flaws s x (f d) ≡ property_flaws s x (g d)) (sym one) (property_there s n (f d) above on ∙ ap (λ fs. fs ++ []) (alike d) ∙ sym (property_there s n (g d) above on))

    members_alike : (ms : Members) → member_flaws (known_in al) (Some done) true s no_members (with_property n f ms) ≡ member_flaws (known_in al) (Some done) true s no_members (with_property n g ms)
    members_alike no_members = refl
    members_alike (member k d ms) = elim (cases_Bool (bytes_eq k n)) [
      | inl is ↦ rw is (ap (λ fs. map (within (key k)) fs ++ member_flaws (known_in al) (Some done) true s no_members ms) (property_alike k d ((bytes_eq-Decides k n).0 is)))
      | inr is ↦ rw is (ap (λ fs. map (within (key k)) (property_flaws s k d) ++ fs) (members_alike ms))
    ]

    alike_under : (v : Data) → value_flaws (known_in al) (Some done) true s false no_members (in_property n f v) ≡ value_flaws (known_in al) (Some done) true s false no_members (in_property n g v)
    alike_under (object ms) = rw (own_none s (with_property n f ms) above, own_none s (with_property n g ms) above) (members_alike ms)
    alike_under _ = refl

  module _ (ms ns : Members) (alike : member_flaws (known_in al) (Some done) true places.FieldTypeAliases no_members ms ≡ member_flaws (known_in al) (Some done) true places.FieldTypeAliases no_members ns) where
    alike_object : (v : Data) → value_flaws (known_in al) (Some done) true places.FieldTypeAliases false no_members (in_object ms v) ≡ value_flaws (known_in al) (Some done) true places.FieldTypeAliases false no_members (in_object ns v)
    unfolding leads_on
    alike_object (object os) = rw (own_none places.FieldTypeAliases ms refl, own_none places.FieldTypeAliases ns refl) alike
    alike_object _ = refl

    alike_aliases : (t : Data) → whole_flaws al done (with_aliases ms t) ≡ whole_flaws al done (with_aliases ns t)
    alike_aliases t =
        on_way (λ s f g. (v : Data) → value_flaws (known_in al) (Some done) true s false no_members (f v) ≡ value_flaws (known_in al) (Some done) true s false no_members (g v)) ms ns alike_object (λ s n f g above on each. alike_under s n f g above on each) t

  -- the flaws of a configuration without its aliases are those with them
  pub flaws_without : (ms : Members) (v : Data) → with_aliases no_members v ≡ v → member_flaws (known_in al) (Some done) true places.FieldTypeAliases no_members ms ≡ [] → whole_flaws al done v ≡ whole_flaws al done (with_aliases ms v)
  flaws_without ms v bare sound = ap (whole_flaws al done) (sym bare) ∙ alike_aliases no_members ms (sym sound) v

-- ---- what is laid

pub at_none : (way : List (List ℕ)) → at_way way None ≡ None
at_none [] = refl
at_none (k ∷ way) = at_none way

-- what is no object has none, and stays
pub as_it_is : (way : List (List ℕ)) (al : Members) (v : Data) → as_object v ≡ None → (with_object way al v ≡ v) × (no_members ≡ members_or_none (at_way way (Some v)))
as_it_is way al (object ms) h = cc
as_it_is [] al _ h = (refl, refl)
as_it_is (k ∷ way) al _ h = (refl, ap members_or_none (sym (at_none way)))

-- ---- what is answered

module _ (al now : Members) (n : ℕ) (st : Outcomes) (v : Data) (bare : with_aliases no_members v ≡ v) (apart : NoClash al) (settled : st ≡ rounds al n no_outcomes) (spent : Spends st.done al now) where
  abbrev whole : Data
  whole = with_aliases al v

  abbrev pub then_laid : ⊤ → Result Data Flaw
  then_laid a = if_shallow (lay st.done places.Root whole None)

  abbrev then_whole : ⊤ → Result Data Flaw
  then_whole a = refusal (whole_flaws al st.done whole) >>= then_laid

  alias_fault : from_aliases (refusal (all_alias_flaws al st al)) ≡ from_aliases (refusal (all_alias_flaws now st now))
  alias_fault = ap (λ fs. from_aliases (refusal fs)) (sym (same_alias_flaws al now st spent))

  -- the fault of an alias
  pub refused_alias : (flaw : Flaw) → from_aliases (refusal (all_alias_flaws now st now)) ≡ Err flaw → resolution_after al st whole ≡ Err flaw
  refused_alias flaw e = ap (λ a. a >>= then_whole) (alias_fault ∙ e)

  module _ (sound : from_aliases (refusal (all_alias_flaws now st now)) ≡ Ok tt) where
    whole_fault : refusal (whole_flaws al st.done whole) ≡ refusal (whole_flaws now st.done v)
    whole_fault =
        let none = whole_sound al n st apart settled (alias_fault ∙ sound) in
        ap refusal (sym (same_flaws al now (same_names st.done al now spent) (Some st.done) true places.Root false no_members v ∙ flaws_without al st.done al v bare none))

    -- what is found in the whole decides
    pub after_aliases : resolution_after al st whole ≡ (refusal (whole_flaws now st.done v) >>= then_laid)
    after_aliases = ap (λ a. a >>= then_whole) (alias_fault ∙ sound) ∙ ap (λ a. a >>= then_laid) whole_fault

    pub aliases_laid : AreLaid st.done al
    aliases_laid = whole_laid al n st apart settled (alias_fault ∙ sound)

-- The resolved aliases, put into what the rest of a configuration is laid to.

-- ---- the value of one name, where another is put

put_here : (n k : List ℕ) (g : Data → Data) (x : Data) (ms : Members) → bytes_eq k n ≡ true → with_property n g (put k x ms) ≡ put k (g x) ms
put_here n k g x no_members at = rw at refl
put_here n k g x (member l e ms) at = grind (arith, equal_names k l, apart_greater k l, (bytes_eq-Decides k n).0 at, (bytes_eq-Decides l n).1, differs l n, put_here n k g x ms at)

put_beside : (n k : List ℕ) (g : Data → Data) (x : Data) (ms : Members) → bytes_eq k n ≡ false → with_property n g (put k x ms) ≡ put k x (with_property n g ms)
put_beside n k g x no_members away = rw away refl
put_beside n k g x (member l e ms) away = grind (arith, equal_names k l, put_beside n k g x ms away)

-- ---- what is laid

module _ (done : Members) (s : Place) (above : leads_on s ≡ true) where
  module _ (n : List ℕ) (f g : Data → Data) (each : (d : Data) → lay done (place_under s n) (f d) None ≡ g (lay done (place_under s n) d None)) where
    members_with : (ms : Members) → lay_members done s (with_property n f ms) no_members ≡ with_property n g (lay_members done s ms no_members)
    members_with no_members = refl
    members_with (member k d ms) = elim (cases_Bool (bytes_eq k n)) [
      | inl is ↦ grind (arith, (is_above s above).base k, put_here n k g (lay done (place_under s k) d None) (lay_members done s ms no_members) is, each d, (bytes_eq-Decides k n).0 is)
      | inr is ↦ grind (arith, (is_above s above).base k, put_beside n k g (lay done (place_under s k) d None) (lay_members done s ms no_members) is, members_with ms)
    ]

    value_with : (v : Data) → lay done s (in_property n f v) None ≡ in_property n g (lay done s v None)
    value_with (object ms) = laid_object done s (with_property n f ms) above ∙ ap object (members_with ms) ∙ ap (in_property n g) (sym (laid_object done s ms above))
    value_with (array es) = rw (is_above s above).list refl
    value_with (string x) = rw ((is_above s above).alias, (is_above s above).member) refl
    value_with _ = refl

  object_with : (al : Members) (v : Data) → lay done s (in_object al v) None ≡ in_object (lay_members done s al no_members) (lay done s v None)
  object_with al (object ms) = laid_object done s al above
  object_with al (array es) = rw (is_above s above).list refl
  object_with al (string x) = rw ((is_above s above).alias, (is_above s above).member) refl
  object_with al _ = refl

-- a configuration with other aliases is laid to what it is laid to, with those laid
whole_with : (done al : Members) (v : Data) → lay done places.Root (with_aliases al v) None ≡ with_aliases (lay_members done places.FieldTypeAliases al no_members) (lay done places.Root v None)
unfolding leads_on
whole_with done al v = on_way (λ s f g. (d : Data) → lay done s (f d) None ≡ g (lay done s d None)) al (lay_members done places.FieldTypeAliases al no_members)
    (object_with done places.FieldTypeAliases refl al) (λ s n f g above on each. value_with done s above n f g each) v

-- the resolved ones in their place
laid_with : (done al : Members) (v : Data) → AreLaid done al → lay done places.Root (with_aliases al v) None ≡ with_aliases done (lay done places.Root v None)
laid_with done al v laid = whole_with done al v ∙ ap (λ ms. with_aliases ms (lay done places.Root v None)) (sym laid)

-- without aliases it is laid to what has none
laid_bare : (done : Members) (v : Data) → with_aliases no_members v ≡ v → with_aliases no_members (lay done places.Root v None) ≡ lay done places.Root v None
laid_bare done v bare = sym (whole_with done no_members v) ∙ ap (λ d. lay done places.Root d None) bare

-- ---- what is too deep

module _ (n : List ℕ) (f g : Data → Data) (levels : ℕ) (each : (d : Data) → deep_flaws (f d) levels ≡ deep_flaws (g d) levels) where
  members_deep : (ms : Members) → deep_member_flaws (with_property n f ms) levels ≡ deep_member_flaws (with_property n g ms) levels
  members_deep no_members = refl
  members_deep (member k d ms) = grind (arith, each d, members_deep ms)

  value_deep : (v : Data) → deep_flaws (in_property n f v) (suc levels) ≡ deep_flaws (in_property n g v) (suc levels)
  value_deep (object ms) = members_deep ms
  value_deep _ = refl

-- aliases of so many levels stand inside four objects
shallow_put : (done : Members) (v : Data) (levels : ℕ) → members_depth done ≤ levels → deep_flaws (with_aliases done v) (suc (suc (suc (suc levels)))) ≡ deep_flaws (with_aliases no_members v) (suc (suc (suc (suc levels))))
unfolding with_aliases
shallow_put done v levels shallow =
    value_deep trace_name (in_property type_name (in_property aliases_name (in_object done))) (in_property type_name (in_property aliases_name (in_object no_members))) (suc (suc (suc levels)))
    (value_deep type_name (in_property aliases_name (in_object done)) (in_property aliases_name (in_object no_members)) (suc (suc levels))
    (value_deep aliases_name (in_object done) (in_object no_members) (suc levels) theirs)) v
  where
    theirs : (d : Data) → deep_flaws (in_object done d) (suc levels) ≡ deep_flaws (in_object no_members d) (suc levels)
    theirs (object ms) = depth_shallow (object done) (suc levels) (omega (arith, shallow))
    theirs _ = refl

-- what is asked is the resolved aliases in what the rest was laid to
pub asked : (done al : Members) (v laid : Data) → laid ≡ lay done places.Root v None → AreLaid done al → if_shallow (lay done places.Root (with_aliases al v) None) ≡ if_shallow (with_aliases done laid)
asked done al v laid is are_laid = ap if_shallow (laid_with done al v are_laid ∙ ap (with_aliases done) (sym is))

-- where shallow aliases are put, what is too deep is so without them
pub shallow_asked : (done al : Members) (v laid : Data) → laid ≡ lay done places.Root v None → AreLaid done al → members_depth done ≤ ALIAS_LEVELS → with_aliases no_members v ≡ v
    → if_shallow (lay done places.Root (with_aliases al v) None) ≡ (refusal (deep_flaws laid MAX_LEVELS) >>= (λ a. Ok (with_aliases done laid)))
shallow_asked done al v laid is are_laid shallow bare =
    let none = ap (with_aliases no_members) is ∙ laid_bare done v bare ∙ sym is in
    asked done al v laid is are_laid ∙ ap (λ fs. refusal fs >>= (λ a. Ok (with_aliases done laid))) (shallow_put done laid ALIAS_LEVELS shallow ∙ ap (λ d. deep_flaws d MAX_LEVELS) none)

-- what a part refuses, the whole does
pub refuses : {A B C : Type 0} (seen : A → B) (r : Result A ConfFault) (fault : ConfFault) (read : Result C Flaw) (next : C → Result B Flaw) (answer : Result B Flaw) → IsErrAnd r (λ y. y ≡ fault) → answer ≡ (read >>= next) → IsMemory fault ⊎ (read ≡ Err (flaw_of fault)) → Gives seen r answer
refuses seen r fault read next answer returned is h =
    let p = err_from_is_err_and r returned in
    rw (p.1, p.2) (elim h [ inl memory ↦ inl memory | inr flawed ↦ inr (is ∙ ap (λ x. x >>= next) flawed) ])
