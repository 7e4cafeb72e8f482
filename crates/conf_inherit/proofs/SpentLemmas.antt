-- A property whose value is written anew.
use Rattle.std.proofs.Common.{◌≡◌, ℕ, Some, None, List, [], ◌∷◌, string_cmp, string_bytes, nat_cmp, refl, sym, ap, ◌∙◌, ◌+◌, ◌≤◌, ◌&&◌, ◌||◌, ◌⊎◌, inl, inr, suc, map, Option, is_some, Bool, true, false, not, true≢false, bytes_eq, if◌then◌else◌, subst, arith, rules}
use Rattle.std.proofs.{lemmas.Bool.{cases_Bool, or_left}, lemmas.Slice.Eq.bytes_eq-Decides}
use Rattle.std.specs.{BTreeMap.is_at, Cmp.Lexicographic.slice_cmp, List.Sorted.IsStrictlySortedBy, Map.{keys_of, set_value}}
use Rattle.serde_json.specs.{Data.{Data, member, put, null, Members, no_members}, View.{view, members_view}}
use Rattle.serde_json.specs.{Find.get_member, declared.value.Value.{Value, Null, the_lemmas}, Events.members_len}
use Rattle.serde_json.proofs.Views.{Entry}
use Rattle.conf_inherit.specs.{Names.{AllAbove, NoClash}, Limits.{fitting}, Named.{all_named, has}, Spent.{Spends, spent, TurnsLeave}}
use Rattle.conf_inherit.specs.{AliasFlaws.{open_in, alias_flaws, all_alias_flaws}, Flaws.{known_in, value_flaws}, Laying.lay}
use Rattle.conf_inherit.specs.Rounds.{Outcomes, has_outcome, is_over, is_empty, if_fitting, outcome, step, round, rounds, no_outcomes, Reached, at_first, turned, all_settled}
use Rattle.conf_inherit.proofs.LayingLemmas.{above_of, above_through, get_none, same, other, meets, get_other, get_same, same_function, stands, some_is_none, AllEntries, found_each}
use Rattle.conf_inherit.proofs.{RoundLemmas.{Agrees, count}, LimitLemmas.{alike_flaws, alike_in}}
use Rattle.conf_inherit.proofs.{TurnLemmas.{none_of, IsSettled, step_agrees, settled_round, is_settled_state, round_grows, turns_are_rounds}}
use Rattle.conf_tree.specs.{Flaw.{key, within}, declared.fault_kind.FaultKind.FaultKind, declared.fault_kind.FaultKind.TheVariants.{NoSuchAlias, InheritCycle}}
use Rattle.conf_table.specs.declared.place.Place.{Place}
use Rattle.conf_table.specs.declared.place.Place.TheVariants as places

pub view_null : view Null ≡ null
view_null = search (rules, the_lemmas)

-- the properties, with w at the name n if there is one
abbrev pub written : List ℕ → List Entry → Value → List Entry
written n es w = set_value (is_at (λ k. slice_cmp nat_cmp n (string_bytes k))) es w

-- a name below all of them is not there
unwritten : (n : List ℕ) (w : Value) (es : List Entry) → AllAbove n (members_view es) → written n es w ≡ es
unwritten n w [] h = refl
unwritten n w (e ∷ es) h = rw h.0 (ap (λ xs. e ∷ xs) (unwritten n w es h.1))

-- what was written at a name is gone once another value is put there
pub put_written : (n : List ℕ) (d : Data) (w : Value) (es : List Entry) → IsStrictlySortedBy string_cmp (keys_of es) → put n d (members_view (written n es w)) ≡ put n d (members_view es)
unfolding IsStrictlySortedBy
put_written n d w [] h = refl
put_written n d w (e ∷ es) h = elim (stands n (string_bytes e.0)) [
  | inl is ↦ rw (is, is) (ap (λ xs. member n d (member (string_bytes e.0) (view e.1) (members_view xs))) (unwritten n w es (above_through n (string_bytes e.0) (members_view es) is (above_of e.0 es h.0))))
  | inr (inl is) ↦ rw (is, is) refl
  | inr (inr is) ↦ rw (is, is) (ap (member (string_bytes e.0) (view e.1)) (put_written n d w es h.1))
]

-- writing a value at a name that is there is putting it there
pub written_put : (n : List ℕ) (w : Value) (d : Data) (es : List Entry) → IsStrictlySortedBy string_cmp (keys_of es) → get_member n (members_view es) ≡ Some d → members_view (written n es w) ≡ put n (view w) (members_view es)
unfolding IsStrictlySortedBy
written_put n w d [] h there = cc
written_put n w d (e ∷ es) h there = elim (stands n (string_bytes e.0)) [
  | inl is ↦ (let none = get_none n (members_view es) (above_through n (string_bytes e.0) (members_view es) is (above_of e.0 es h.0)) in
      let found : get_member n (members_view es) ≡ Some d = rw is at there in
      absurd (some_is_none d (sym found ∙ none)))
  | inr (inl is) ↦ rw is refl
  | inr (inr is) ↦ (let found : get_member n (members_view es) ≡ Some d = rw is at there in rw (is, written_put n w d es h.1 found) refl)
]

-- What is judged of the aliases is the same where null stands in the place of resolved bodies.

-- the aliases as they are given are all left
spends_none : (done ms : Members) → Spends done ms ms
spends_none done no_members = tt
spends_none done (member k w ms) = (refl, (inl refl, spends_none done ms))

-- where more aliases are resolved, no more has to be left
spends_more : (done more : Members) → ((n : List ℕ) → has done n ≡ true → has more n ≡ true) → (al now : Members) → Spends done al now → Spends more al now
spends_more done more kept no_members no_members h = tt
spends_more done more kept (member k w ms) (member j v vs) h =
    (h.0, (elim h.1.0 [ inl e ↦ inl e | inr e ↦ inr (e.0, kept k e.1) ], spends_more done more kept ms vs h.1.1))
spends_more done more kept _ _ h = absurd h

-- the body of a resolved alias may be dropped
spends_spent : (done : Members) (n : List ℕ) → has done n ≡ true → (al now : Members) → Spends done al now → Spends done al (spent n now)
spends_spent done n is no_members no_members h = tt
spends_spent done n is (member k w ms) (member j v vs) h = elim (cases_Bool (bytes_eq j n)) [
  | inl e ↦ rw e (h.0, (inr (refl, ap (has done) (h.0 ∙ (bytes_eq-Decides j n).0 e) ∙ is), h.1.1))
  | inr e ↦ rw e (h.0, (h.1.0, spends_spent done n is ms vs h.1.1))
]
spends_spent done n is _ _ h = absurd h

-- each name is left
pub same_names : (done al now : Members) → Spends done al now → (n : List ℕ) → is_some (get_member n now) ≡ is_some (get_member n al)
same_names done no_members no_members h n = refl
same_names done (member k w ms) (member j v vs) h n = elim (meets n k) [
  | same e ↦ grind (arith, h.0, get_same n k v vs e, get_same n k w ms e)
  | other apart ↦ grind (arith, h.0, get_other n k v vs apart, get_other n k w ms apart, same_names done ms vs h.1.1 n)
]
same_names done _ _ h n = absurd h

-- the body of an alias that is not resolved is left
same_body : (done al now : Members) → Spends done al now → (n : List ℕ) → has done n ≡ false → get_member n now ≡ get_member n al
same_body done no_members no_members h n free = refl
same_body done (member k w ms) (member j v vs) h n free = elim (meets n k) [
  | same e ↦ grind (arith, h.0, h.1.0, get_same n k v vs e, get_same n k w ms e, e)
  | other apart ↦ grind (arith, h.0, get_other n k v vs apart, get_other n k w ms apart, same_body done ms vs h.1.1 n free)
]
same_body done _ _ h n free = absurd h

-- as many are left, and no name twice
pub spends_count : (done al now : Members) → Spends done al now → members_len now ≡ members_len al
spends_count done no_members no_members h = refl
spends_count done (member k w ms) (member j v vs) h = ap suc (spends_count done ms vs h.1.1)
spends_count done _ _ h = absurd h

spends_apart : (done al now : Members) → Spends done al now → NoClash al → NoClash now
spends_apart done no_members no_members h apart = tt
spends_apart done (member k w ms) (member j v vs) h apart =
    (none_of (get_member j vs) (same_names done ms vs h.1.1 j ∙ ap (has ms) (sym h.0) ∙ ap is_some apart.0), spends_apart done ms vs h.1.1 apart.1)
spends_apart done _ _ h apart = absurd h

-- ---- what is judged by the names of the aliases alone

asked_alike : (ask now : List ℕ → Option FaultKind) → ((n : List ℕ) → now n ≡ ask n) → (known : Option Members) (outside : Bool) (s : Place) (taken : Bool) (seen : Members) (v : Data) → value_flaws now known outside s taken seen v ≡ value_flaws ask known outside s taken seen v
asked_alike ask now names known outside s taken seen v = alike_flaws ask now names known known outside s taken seen v (alike_in ask now names known known v outside s seen (λ out t d. refl) (λ d x. refl))

module _ (al now : Members) (names : (n : List ℕ) → is_some (get_member n now) ≡ is_some (get_member n al)) where
  same_known : (n : List ℕ) → known_in now n ≡ known_in al n
  same_known n = ap (λ t. if t then None else Some NoSuchAlias) (names n)

  same_open : (st : Outcomes) (n : List ℕ) → open_in now st n ≡ open_in al st n
  same_open st n = ap (λ t. if t then (if has_outcome st n then None else Some InheritCycle) else Some NoSuchAlias) (names n)

  pub same_flaws : (known : Option Members) (outside : Bool) (s : Place) (taken : Bool) (seen : Members) (v : Data) → value_flaws (known_in now) known outside s taken seen v ≡ value_flaws (known_in al) known outside s taken seen v
  same_flaws known outside s taken seen v = asked_alike (known_in al) (known_in now) same_known known outside s taken seen v

  same_due : (st : Outcomes) (w : Data) → all_named (is_over now st) places.FieldType w ≡ all_named (is_over al st) places.FieldType w
  same_due st w = ap (λ p. all_named p places.FieldType w) (same_function (is_over now st) (is_over al st) (λ n. ap (λ t. has_outcome st n || not t) (names n)))

  same_outcome : (done : Members) (w : Data) → outcome now done w ≡ outcome al done w
  same_outcome done w =
      ap (λ x. if all_named (has done) places.FieldType w && is_empty x then if_fitting (fitting (lay done places.FieldType w None)) else None) (same_flaws (Some done) false places.FieldType false no_members w)

  same_step : (k : List ℕ) (w : Data) (st : Outcomes) → step now k w st ≡ step al k w st
  same_step k w st = let due = same_due st w in let value = same_outcome st.done w in cc

-- what is resolved stays so
still_done : (st next : Outcomes) → Agrees st next → (n : List ℕ) → has st.done n ≡ true → has next.done n ≡ true
still_done st next agrees n h = ap is_some (agrees n (or_left (has st.done n) (has st.refused n) h)).0 ∙ h

-- what is the same of a resolved alias whatever its body is the same of what is left
spent_same : {A : Type 0} (f : Data → A) (st : Outcomes) (k : List ℕ) (v w : Data) → (v ≡ w) ⊎ ((v ≡ null) × (has st.done k ≡ true)) → (has st.done k ≡ true → f v ≡ f w) → f v ≡ f w
spent_same f st k v w (inl is) resolved = ap f is
spent_same f st k v w (inr is) resolved = resolved is.1

-- ---- what is wrong with the aliases

module _ (al now : Members) (st : Outcomes) (left : Spends st.done al now) where
  same_flaws_at : (k : List ℕ) (w : Data) → alias_flaws now st k w ≡ alias_flaws al st k w
  unfolding alias_flaws
  same_flaws_at k w =
      let names = same_names st.done al now left in
      let own = same_flaws al now names (Some st.done) false places.FieldType false no_members w in
      let opened = asked_alike (open_in al st) (open_in now st) (same_open al now names st) (Some st.done) false places.FieldType false no_members w in
      cc

  spent_flaws_at : (k j : List ℕ) (v w : Data) → k ≡ j → (v ≡ w) ⊎ ((v ≡ null) × (has st.done k ≡ true)) → map (within (key j)) (alias_flaws al st j v) ≡ map (within (key k)) (alias_flaws al st k w)
  unfolding alias_flaws
  spent_flaws_at k j v w e at = ap (λ l. map (within (key l)) (alias_flaws al st l v)) (sym e) ∙ ap (map (within (key k))) (spent_same (alias_flaws al st k) st k v w at (λ is. rw is refl))

  same_each : (ms vs : Members) → Spends st.done ms vs → all_alias_flaws now st vs ≡ all_alias_flaws al st ms
  same_each no_members no_members h = refl
  same_each (member k w ms) (member j v vs) h = let mine = same_flaws_at j v in let body = spent_flaws_at k j v w h.0 h.1.0 in let rest = same_each ms vs h.1.1 in cc
  same_each _ _ h = absurd h

-- what is wrong with the aliases is told by what is left of them
pub same_alias_flaws : (al now : Members) (st : Outcomes) → Spends st.done al now → all_alias_flaws now st now ≡ all_alias_flaws al st al
same_alias_flaws al now st h = same_each al now st h al now h

-- before the first turn
pub first_leaves : (al : Members) (st : Outcomes) → st ≡ no_outcomes → TurnsLeave al st al
first_leaves al st is = record { reached = subst (Reached al) (sym is) at_first; spends = spends_none st.done al }

-- a turn over what is left of the aliases is one of the aliases
pub turn_leaves : (al now : Members) (k : List ℕ) (v : Data) (st : Outcomes) → get_member k now ≡ Some v → TurnsLeave al st now → TurnsLeave al (step now k v st) now
turn_leaves al now k v st is h = subst (λ x. TurnsLeave al x now) (sym (same_step al now (same_names st.done al now h.spends) k v st))
    record { reached = go (has_outcome st k) refl (has st.done k) refl; spends = spends_more st.done (step al k v st).done (still_done st _ (step_agrees al k v st)) al now h.spends }
  where
    go : (t : Bool) → has_outcome st k ≡ t → (u : Bool) → has st.done k ≡ u → Reached al (step al k v st)
    go true a u b = rw a h.reached
    go false a true b = absurd (true≢false (sym (or_left (has st.done k) (has st.refused k) b) ∙ a))
    go false a false b = turned k v st (sym (same_body st.done al now h.spends k b) ∙ is) h.reached

-- the body of a resolved alias may be dropped
pub spent_leaves : (al now : Members) (k : List ℕ) (st : Outcomes) → has st.done k ≡ true → TurnsLeave al st now → TurnsLeave al st (spent k now)
spent_leaves al now k st is h = record { reached = h.reached; spends = spends_spent st.done k is al now h.spends }

-- turns led here, with this left of the aliases, and each of so many rounds gave an outcome
pub record RoundsLeave (al left : Members) (st : Outcomes) (n : ℕ) : Type 0 where
  pub turns : TurnsLeave al st left
  pub few : n ≤ count (has_outcome st) left

round_leaves : (al now ms : Members) (st : Outcomes) → AllEntries (λ k v. get_member k now ≡ Some v) ms → TurnsLeave al st now → TurnsLeave al (round now ms st) now
round_leaves al now no_members st each h = h
round_leaves al now (member k v ms) st each h = round_leaves al now ms (step now k v st) each.1 (turn_leaves al now k v st each.0 h)

-- a round over what is left of the aliases
pub rounds_more : (al left : Members) (st after : Outcomes) (n : ℕ) → NoClash al → RoundsLeave al left st n → all_settled left left st ≡ false → after ≡ round left left st → RoundsLeave al left after (n + 1)
rounds_more al left st after n apart before waits went =
    let clear = spends_apart st.done al left before.turns.spends apart in
    let more = round_grows left st clear waits in
    subst (λ x. RoundsLeave al left x (n + 1)) (sym went) record { turns = round_leaves al left left st (found_each left clear) before.turns; few = omega (arith, before.few, more) }

-- where none that is left is due, the outcomes are those of the rounds
pub settled_rounds : (al left : Members) (st : Outcomes) → NoClash al → TurnsLeave al st left → IsSettled left st → st ≡ rounds al (members_len al) no_outcomes
settled_rounds al left st apart turns settled = turns_are_rounds al apart turns.reached all
  where
    all : IsSettled al st
    all k w is due = elim (cases_Bool (has st.done k)) [
      | inl done ↦ or_left (has st.done k) (has st.refused k) done
      | inr free ↦ settled k w (same_body st.done al left turns.spends k free ∙ is) (same_due al left (same_names st.done al left turns.spends) st w ∙ due)
    ]

-- where no alias was due in the last round, the outcomes are those of the rounds
pub last_round : (al left : Members) (st after : Outcomes) → NoClash al → TurnsLeave al st left → all_settled left left st ≡ true → after ≡ round left left st
    → (after ≡ rounds al (members_len al) no_outcomes) × Spends after.done al left
last_round al left st after apart turns is went =
    let stays : after ≡ st = went ∙ settled_round left left st is in
    (stays ∙ settled_rounds al left st apart turns (is_settled_state left st is), subst (λ x. Spends x.done al left) (sym stays) turns.spends)
