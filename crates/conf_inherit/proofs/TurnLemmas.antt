-- What the aliases come to does not depend on the order of their turns: where each that is due had its own, the
-- outcomes are those that the rounds leave.
use Rattle.std.proofs.Common.{◌≡◌, ◌<◌, ◌≤◌, ◌⊎◌, inl, inr, ℕ, zero, suc, List, Option, Some, None, is_some, Bool, true, false, not, true≢false, refl, sym, ap, ◌∙◌, subst, arith}
use Rattle.std.proofs.lemmas.{Bool.{both_ways, not-true, not-false, or_cases, and_parts, cases_Bool, or_parts, or_left, or_right}, Option.same_Some}
use Rattle.serde_json.specs.{Data.{Data, null, Members, no_members, member, put}, Events.members_len, Find.get_member}
use Rattle.serde_json.proofs.Views.{get_member-put}
use Rattle.conf_table.specs.declared.place.Place.TheVariants as places
use Rattle.conf_inherit.specs.{Circle.Walks, Named.{all_named, has}, Names.{IsInOrder, NoClash}}
use Rattle.conf_inherit.specs.Rounds.{Outcomes, has_outcome, is_over, outcome, concluded, step, round, all_over, next_round, rounds, no_outcomes, Reached, is_settled, all_settled}
use Rattle.conf_inherit.proofs.LayingLemmas.{same_members, Meets, same, other, meets, get_other, get_same, in_order_put, AllEntries, found_each, entry_found}
use Rattle.conf_inherit.proofs.{LimitLemmas.{more_named, kept_lay, kept_inner}, FaultLemmas.{named_along, blocked, mentioned, is_put, some_of}}
use Rattle.conf_inherit.proofs.RoundLemmas.{by_turn, reached_keeps, rounds_reached, count, count_all, count_new, SameAt, same_outcome, concluded_other, Agrees, agrees_through, concluded_agrees}

-- ---- what a conclusion changes

-- what the refused aliases have at a name, by its outcome
abbrev pub mark_of : Option Data → Option Data
mark_of None = Some null
mark_of (Some r) = None

pub none_of : (o : Option Data) → is_some o ≡ false → o ≡ None
none_of None h = refl
none_of (Some x) h = absurd (true≢false h)

concluded_at : (k : List ℕ) (st : Outcomes) (o : Option Data) → has_outcome st k ≡ false → (get_member k (concluded k st o).done ≡ o) × (get_member k (concluded k st o).refused ≡ mark_of o)
concluded_at k st None free = (none_of (get_member k st.done) ((or_parts (has st.done k) (has st.refused k) free).0), get_member-put k null st.refused)
concluded_at k st (Some r) free = (get_member-put k r st.done, none_of (get_member k st.refused) ((or_parts (has st.done k) (has st.refused k) free).1))

module _ (al : Members) where
  over_along : (st next : Outcomes) → ((n : List ℕ) → has_outcome st n ≡ true → has_outcome next n ≡ true) → (n : List ℕ) → is_over al st n ≡ true → is_over al next n ≡ true
  over_along st next more n h = elim (or_cases (has_outcome st n) (not (has al n)) h) [ inl e ↦ or_left (has_outcome next n) (not (has al n)) (more n e) | inr e ↦ or_right (has_outcome next n) (not (has al n)) e ]

  due_along : (st next : Outcomes) → ((n : List ℕ) → has_outcome st n ≡ true → has_outcome next n ≡ true) → (w : Data) → all_named (is_over al st) places.FieldType w ≡ true → all_named (is_over al next) places.FieldType w ≡ true
  due_along st next more w h = named_along (is_over al st) (is_over al next) (over_along st next more) places.FieldType w h

  outcome_kept : (st next : Outcomes) → Agrees st next → (n : List ℕ) → has_outcome st n ≡ true → has_outcome next n ≡ true
  outcome_kept st next agrees n h = same_outcome st next n (agrees n h) ∙ h

  -- only aliases have outcomes
  abbrev pub IsOfAliases : Outcomes → Type 0
  IsOfAliases st = (n : List ℕ) → has_outcome st n ≡ true → has al n ≡ true

  -- ---- an alias that is due comes to the same in each later state
  module _ (st next : Outcomes) (agrees : Agrees st next) (own : IsOfAliases next) where
    kept_done : (n : List ℕ) → has st.done n ≡ true → get_member n next.done ≡ get_member n st.done
    kept_done n h = (agrees n (or_left (has st.done n) (has st.refused n) h)).0

    still_missing : (m : List ℕ) → is_over al st m ≡ true → has st.done m ≡ false → has next.done m ≡ false
    still_missing m over free = elim (or_cases (has_outcome st m) (not (has al m)) over) [
      | inl e ↦ ap is_some (agrees m e).0 ∙ free
      | inr e ↦ elim (cases_Bool (has next.done m)) [ inl f ↦ absurd (both_ways (has al m) (not-true (has al m) e) (own m (or_left (has next.done m) (has next.refused m) f))) | inr f ↦ f ]
    ]

    outcome_same : (w : Data) → all_named (is_over al st) places.FieldType w ≡ true → outcome al next.done w ≡ outcome al st.done w
    outcome_same w due = elim (cases_Bool (all_named (has st.done) places.FieldType w)) [
      | inl e ↦ (let f = more_named st.done next.done kept_done places.FieldType w e in
          let inner = kept_inner st.done next.done kept_done al w places.FieldType no_members e in
          let laid = kept_lay st.done next.done kept_done w places.FieldType None e in
          rw (f, e, inner, laid) refl)
      | inr e ↦ elim (cases_Bool (all_named (has next.done) places.FieldType w)) [
        | inl f ↦ (let (m, x, free) = blocked (has st.done) w places.FieldType e in
            absurd (true≢false (sym (mentioned (has next.done) m w places.FieldType f x) ∙ still_missing m (mentioned (is_over al st) m w places.FieldType due x) free)))
        | inr f ↦ rw (f, e) refl
      ]
    ]

  -- ---- what holds of each state

  -- the outcome of an alias is that of its type, all that it names having one
  pub record Comes (st : Outcomes) (k : List ℕ) (w : Data) : Type 0 where
    pub due : all_named (is_over al st) places.FieldType w ≡ true
    pub value : get_member k st.done ≡ outcome al st.done w
    pub mark : get_member k st.refused ≡ mark_of (outcome al st.done w)

  pub record IsSound (st : Outcomes) : Type 0 where
    pub own : IsOfAliases st
    pub comes : (k : List ℕ) (w : Data) → get_member k al ≡ Some w → has_outcome st k ≡ true → Comes st k w
    pub done_order : IsInOrder st.done
    pub refused_order : IsInOrder st.refused

  module _ (k : List ℕ) (w : Data) (st : Outcomes) (is : get_member k al ≡ Some w) (free : has_outcome st k ≡ false) (due : all_named (is_over al st) places.FieldType w ≡ true) (sound : IsSound st) where
    abbrev next : Outcomes
    next = concluded k st (outcome al st.done w)

    agrees_next : Agrees st next
    agrees_next = concluded_agrees k st (outcome al st.done w) free

    own_next : IsOfAliases next
    own_next n h = elim (meets n k) [ same e ↦ ap (has al) e ∙ ap is_some is | other apart ↦ sound.own n (sym (same_outcome st next n (concluded_other k st (outcome al st.done w) n apart)) ∙ h) ]

    same_next : (v : Data) → all_named (is_over al st) places.FieldType v ≡ true → outcome al next.done v ≡ outcome al st.done v
    same_next v h = outcome_same st next agrees_next own_next v h

    comes_here : Comes next k w
    comes_here =
        let at = concluded_at k st (outcome al st.done w) free in
        record {
          due = due_along st next (outcome_kept st next agrees_next) w due;
          value = at.0 ∙ sym (same_next w due);
          mark = at.1 ∙ ap mark_of (sym (same_next w due));
        }

    comes_next : (q : List ℕ) (v : Data) → get_member q al ≡ Some v → has_outcome next q ≡ true → Comes next q v
    comes_next q v is_q h = elim (meets q k) [
      | same e ↦ (let one : w ≡ v = same_Some w v (sym is ∙ ap (λ x. get_member x al) (sym e) ∙ is_q) in
          subst (λ x. Comes next x v) (sym e) (subst (Comes next k) one comes_here))
      | other apart ↦ (let kept = concluded_other k st (outcome al st.done w) q apart in
          let before = sound.comes q v is_q (sym (same_outcome st next q kept) ∙ h) in
          record {
            due = due_along st next (outcome_kept st next agrees_next) v before.due;
            value = kept.0 ∙ before.value ∙ sym (same_next v before.due);
            mark = kept.1 ∙ before.mark ∙ ap mark_of (sym (same_next v before.due));
          })
    ]

    ordered_next : (o : Option Data) → IsInOrder (concluded k st o).done × IsInOrder (concluded k st o).refused
    ordered_next None = (sound.done_order, in_order_put k null st.refused sound.refused_order)
    ordered_next (Some r) = (in_order_put k r st.done sound.done_order, sound.refused_order)

    sound_next : IsSound next
    sound_next = let ordered = ordered_next (outcome al st.done w) in record { own = own_next; comes = comes_next; done_order = ordered.0; refused_order = ordered.1 }

  first_sound : IsSound no_outcomes
  first_sound = record { own = λ n h. absurd (true≢false (sym h)); comes = λ k w is h. absurd (true≢false (sym h)); done_order = tt; refused_order = tt }

  pub reached_sound : {st : Outcomes} → Reached al st → IsSound st
  reached_sound reached = reached_keeps al IsSound first_sound sound_next reached

  -- ---- a state in which no alias that is due waits

  abbrev pub IsSettled : Outcomes → Type 0
  IsSettled st = (k : List ℕ) (w : Data) → get_member k al ≡ Some w → all_named (is_over al st) places.FieldType w ≡ true → has_outcome st k ≡ true

  module _ (last : Outcomes) (sound : IsSound last) (settled : IsSettled last) where
    agrees_turn : (k : List ℕ) (w : Data) (st : Outcomes) → get_member k al ≡ Some w → Agrees st last → has_outcome st k ≡ false → all_named (is_over al st) places.FieldType w ≡ true
        → Agrees (concluded k st (outcome al st.done w)) last
    agrees_turn k w st is agrees free due n h = at (meets n k)
      where
        came : Comes last k w
        came = sound.comes k w is (settled k w is (due_along st last (outcome_kept st last agrees) w due))

        one : outcome al last.done w ≡ outcome al st.done w
        one = outcome_same st last agrees sound.own w due

        here_same : SameAt (concluded k st (outcome al st.done w)) last k
        here_same =
            let made = concluded_at k st (outcome al st.done w) free in
            (came.value ∙ one ∙ sym made.0, came.mark ∙ ap mark_of one ∙ sym made.1)

        at : Meets n k → SameAt (concluded k st (outcome al st.done w)) last n
        at (same e) = subst (SameAt (concluded k st (outcome al st.done w)) last) (sym e) here_same
        at (other apart) =
            let kept = concluded_other k st (outcome al st.done w) n apart in
            let later = agrees n (sym (same_outcome st (concluded k st (outcome al st.done w)) n kept) ∙ h) in
            (later.0 ∙ sym kept.0, later.1 ∙ sym kept.1)

    -- it has all that any turns lead to
    agrees_all : {st : Outcomes} → Reached al st → Agrees st last
    agrees_all reached = reached_keeps al (λ x. Agrees x last) (λ n h. absurd (true≢false (sym h))) (λ k w st is free due agrees. agrees_turn k w st is agrees free due) reached

  -- ---- two such states are the same

  no_outcome : (st : Outcomes) (q : List ℕ) → has_outcome st q ≡ false → (get_member q st.done ≡ None) × (get_member q st.refused ≡ None)
  no_outcome st q h = (none_of (get_member q st.done) ((or_parts (has st.done q) (has st.refused q) h).0), none_of (get_member q st.refused) ((or_parts (has st.done q) (has st.refused q) h).1))

  same_at : (a b : Outcomes) → Agrees a b → Agrees b a → (q : List ℕ) → SameAt a b q
  same_at a b f g q = go (has_outcome a q) refl (has_outcome b q) refl
    where
      go : (t : Bool) → has_outcome a q ≡ t → (u : Bool) → has_outcome b q ≡ u → SameAt a b q
      go true x u y = f q x
      go false x true y = let h = g q y in (sym h.0, sym h.1)
      go false x false y = let m = no_outcome a q x in let n = no_outcome b q y in (n.0 ∙ sym m.0, n.1 ∙ sym m.1)

  same_state : (a b : Outcomes) → a.done ≡ b.done → a.refused ≡ b.refused → a ≡ b
  same_state a b d f = ap (λ x. let made : Outcomes = record { done = x; refused = a.refused } in made) d ∙ ap (λ x. let made : Outcomes = record { done = b.done; refused = x } in made) f

  one_state : {a b : Outcomes} → Reached al a → IsSettled a → Reached al b → IsSettled b → a ≡ b
  one_state {a} {b} x settled_a y settled_b =
      let sound_a = reached_sound x in
      let sound_b = reached_sound y in
      let all = same_at a b (agrees_all b sound_b settled_b x) (agrees_all a sound_a settled_a y) in
      same_state a b (same_members a.done b.done sound_a.done_order sound_b.done_order (λ q. sym (all q).0)) (same_members a.refused b.refused sound_a.refused_order sound_b.refused_order (λ q. sym (all q).1))

  -- ---- the rounds

  pub step_agrees : (k : List ℕ) (w : Data) (st : Outcomes) → Agrees st (step al k w st)
  step_agrees k w st = by_turn al (Agrees st) k w st (λ n h. (refl, refl)) (λ free due. concluded_agrees k st (outcome al st.done w) free)

  pub round_agrees : (ms : Members) (st : Outcomes) → Agrees st (round al ms st)
  round_agrees no_members st = λ n h. (refl, refl)
  round_agrees (member k w ms) st = agrees_through st (step al k w st) (round al ms (step al k w st)) (step_agrees k w st) (round_agrees ms (step al k w st))

  concluded_has : (k : List ℕ) (st : Outcomes) (o : Option Data) → has_outcome (concluded k st o) k ≡ true
  concluded_has k st None = or_right (has st.done k) (has (put k null st.refused) k) (is_put k null st.refused)
  concluded_has k st (Some r) = or_left (has (put k r st.done) k) (has st.refused k) (is_put k r st.done)

  -- an alias that is due has its outcome after its turn
  due_step : (k : List ℕ) (w : Data) (st : Outcomes) → all_named (is_over al st) places.FieldType w ≡ true → has_outcome (step al k w st) k ≡ true
  due_step k w st due = elim (cases_Bool (has_outcome st k)) [ inl a ↦ outcome_kept st (step al k w st) (step_agrees k w st) k a | inr a ↦ rw (a, due) (concluded_has k st (outcome al st.done w)) ]

  due_round : (ms : Members) (st : Outcomes) (k : List ℕ) (w : Data) → get_member k ms ≡ Some w → all_named (is_over al st) places.FieldType w ≡ true → has_outcome (round al ms st) k ≡ true
  due_round no_members st k w is due = cc
  due_round (member l d ms) st k w is due = elim (meets k l) [
    | same e ↦ (let one : d ≡ w = same_Some d w (sym (get_same k l d ms e) ∙ is) in
        let turn : has_outcome (step al l d st) l ≡ true = due_step l d st (subst (λ x. all_named (is_over al st) places.FieldType x ≡ true) (sym one) due) in
        outcome_kept (step al l d st) (round al ms (step al l d st)) (round_agrees ms (step al l d st)) k (ap (has_outcome (step al l d st)) e ∙ turn))
    | other apart ↦ due_round ms (step al l d st) k w (sym (get_other k l d ms apart) ∙ is) (due_along st (step al l d st) (outcome_kept st (step al l d st) (step_agrees l d st)) w due)
  ]

  -- ---- a state that is settled, and one that is not

  settled_step : (k : List ℕ) (w : Data) (st : Outcomes) → is_settled al st k w ≡ true → step al k w st ≡ st
  settled_step k w st h = by_turn al (λ x. x ≡ st) k w st refl (λ free due. absurd (true≢false (sym (rw (free, due) at h))))

  pub settled_round : (ms : Members) (st : Outcomes) → all_settled al ms st ≡ true → round al ms st ≡ st
  settled_round no_members st h = refl
  settled_round (member k w ms) st h = let (one, rest) = and_parts (is_settled al st k w) (all_settled al ms st) h in ap (round al ms) (settled_step k w st one) ∙ settled_round ms st rest

  over_settled : (ms : Members) (st : Outcomes) → all_over ms st ≡ true → all_settled al ms st ≡ true
  over_settled no_members st h = refl
  over_settled (member k w ms) st h = grind (arith, over_settled ms st)

  each_settled : (ms : Members) (st : Outcomes) → all_settled al ms st ≡ true → AllEntries (λ k w. is_settled al st k w ≡ true) ms
  each_settled no_members st h = tt
  each_settled (member k w ms) st h = let (one, rest) = and_parts (is_settled al st k w) (all_settled al ms st) h in (one, each_settled ms st rest)

  pub is_settled_state : (st : Outcomes) → all_settled al al st ≡ true → IsSettled st
  is_settled_state st h k w is due =
      elim (or_cases (has_outcome st k) (not (all_named (is_over al st) places.FieldType w)) (entry_found (λ k w. is_settled al st k w ≡ true) al (each_settled al st h) k w is)) [ inl e ↦ e | inr e ↦ absurd (both_ways (all_named (is_over al st) places.FieldType w) (not-true _ e) due) ]

  -- an alias that is due and has no outcome
  abbrev Waits : Outcomes → Type 0
  Waits st = (k : List ℕ) × (w : Data) × (get_member k al ≡ Some w) × (has_outcome st k ≡ false) × (all_named (is_over al st) places.FieldType w ≡ true)

  unsettled : (ms : Members) (st : Outcomes) → AllEntries (λ k w. get_member k al ≡ Some w) ms → all_settled al ms st ≡ false → Waits st
  unsettled no_members st each h = absurd (true≢false h)
  unsettled (member k w ms) st each h = go (has_outcome st k) refl (all_named (is_over al st) places.FieldType w) refl (unsettled ms st each.1)
    where
      go : (t : Bool) → has_outcome st k ≡ t → (u : Bool) → all_named (is_over al st) places.FieldType w ≡ u → (all_settled al ms st ≡ false → Waits st) → Waits st
      go true a u b later = later (rw a at h)
      go false a false b later = later (rw (a, b) at h)
      go false a true b later = (k, w, each.0, a, b)

  -- a round over a state that is not settled gives an outcome more
  pub round_grows : (st : Outcomes) → NoClash al → all_settled al al st ≡ false → count (has_outcome st) al < count (has_outcome (round al al st)) al
  round_grows st apart h =
      let (k, w, is, free, due) = unsettled al st (found_each al apart) h in
      count_new (has_outcome st) (has_outcome (round al al st)) (outcome_kept st (round al al st) (round_agrees al st)) k w al is free (due_round al st k w is due)

  -- where there are as many outcomes as aliases, all is settled
  pub full_settled : (st : Outcomes) → members_len al ≤ count (has_outcome st) al → IsSettled st
  full_settled st full k w is due = elim (cases_Bool (has_outcome st k)) [
    | inl e ↦ e
    | inr e ↦ (let more : count (has_outcome st) al < count (λ n. true) al = count_new (has_outcome st) (λ n. true) (λ n x. refl) k w al is e refl in
        let most : count (λ n. true) al ≤ members_len al = count_all (λ n. true) al in
        absurd (omega (arith, full, more, most)))
  ]

  -- the next round leaves all settled, or gives an outcome more
  next_full : (st : Outcomes) (n : ℕ) → NoClash al → (all_settled al al st ≡ true) ⊎ (n ≤ count (has_outcome st) al) → (all_settled al al (next_round al st) ≡ true) ⊎ (suc n ≤ count (has_outcome (next_round al st)) al)
  next_full st n apart before = go (all_over al st) refl (all_settled al al st) refl
    where
      go : (t : Bool) → all_over al st ≡ t → (u : Bool) → all_settled al al st ≡ u → (all_settled al al (next_round al st) ≡ true) ⊎ (suc n ≤ count (has_outcome (next_round al st)) al)
      go true a u b = inl (rw a (over_settled al st a))
      go false a true b = inl (rw a (ap (all_settled al al) (settled_round al st b) ∙ b))
      go false a false b = elim before [ inl e ↦ absurd (true≢false (sym e ∙ b)) | inr e ↦ inr (rw a (let more = round_grows st apart b in omega (arith, e, more))) ]

  -- so many rounds leave all settled, or give as many outcomes
  rounds_full : (n : ℕ) → NoClash al → (all_settled al al (rounds al n no_outcomes) ≡ true) ⊎ (n ≤ count (has_outcome (rounds al n no_outcomes)) al)
  rounds_full zero apart = inr (omega arith)
  rounds_full (suc n) apart = next_full (rounds al n no_outcomes) n apart (rounds_full n apart)

  rounds_settled : NoClash al → IsSettled (rounds al (members_len al) no_outcomes)
  rounds_settled apart = elim (rounds_full (members_len al) apart) [ inl e ↦ is_settled_state (rounds al (members_len al) no_outcomes) e | inr e ↦ full_settled (rounds al (members_len al) no_outcomes) e ]

  -- an alias without an outcome, where all is settled, starts a walk of any length
  open_walks : (st : Outcomes) → IsSettled st → (n : ℕ) (k : List ℕ) → has al k ≡ true → has_outcome st k ≡ false → Walks al n k
  open_walks st settled zero k known h = some_of (get_member k al) known
  open_walks st settled (suc n) k known h =
      let (w, is) = some_of (get_member k al) known in
      elim (cases_Bool (all_named (is_over al st) places.FieldType w)) [
        | inl due ↦ absurd (true≢false (sym (settled k w is due) ∙ h))
        | inr waits ↦ (let (m, x, f) = blocked (is_over al st) w places.FieldType waits in
            let parts = or_parts (has_outcome st m) (not (has al m)) f in
            (w, m, is, x, open_walks st settled n m (not-false (has al m) parts.1) parts.0))
      ]

  -- so does one that the rounds leave without an outcome
  pub rounds_open : NoClash al → (n : ℕ) (k : List ℕ) → has al k ≡ true → has_outcome (rounds al (members_len al) no_outcomes) k ≡ false → Walks al n k
  rounds_open apart n k known h = open_walks (rounds al (members_len al) no_outcomes) (rounds_settled apart) n k known h

  -- what any turns lead to that leave none due is what the rounds leave
  pub turns_are_rounds : {st : Outcomes} → NoClash al → Reached al st → IsSettled st → st ≡ rounds al (members_len al) no_outcomes
  turns_are_rounds apart reached settled = one_state reached settled (rounds_reached al (members_len al) (found_each al apart)) (rounds_settled apart)
