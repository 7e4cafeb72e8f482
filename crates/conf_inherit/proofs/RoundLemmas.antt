-- What the rounds over the aliases leave: resolved aliases are what they are looked up as, and an alias with no
-- outcome starts a walk as long as there were rounds.
use Rattle.std.proofs.Common.{◌≡◌, ◌&&◌, ◌||◌, inl, inr, ℕ, zero, suc, List, [], ◌∷◌, Option, Some, None, Result, Ok, Err, is_some, Bool, true, false, not, true≢false, refl, sym, ap, ◌∙◌, subst, ◌+◌, ◌≤◌, arith, ◌<◌, if◌then◌else◌}
use Rattle.std.proofs.lemmas.{Bool.{and_parts, cases_Bool, or_parts, or_left, or_right}, Option.same_Some}
use Rattle.std.specs.Prelude.{⊤}
use Rattle.serde_json.specs.{Data.{Data, null, Members, no_members, member, put, depth}, Find.get_member, Events.members_len}
use Rattle.serde_json.proofs.Views.{get_member-put_other}
use Rattle.conf_tree.specs.{Flaw.{Flaw, key, within}, Walk.refusal, declared.fault_kind.FaultKind.FaultKind, Reading.◌>>=◌}
use Rattle.conf_tree.specs.declared.limits.TheConstants.{MAX_LEVELS}
use Rattle.conf_inherit.specs.{AliasFlaws.{open_in, is_circle, first_or_circle, alias_flaws, all_alias_flaws}, Flaws.{flaws, asked_flaws, type_flaws, whole_flaws}}
use Rattle.conf_inherit.specs.{Laying.lay, Named.{all_named, has}, Circle.{Mentions, Walks}}
use Rattle.conf_inherit.specs.{Limits.{fitting, passed, limit_flaws}, Looks.{Looks, AreResolved}, Names.NoClash, Nesting.deep_flaws}
use Rattle.conf_inherit.specs.Rounds.{Outcomes, has_outcome, is_over, is_empty, if_fitting, outcome, concluded, step, round, all_over, rounds, no_outcomes, Reached, at_first, turned}
use Rattle.conf_inherit.specs.Resolution.{aliases_of, Resolves, from_aliases, if_shallow, resolution_after, resolution_under, resolution}
use Rattle.conf_inherit.proofs.{LimitLemmas.{kept_flaws, fitting_value}, SizeLemmas.shallow_depth}
use Rattle.conf_inherit.proofs.LayingLemmas.{some_is_none, same, other, meets, put_found, AllEntries, entry_found, found_each, get_other}
use Rattle.conf_inherit.proofs.{LaysOver.lays, FaultLemmas.{named, named_along, blocked, mentioned, is_put, part_empty, joined_empty, some_of}}
use Rattle.conf_table.specs.declared.place.Place.TheVariants as places

pub empty_flaws : (fs : List Flaw) → is_empty fs ≡ true → fs ≡ []
empty_flaws [] h = refl
empty_flaws (f ∷ fs) h = absurd (true≢false (sym h))

-- ---- what turns keep

module _ (al : Members) where
  -- what a conclusion keeps, a turn keeps
  pub by_turn : (P : Outcomes → Type 0) (k : List ℕ) (w : Data) (st : Outcomes) → P st → (has_outcome st k ≡ false → all_named (is_over al st) places.FieldType w ≡ true → P (concluded k st (outcome al st.done w))) → P (step al k w st)
  by_turn P k w st stays goes = go (has_outcome st k) refl (all_named (is_over al st) places.FieldType w) refl
    where
      go : (t : Bool) → has_outcome st k ≡ t → (u : Bool) → all_named (is_over al st) places.FieldType w ≡ u → P (step al k w st)
      go true a u b = rw a stays
      go false a false b = rw (a, b) stays
      go false a true b = rw (a, b) (goes a b)

  -- what each conclusion keeps holds wherever turns lead
  pub reached_keeps : (P : Outcomes → Type 0) → P no_outcomes
      → ((k : List ℕ) (w : Data) (st : Outcomes) → get_member k al ≡ Some w → has_outcome st k ≡ false → all_named (is_over al st) places.FieldType w ≡ true → P st → P (concluded k st (outcome al st.done w)))
      → {st : Outcomes} → Reached al st → P st
  reached_keeps P first next at_first = first
  reached_keeps P first next (turned k w st is before) =
      let so_far = reached_keeps P first next before in
      by_turn P k w st so_far (λ free due. next k w st is free due so_far)

  pub round_reached : (ms : Members) (st : Outcomes) → AllEntries (λ k w. get_member k al ≡ Some w) ms → Reached al st → Reached al (round al ms st)
  round_reached no_members st each h = h
  round_reached (member k w ms) st each h = round_reached ms (step al k w st) each.1 (turned k w st each.0 h)

  pub rounds_reached : (n : ℕ) → AllEntries (λ k w. get_member k al ≡ Some w) al → Reached al (rounds al n no_outcomes)
  rounds_reached zero each = at_first
  rounds_reached (suc n) each =
      let before = rounds_reached n each in
      elim (cases_Bool (all_over al (rounds al n no_outcomes))) [ inl is ↦ rw is before | inr is ↦ rw is (round_reached al (rounds al n no_outcomes) each before) ]

-- ---- a resolved alias

pub fitting_ok : (o : Result Data FaultKind) (t : Data) → if_fitting o ≡ Some t → o ≡ Ok t
fitting_ok (Ok r) t h = cc
fitting_ok (Err kind) t h = cc

-- an alias that is resolved names resolved ones alone, has no flaw and fits
pub record IsOutcome (al done : Members) (w r : Data) : Type 0 where
  pub named : all_named (has done) places.FieldType w ≡ true
  pub flawless : flaws al (Some done) places.FieldType false no_members w ≡ []
  pub fits : fitting (lay done places.FieldType w None) ≡ Ok r

pub outcome_is : (al done : Members) (w r : Data) → outcome al done w ≡ Some r → IsOutcome al done w r
outcome_is al done w r h =
    let none = flaws al (Some done) places.FieldType false no_members w in
    elim (cases_Bool (all_named (has done) places.FieldType w && is_empty none)) [
      | inl is ↦ (let parts = and_parts (all_named (has done) places.FieldType w) (is_empty none) is in
          record { named = parts.0; flawless = empty_flaws none parts.1; fits = fitting_ok (fitting (lay done places.FieldType w None)) r (rw is at h) })
      | inr is ↦ absurd (let bad : None ≡ Some r = rw is at h in some_is_none r (sym bad))
    ]

module _ (al : Members) where
  -- an alias that is resolved is what it is looked up as
  outcome_looks : (done : Members) (w r : Data) → AreResolved al done → outcome al done w ≡ Some r → Looks al places.FieldType (w ∷ []) r
  outcome_looks done w r known h =
      let is = outcome_is al done w r h in
      subst (Looks al places.FieldType (w ∷ [])) (fitting_value (lay done places.FieldType w None) r is.fits)
      (lays al done known w places.FieldType (record { resolved = Some done; outside = false; taken = false; seen = no_members; sound = is.flawless }) is.named [] None refl)

  resolved_more : (done : Members) (k : List ℕ) (w r : Data) → AreResolved al done → get_member k al ≡ Some w → Looks al places.FieldType (w ∷ []) r → AreResolved al (put k r done)
  resolved_more done k w r known is l n t h = elim (meets n k) [
    | same e ↦ (let f : Some r ≡ Some t = sym (put_found n k r done e) ∙ h in
        let g : r ≡ t = cc in
        (w, ap (λ x. get_member x al) e ∙ is, subst (Looks al places.FieldType (w ∷ [])) g l))
    | other apart ↦ known n t (sym (get_member-put_other n k r done apart) ∙ h)
  ]

  next_resolved : (k : List ℕ) (w : Data) (st : Outcomes) → get_member k al ≡ Some w → AreResolved al st.done → (o : Option Data) → outcome al st.done w ≡ o → AreResolved al (concluded k st o).done
  next_resolved k w st is known None e = known
  next_resolved k w st is known (Some r) e = resolved_more st.done k w r known is (outcome_looks st.done w r known e)

  pub rounds_resolved : (n : ℕ) → AllEntries (λ k w. get_member k al ≡ Some w) al → AreResolved al (rounds al n no_outcomes).done
  rounds_resolved n each =
      reached_keeps al (λ st. AreResolved al st.done) (λ n r h. cc) (λ k w st is free due known. next_resolved k w st is known (outcome al st.done w) refl) (rounds_reached al n each)

known_over : (a b : Bool) → (a || not b) ≡ true → b ≡ true → a ≡ true
known_over a b h e = grind arith

or_true : (a b c : Bool) → (a || b || not c) ≡ true → a ≡ false → c ≡ true → b ≡ true
or_true a b c h e f = grind arith

-- ---- what a conclusion changes

-- two states have the same at a name
abbrev pub SameAt : Outcomes → Outcomes → List ℕ → Type 0
SameAt st next n = (get_member n next.done ≡ get_member n st.done) × (get_member n next.refused ≡ get_member n st.refused)

pub same_outcome : (st next : Outcomes) (n : List ℕ) → SameAt st next n → has_outcome next n ≡ has_outcome st n
same_outcome st next n (d, f) = ap (λ x. is_some x || has next.refused n) d ∙ ap (λ x. has st.done n || is_some x) f

pub concluded_other : (k : List ℕ) (st : Outcomes) (o : Option Data) (n : List ℕ) → (n ≡ k → ⊥) → SameAt st (concluded k st o) n
concluded_other k st None n apart = (refl, get_member-put_other n k null st.refused apart)
concluded_other k st (Some r) n apart = (get_member-put_other n k r st.done apart, refl)

-- what has an outcome has the same in the next state
abbrev pub Agrees : Outcomes → Outcomes → Type 0
Agrees st next = (n : List ℕ) → has_outcome st n ≡ true → SameAt st next n

pub concluded_agrees : (k : List ℕ) (st : Outcomes) (o : Option Data) → has_outcome st k ≡ false → Agrees st (concluded k st o)
concluded_agrees k st o free n h = concluded_other k st o n (λ e. true≢false (sym h ∙ ap (has_outcome st) e ∙ free))

pub agrees_through : (a b c : Outcomes) → Agrees a b → Agrees b c → Agrees a c
agrees_through a b c f g n h = let one = f n h in let two = g n (same_outcome a b n one ∙ h) in (two.0 ∙ one.0, two.1 ∙ one.1)

limit_listed : (o : Result Data FaultKind) → if_fitting o ≡ None → passed o ≡ [] → ⊥
limit_listed (Ok r) h none = cc
limit_listed (Err kind) h none = cc

module _ (al : Members) where
  -- a type that is not resolved, though all that it names is, has a flaw or passes a limit
  unresolved : (done : Members) (w : Data) → all_named (has done) places.FieldType w ≡ true → outcome al done w ≡ None → type_flaws al done places.FieldType w ≡ [] → ⊥
  unresolved done w named h none =
      let fs = flaws al (Some done) places.FieldType false no_members w in
      let empty : is_empty fs ≡ true = ap is_empty (joined_empty fs (limit_flaws done places.FieldType w) none).0 in
      let at : limit_flaws done places.FieldType w ≡ passed (fitting (lay done places.FieldType w None)) = rw named refl in
      limit_listed (fitting (lay done places.FieldType w None)) (rw (named, empty) at h) (sym at ∙ (joined_empty fs (limit_flaws done places.FieldType w) none).1)

-- ---- without a flaw, every alias is resolved

-- an alias without an outcome has a flaw
pub open_flawed : (found : Result ⊤ Flaw) → first_or_circle found ≡ [] → ⊥
open_flawed (Ok x) h = cc
open_flawed (Err f) h = elim (cases_Bool (is_circle f.kind)) [ inl is ↦ (let bad = rw is at h in cc) | inr is ↦ (let bad = rw is at h in cc) ]

each_sound : (al : Members) (st : Outcomes) (ms : Members) → all_alias_flaws al st ms ≡ [] → AllEntries (λ k w. alias_flaws al st k w ≡ []) ms
each_sound al st no_members h = tt
each_sound al st (member k w ms) h = ((part_empty (within (key k)) (alias_flaws al st k w) (all_alias_flaws al st ms) h).0, each_sound al st ms (part_empty (within (key k)) (alias_flaws al st k w) (all_alias_flaws al st ms) h).1)

module _ (al : Members) (last : Outcomes) (sound : all_alias_flaws al last al ≡ []) where
  sound_alias : (k : List ℕ) (w : Data) → get_member k al ≡ Some w → alias_flaws al last k w ≡ []
  sound_alias k w h = entry_found (λ k w. alias_flaws al last k w ≡ []) al (each_sound al last al sound) k w h

  -- a type without a flaw names aliases alone
  sound_names : (w : Data) → type_flaws al last.done places.FieldType w ≡ [] → all_named (has al) places.FieldType w ≡ true
  sound_names w none = named al (Some last.done) (has al) (λ n x. x) w false places.FieldType false no_members (joined_empty _ _ none).0

  -- no alias is refused in a state that leads to the last one
  abbrev NoneRefused : Outcomes → Type 0
  NoneRefused st = Agrees st last → (q : List ℕ) → has st.refused q ≡ true → ⊥

  next_none : (k : List ℕ) (w : Data) (st : Outcomes) → get_member k al ≡ Some w → has_outcome st k ≡ false → all_named (is_over al st) places.FieldType w ≡ true → NoneRefused st
      → (o : Option Data) → outcome al st.done w ≡ o → NoneRefused (concluded k st o)
  unfolding alias_flaws
  next_none k w st is free due before (Some r) e agrees q h = before (agrees_through st (concluded k st (Some r)) last (concluded_agrees k st (Some r) free) agrees) q h
  next_none k w st is free due before None e agrees q h =
      let earlier = agrees_through st (concluded k st None) last (concluded_agrees k st None free) agrees in
      let here = agrees k (or_right (has st.done k) (has (put k null st.refused) k) (is_put k null st.refused)) in
      let open_k : has last.done k ≡ false = ap is_some here.0 ∙ (or_parts (has st.done k) (has st.refused k) free).0 in
      let refused : has last.refused k ≡ true = ap is_some here.1 ∙ is_put k null st.refused in
      let none : type_flaws al last.done places.FieldType w ≡ [] = rw (open_k, refused) at (sound_alias k w is) in
      elim (cases_Bool (all_named (has st.done) places.FieldType w)) [
        | inl all ↦ unresolved al st.done w all e (sym (kept_flaws st.done last.done (λ n x. (earlier n (or_left (has st.done n) (has st.refused n) x)).0) al places.FieldType w all) ∙ none)
        | inr some ↦ (let (m, x, open_m) = blocked (has st.done) w places.FieldType some in
            before earlier m (or_true (has st.done m) (has st.refused m) (has al m) (mentioned (is_over al st) m w places.FieldType due x) open_m (mentioned (has al) m w places.FieldType (sound_names w none) x)))
      ]

  pub all_done : Reached al last → (n : List ℕ) → has al n ≡ true → has last.done n ≡ true
  unfolding alias_flaws
  all_done reached n h =
      let (w, is) = some_of (get_member n al) h in
      let none = reached_keeps al NoneRefused (λ a q h. true≢false (sym h)) (λ k w st is free due before. next_none k w st is free due before (outcome al st.done w) refl) reached in
      elim (cases_Bool (has last.done n)) [
        | inl e ↦ e
        | inr e ↦ elim (cases_Bool (has last.refused n)) [
          | inl f ↦ absurd (none (λ k x. (refl, refl)) n f)
          | inr f ↦ absurd (open_flawed (refusal (asked_flaws (open_in al last) last.done places.FieldType w)) (rw (e, f) at (sound_alias n w is)))
        ]
      ]

-- where all that a value names is resolved, it is due
pub resolved_due : (al : Members) (st : Outcomes) (v : Data) → all_named (has st.done) places.FieldType v ≡ true → all_named (is_over al st) places.FieldType v ≡ true
resolved_due al st v h = named_along (has st.done) (is_over al st) (λ n d. rw d refl) places.FieldType v h

-- The parts of a resolution together.

pub no_flaws : (fs : List Flaw) → refusal fs ≡ Ok tt → fs ≡ []
no_flaws [] h = refl
no_flaws (f ∷ fs) h = cc

-- ---- a configuration without a flaw is resolved

pub laid_resolves : (t : Data) (al : Members) (n : ℕ) (st : Outcomes) → al ≡ aliases_of t → NoClash al → st ≡ rounds al n no_outcomes
    → all_alias_flaws al st al ≡ [] → whole_flaws al st.done t ≡ [] → Resolves t (lay st.done places.Root t None)
laid_resolves t al n st is apart went sound whole =
    let each = found_each al apart in
    let known : AreResolved al st.done = subst (λ x. AreResolved al x.done) (sym went) (rounds_resolved al n each) in
    let all = all_done al st sound (subst (Reached al) (sym went) (rounds_reached al n each)) in
    subst (λ x. Looks x places.Root (t ∷ []) (lay st.done places.Root t None)) is
    (lays al st.done known t places.Root (record { resolved = Some st.done; outside = true; taken = false; seen = no_members; sound = whole }) (named al (Some st.done) (has st.done) all t true places.Root false no_members whole) [] None refl)

-- ---- the answer

pub sound_of : (a : Result ⊤ Flaw) → from_aliases a ≡ Ok tt → a ≡ Ok tt
sound_of (Ok x) h = refl
sound_of (Err f) h = cc

pub ok_then : (a : Result ⊤ Flaw) (k : ⊤ → Result Data Flaw) (r : Data) → (a >>= k) ≡ Ok r → (a ≡ Ok tt) × (k tt ≡ Ok r)
ok_then (Ok x) k r h = (refl, h)
ok_then (Err f) k r h = cc

same_ok : (x r : Data) → (let o : Result Data Flaw = Ok x in o ≡ Ok r) → x ≡ r
same_ok x r h = cc

ok_shallow : (x r : Data) → if_shallow x ≡ Ok r → (x ≡ r) × (depth r ≤ MAX_LEVELS)
ok_shallow x r h =
    let parts = ok_then (refusal (deep_flaws x MAX_LEVELS)) (λ a. Ok x) r h in
    let value : x ≡ r = same_ok x r parts.1 in
    (value, subst (λ y. depth y ≤ MAX_LEVELS) value (shallow_depth x MAX_LEVELS (no_flaws (deep_flaws x MAX_LEVELS) parts.0)))

-- what becomes of the aliases of a configuration
abbrev pub rounds_of : Data → Outcomes
rounds_of t = rounds (aliases_of t) (members_len (aliases_of t)) no_outcomes

-- where there is an answer, nothing was found in the aliases or in the whole, and what is laid is shallow
pub record TreeSound (t r : Data) : Type 0 where
  pub outcomes : all_alias_flaws (aliases_of t) (rounds_of t) (aliases_of t) ≡ []
  pub whole : whole_flaws (aliases_of t) (rounds_of t).done t ≡ []
  pub value : lay (rounds_of t).done places.Root t None ≡ r
  pub shallow : depth r ≤ MAX_LEVELS

pub tree_sound : (t r : Data) → resolution t ≡ Ok r → TreeSound t r
tree_sound t r h =
    let al = aliases_of t in
    let st = rounds_of t in
    let first = ok_then (from_aliases (refusal (all_alias_flaws al st al))) _ r h in
    let second = ok_then (refusal (whole_flaws al st.done t)) _ r first.1 in
    let last = ok_shallow (lay st.done places.Root t None) r second.1 in
    record { outcomes = no_flaws (all_alias_flaws al st al) (sound_of _ first.0); whole = no_flaws (whole_flaws al st.done t) second.0; value = last.0; shallow = last.1 }

-- what is answered is the resolution, and nests no deeper than may be
pub resolution_sound : (t r : Data) → NoClash (aliases_of t) → resolution t ≡ Ok r → Resolves t r × (depth r ≤ MAX_LEVELS)
resolution_sound t r apart h =
    let sound = tree_sound t r h in
    (subst (Resolves t) sound.value (laid_resolves t (aliases_of t) (members_len (aliases_of t)) (rounds_of t) refl apart refl sound.outcomes sound.whole), sound.shallow)

pub resolution_is : (t : Data) (al : Members) (n : ℕ) (st : Outcomes) → al ≡ aliases_of t → members_len al ≡ n → st ≡ rounds al n no_outcomes → resolution t ≡ resolution_after al st t
resolution_is t al n st own count went =
    ap (λ x. resolution_under x t) (sym own) ∙ ap (λ x. resolution_after al x t) (ap (λ m. rounds al m no_outcomes) count ∙ sym went)

-- An alias that has an outcome starts no walk as long as there are aliases.

abbrev pub count : (List ℕ → Bool) → Members → ℕ
count p no_members = 0
count p (member k d ms) = if p k then suc (count p ms) else count p ms

pub count_all : (p : List ℕ → Bool) (ms : Members) → count p ms ≤ members_len ms
count_all p no_members = omega arith
count_all p (member k d ms) = elim (cases_Bool (p k)) [ inl e ↦ rw e (omega (arith, count_all p ms)) | inr e ↦ rw e (omega (arith, count_all p ms)) ]

module _ (p q : List ℕ → Bool) (more : (n : List ℕ) → p n ≡ true → q n ≡ true) where
  -- so many more names pass q where one name more is asked
  count_next : (c : ℕ) (k : List ℕ) (d : Data) (ms : Members) → c + count p ms ≤ count q ms → c + count p (member k d ms) ≤ count q (member k d ms)
  count_next c k d ms h = grind (arith, more k, h)

  pub count_more : (ms : Members) → count p ms ≤ count q ms
  count_more no_members = omega arith
  count_more (member k d ms) = let rest = count_more ms in omega (arith, count_next 0 k d ms (omega (arith, rest)))

  -- one that passes now, and did not before, counts
  pub count_new : (k : List ℕ) (w : Data) (ms : Members) → get_member k ms ≡ Some w → p k ≡ false → q k ≡ true → count p ms < count q ms
  count_new k w no_members is before after = cc
  count_new k w (member l d ms) is before after = elim (meets k l) [ same e ↦ grind (arith, count_more ms, e) | other apart ↦ grind (arith, count_next 1 l d ms, count_new k w ms, get_other k l d ms apart) ]

-- ---- the walks of an alias that has an outcome

module _ (al : Members) where
  pub walk_starts : (n : ℕ) (k : List ℕ) → Walks al n k → has al k ≡ true
  walk_starts zero k (w, is) = ap is_some is
  walk_starts (suc n) k (w, m, is, x, rest) = ap is_some is

  -- a walk from such an alias has fewer steps than there are outcomes
  abbrev Short : Outcomes → Type 0
  Short st = (n : ℕ) (k : List ℕ) → has_outcome st k ≡ true → Walks al n k → n < count (has_outcome st) al

  module _ (k : List ℕ) (w : Data) (st : Outcomes) (o : Option Data) (is : get_member k al ≡ Some w) (free : has_outcome st k ≡ false) (due : all_named (is_over al st) places.FieldType w ≡ true) (short : Short st) where
    abbrev next : Outcomes
    next = concluded k st o

    kept : (q : List ℕ) → has_outcome st q ≡ true → has_outcome next q ≡ true
    kept q h = same_outcome st next q (concluded_agrees k st o free q h) ∙ h

    concludes : (o : Option Data) → has_outcome (concluded k st o) k ≡ true
    concludes None = or_right (has st.done k) (has (put k null st.refused) k) (is_put k null st.refused)
    concludes (Some r) = or_left (has (put k r st.done) k) (has st.refused k) (is_put k r st.done)

    grows : count (has_outcome st) al < count (has_outcome next) al
    grows = count_new (has_outcome st) (has_outcome next) kept k w al is free (concludes o)

    of_alias : (n : ℕ) → Walks al n k → n < count (has_outcome next) al
    of_alias zero walk = omega (arith, grows)
    of_alias (suc n) (v, m, is', x, rest) =
        let over = mentioned (is_over al st) m w places.FieldType due (subst (Mentions m places.FieldType) (same_Some v w (sym is' ∙ is)) x) in
        let before : n < count (has_outcome st) al = short n m (known_over (has_outcome st m) (has al m) over (walk_starts n m rest)) rest in
        omega (arith, grows, before)

    short_next : Short next
    short_next n q h walk = elim (meets q k) [
      | same e ↦ of_alias n (subst (Walks al n) e walk)
      | other apart ↦ (let before : n < count (has_outcome st) al = short n q (sym (same_outcome st next q (concluded_other k st o q apart)) ∙ h) walk in omega (arith, grows, before))
    ]

  rounds_short : (n : ℕ) → AllEntries (λ k w. get_member k al ≡ Some w) al → Short (rounds al n no_outcomes)
  rounds_short n each =
      reached_keeps al Short (λ n k h walk. absurd (true≢false (sym h))) (λ k w st is free due short. short_next k w st (outcome al st.done w) is free due short) (rounds_reached al n each)

-- no alias that has an outcome leads into a circle
pub outcome_ends : (t : Data) (k : List ℕ) → NoClash (aliases_of t) → has_outcome (rounds_of t) k ≡ true → ¬ Walks (aliases_of t) (members_len (aliases_of t)) k
outcome_ends t k apart has_one walk =
    let al = aliases_of t in
    let n = members_len al in
    let long : n < count (has_outcome (rounds_of t)) al = rounds_short al n (found_each al apart) n k has_one walk in
    let few : count (has_outcome (rounds_of t)) al ≤ n = count_all (has_outcome (rounds_of t)) al in
    omega (arith, long, few)

-- where no alias has a flaw, none does
pub no_circle : (t : Data) (k : List ℕ) → NoClash (aliases_of t) → all_alias_flaws (aliases_of t) (rounds_of t) (aliases_of t) ≡ [] → ¬ Walks (aliases_of t) (members_len (aliases_of t)) k
no_circle t k apart none walk =
    let al = aliases_of t in
    let st = rounds_of t in
    let done = all_done al st none (rounds_reached al (members_len al) (found_each al apart)) k (walk_starts al (members_len al) k walk) in
    outcome_ends t k apart (or_left (has st.done k) (has st.refused k) done) walk

-- where there is a resolution, no alias leads into a circle
pub circle_refused : (t r : Data) (k : List ℕ) → NoClash (aliases_of t) → Walks (aliases_of t) (members_len (aliases_of t)) k → resolution t ≡ Ok r → ⊥
circle_refused t r k apart walk h = no_circle t k apart (tree_sound t r h).outcomes walk
