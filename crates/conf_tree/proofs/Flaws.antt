-- What the list of a value's flaws says: without one it is a tree's value, and each that it lists holds at its place.
use Rattle.std.proofs.Common.{◌≡◌, ℕ, zero, suc, ◌+◌, ◌≤◌, List, [], ◌∷◌, ◌++◌, length, map, Bool, true, false, cond, refl, sym, ap, subst, ◌∙◌, arith, Some, Ok, Err, inl, inr, ◌⊎◌}
use Rattle.std.specs.List.{All}
use Rattle.std.proofs.lemmas.Bool.{or_from}
use Rattle.std.proofs.lemmas.List.Elements.{All-append, All-cons, All-map, All-nil, All-weaker}
use Rattle.conf_tree.specs.declared.fault_kind.FaultKind.{FaultKind}
use Rattle.conf_tree.specs.declared.fault_kind.FaultKind.TheVariants.{TooDeep, NotWhole}
use Rattle.serde_json.specs.Data.{Data, Num, number, array, object, Items, no_items, item, Members, no_members, member, depth, items_depth, members_depth}
use Rattle.serde_json.specs.Find.{is_float, get_item}
use Rattle.serde_json.specs.Written.{has_float, items_have_float, members_have_float}
use Rattle.serde_json.specs.Read.{read}
use Rattle.conf_tree.specs.declared.fault.ConfFault.{ConfFault}
use Rattle.conf_tree.specs.declared.limits.TheConstants.{MAX_LEVELS}
use Rattle.conf_tree.specs.Flaw.{Flaw, key, index, here, within, flaw_of, IsMemory}
use Rattle.conf_tree.specs.Walk.{flaws, item_flaws, member_flaws, refusal, Reads, KindHolds, FlawHolds, HasMember}

-- ---- no flaw: not too deep, and no float

both_empty : (f : Flaw → Flaw) (xs ys : List Flaw) → map f xs ++ ys ≡ [] → (xs ≡ []) × (ys ≡ [])
both_empty f [] ys e = (refl, e)
both_empty f (x ∷ xs) ys e = absurd cc

no_float : (b : Bool) (f : Flaw) → cond b (f ∷ []) [] ≡ [] → b ≡ false
no_float true f e = cc
no_float false f e = refl

mutual
  pub flawless : (d : Data) (levels : ℕ) → flaws d levels ≡ [] → (depth d ≤ levels) × (has_float d ≡ false)
  flawless (number n) levels e = (omega arith, no_float (is_float n) _ e)
  flawless (array ds) zero e = absurd cc
  flawless (array ds) (suc levels) e = let inner = items_flawless ds 0 levels e in (omega (arith, inner.0), inner.1)
  flawless (object ms) zero e = absurd cc
  flawless (object ms) (suc levels) e = let inner = members_flawless ms levels e in (omega (arith, inner.0), inner.1)
  flawless _ levels e = (omega arith, refl)

  items_flawless : (ds : Items) (i levels : ℕ) → item_flaws ds i levels ≡ [] → (items_depth ds ≤ levels) × (items_have_float ds ≡ false)
  items_flawless no_items i levels e = (omega arith, refl)
  items_flawless (item d ds) i levels e =
      let none = both_empty (within (index i)) (flaws d levels) (item_flaws ds (suc i) levels) e in
      let first = flawless d levels none.0 in
      let others = items_flawless ds (suc i) levels none.1 in
      (omega (arith, first.0, others.0), or_from (has_float d) (items_have_float ds) first.1 others.1)

  members_flawless : (ms : Members) (levels : ℕ) → member_flaws ms levels ≡ [] → (members_depth ms ≤ levels) × (members_have_float ms ≡ false)
  members_flawless no_members levels e = (omega arith, refl)
  members_flawless (member k d ms) levels e =
      let none = both_empty (within (key k)) (flaws d levels) (member_flaws ms levels) e in
      let first = flawless d levels none.0 in
      let others = members_flawless ms levels none.1 in
      (omega (arith, first.0, others.0), or_from (has_float d) (members_have_float ms) first.1 others.1)

-- ---- each flaw that is listed holds at its path

-- one step further out, and one level more
KindHolds-suc : (kind : FaultKind) (levels steps : ℕ) (found : Data) → KindHolds kind levels steps found → KindHolds kind (suc levels) (suc steps) found
KindHolds-suc TooDeep levels steps found h = (h.0, omega (arith, h.1))
KindHolds-suc _ levels steps found h = h

-- a flaw of the items from place i on is one of an item
ItemFlaw : Items → ℕ → ℕ → Flaw → Type 0
ItemFlaw ds i levels flaw =
    (j : ℕ) × (e : Data) × (inner : Flaw) × (flaw ≡ within (index (i + j)) inner) × (get_item j ds ≡ Some e) × FlawHolds e levels inner

MemberFlaw : Members → ℕ → Flaw → Type 0
MemberFlaw ms levels flaw =
    (k : List ℕ) × (e : Data) × (inner : Flaw) × (flaw ≡ within (key k) inner) × HasMember k e ms × FlawHolds e levels inner

further : (d : Data) (ds : Items) (i levels : ℕ) (flaw : Flaw) → ItemFlaw ds (suc i) levels flaw → ItemFlaw (item d ds) i levels flaw
unfolding ItemFlaw
further d ds i levels flaw (j, e, inner, is, there, holds) =
    (suc j, e, inner, is ∙ ap (λ n. within (index n) inner) (omega arith), there, holds)

of_array : (ds : Items) (levels : ℕ) (flaw : Flaw) → ItemFlaw ds 0 levels flaw → FlawHolds (array ds) (suc levels) flaw
unfolding ItemFlaw
of_array ds levels flaw (j, e, inner, is, there, (found, leads, kind)) =
    subst (FlawHolds (array ds) (suc levels)) (sym (is ∙ ap (λ n. within (index n) inner) (omega arith)))
    (let out : FlawHolds (array ds) (suc levels) (within (index j) inner) = (found, (ds, e, refl, there, leads), KindHolds-suc inner.kind levels (length inner.path) found kind) in out)

of_object : (ms : Members) (levels : ℕ) (flaw : Flaw) → MemberFlaw ms levels flaw → FlawHolds (object ms) (suc levels) flaw
unfolding MemberFlaw
of_object ms levels flaw (k, e, inner, is, there, (found, leads, kind)) =
    subst (FlawHolds (object ms) (suc levels)) (sym is)
    (let out : FlawHolds (object ms) (suc levels) (within (key k) inner) = (found, (ms, e, refl, there, leads), KindHolds-suc inner.kind levels (length inner.path) found kind) in out)

one_float : (b : Bool) (n : Num) (levels : ℕ) → is_float n ≡ b → All (FlawHolds (number n) levels) (cond b (here NotWhole ∷ []) [])
one_float true n levels e = All-cons (FlawHolds (number n) levels) (here NotWhole) [] (number n, refl, e) (All-nil (FlawHolds (number n) levels))
one_float false n levels e = All-nil (FlawHolds (number n) levels)

mutual
  unfolding ItemFlaw MemberFlaw

  pub flaws-hold : (d : Data) (levels : ℕ) → All (FlawHolds d levels) (flaws d levels)
  flaws-hold (number n) levels = one_float (is_float n) n levels refl
  flaws-hold (array ds) zero = All-cons (FlawHolds (array ds) zero) (here TooDeep) [] (array ds, refl, (tt, omega arith)) (All-nil (FlawHolds (array ds) zero))
  flaws-hold (array ds) (suc levels) = All-weaker (ItemFlaw ds 0 levels) (FlawHolds (array ds) (suc levels)) (of_array ds levels) _ (item_flaws-hold ds 0 levels)
  flaws-hold (object ms) zero = All-cons (FlawHolds (object ms) zero) (here TooDeep) [] (object ms, refl, (tt, omega arith)) (All-nil (FlawHolds (object ms) zero))
  flaws-hold (object ms) (suc levels) = All-weaker (MemberFlaw ms levels) (FlawHolds (object ms) (suc levels)) (of_object ms levels) _ (member_flaws-hold ms levels)
  flaws-hold d levels = All-nil (FlawHolds d levels)

  item_flaws-hold : (ds : Items) (i levels : ℕ) → All (ItemFlaw ds i levels) (item_flaws ds i levels)
  item_flaws-hold no_items i levels = All-nil (ItemFlaw no_items i levels)
  item_flaws-hold (item d ds) i levels =
      All-append (ItemFlaw (item d ds) i levels) _ _
      (All-map (ItemFlaw (item d ds) i levels) (within (index i)) (flaws d levels)
      (All-weaker (FlawHolds d levels) (λ f. ItemFlaw (item d ds) i levels (within (index i) f)) (λ f h. (0, d, f, ap (λ n. within (index n) f) (omega arith), refl, h)) _ (flaws-hold d levels)))
      (All-weaker (ItemFlaw ds (suc i) levels) (ItemFlaw (item d ds) i levels) (further d ds i levels) _ (item_flaws-hold ds (suc i) levels))

  member_flaws-hold : (ms : Members) (levels : ℕ) → All (MemberFlaw ms levels) (member_flaws ms levels)
  member_flaws-hold no_members levels = All-nil (MemberFlaw no_members levels)
  member_flaws-hold (member k d ms) levels =
      All-append (MemberFlaw (member k d ms) levels) _ _
      (All-map (MemberFlaw (member k d ms) levels) (within (key k)) (flaws d levels)
      (All-weaker (FlawHolds d levels) (λ f. MemberFlaw (member k d ms) levels (within (key k) f)) (λ f h. (k, d, f, refl, inl (refl, refl), h)) _ (flaws-hold d levels)))
      (All-weaker (MemberFlaw ms levels) (MemberFlaw (member k d ms) levels) (λ f (w : MemberFlaw ms levels f). (w.0, w.1, w.2, w.3, inr w.4, w.5)) _ (member_flaws-hold ms levels))

first_holds : (P : Flaw → Type 0) (fs : List Flaw) (flaw : Flaw) → All P fs → refusal fs ≡ Err flaw → P flaw
first_holds P [] flaw all e = cc
first_holds P (f ∷ fs) flaw all e = let is : f ≡ flaw = cc in subst P is (all 0 f (omega arith))

-- what is not refused has no flaw
pub accepted : (fs : List Flaw) → refusal fs ≡ Ok tt → fs ≡ []
accepted [] e = refl
accepted (f ∷ fs) e = cc

-- whatever value the text is, the fault that refused the one that was read holds in it
pub read_holds : (text : List ℕ) (v : Data) (fault : ConfFault) → read text ≡ Some v → IsMemory fault ⊎ (refusal (flaws v MAX_LEVELS) ≡ Err (flaw_of fault))
    → IsMemory fault ⊎ ((d : Data) → Reads text d → FlawHolds d MAX_LEVELS (flaw_of fault))
read_holds text v fault is (inl memory) = inl memory
read_holds text v fault is (inr refused) =
    inr (λ d reads. let same : v ≡ d = cc in subst (λ x. FlawHolds x MAX_LEVELS (flaw_of fault)) same (first_holds (FlawHolds v MAX_LEVELS) (flaws v MAX_LEVELS) (flaw_of fault) (flaws-hold v MAX_LEVELS) refused))
