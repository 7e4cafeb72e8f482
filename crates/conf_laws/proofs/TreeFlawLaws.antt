-- The flaw of a value as a tree that a walk answers is one, and stands before each other one; and where a walk answers none, the value has
-- none.
use Rattle.std.proofs.Common.{◌≡◌, ◌⊎◌, ◌+◌, ℕ, zero, suc, Bool, true, false, cond, List, [], ◌∷◌, ◌++◌, length, map, Some, Err, inl, inr, refl, sym, ap, subst, ◌∙◌, arith}
use Rattle.serde_json.specs.Data.{Num}
use Rattle.serde_json.specs.Find.{is_float}
use Rattle.conf_tree.specs.declared.fault_kind.FaultKind.TheVariants.{TooDeep, NotWhole}
use Rattle.conf_tree.specs.declared.limits.TheConstants.{MAX_LEVELS}
use Rattle.conf_tree.specs.Walk.{flaws, item_flaws, member_flaws, IsNested, IsFloat, KindHolds, FlawHolds}
use Rattle.conf_laws.specs.FlawOrder.{PartBefore, OuterBefore}
use Rattle.conf_laws.specs.TreeOrder.{IsTreeFlaw, IsFirstInTree}
use Rattle.conf_laws.proofs.WalkOrderLaws.{above}
use Rattle.conf_laws.proofs.Words.{Flaw, PathPart, FaultKind, key, index, here, within, HasMember, refusal, Ascends, AllAbove, IsInOrder, ItemsAscend, MembersAscend, Data, number, object, Members, array, Items, no_items, item, no_members, member, get_item}

-- ---- the first of several flaws

-- one flaw is another, or stands before it
abbrev IsSameOrOuter : Flaw → Flaw → Type 0
IsSameOrOuter f g = (f ≡ g) ⊎ OuterBefore f.path g.path

-- the first of the list is one of these and before all others; the list is empty where there is none
abbrev Leads : List Flaw → (Flaw → Type 0) → Type 0
Leads [] P = (f : Flaw) → ¬ P f
Leads (g ∷ rest) P = P g × ((f : Flaw) → P f → IsSameOrOuter g f)

-- where the same flaws are said in other words
leads_as : (P Q : Flaw → Type 0) (xs : List Flaw) → ((f : Flaw) → P f → Q f) → ((f : Flaw) → Q f → P f) → Leads xs P → Leads xs Q
leads_as P Q [] there back h = λ f wrong. h f (back f wrong)
leads_as P Q (x ∷ xs) there back h = (there x h.0, λ f wrong. h.1 f (back f wrong))

-- of two parts, of which the one is before the other
leads_joined : (P Q : Flaw → Type 0) (xs ys : List Flaw) → Leads xs P → Leads ys Q → ((f g : Flaw) → P f → Q g → OuterBefore f.path g.path) → Leads (xs ++ ys) (λ f. P f ⊎ Q f)
leads_joined P Q [] [] h k before = λ f wrong. elim wrong [ inl a ↦ h f a | inr b ↦ k f b ]
leads_joined P Q [] (y ∷ ys) h k before = (inr k.0, λ f wrong. elim wrong [ inl a ↦ absurd (h f a) | inr b ↦ k.1 f b ])
leads_joined P Q (x ∷ xs) ys h k before = (inl h.0, λ f wrong. elim wrong [ inl a ↦ h.1 f a | inr b ↦ inr (before x f h.0 b) ])

-- a flaw of a part of a value
abbrev Within : PathPart → (Flaw → Type 0) → Flaw → Type 0
Within part P f = (g : Flaw) × (f ≡ within part g) × P g

same_or_outer_within : (part : PathPart) (f g : Flaw) → IsSameOrOuter f g → IsSameOrOuter (within part f) (within part g)
same_or_outer_within part f g (inl same) = inl (ap (within part) same)
same_or_outer_within part f g (inr outer) = inr (inr (refl, outer))

leads_within : (part : PathPart) (P : Flaw → Type 0) (xs : List Flaw) → Leads xs P → Leads (map (within part) xs) (Within part P)
leads_within part P [] h = λ f wrong. h wrong.0 wrong.2
leads_within part P (x ∷ xs) h = ((x, refl, h.0), λ f wrong. subst (IsSameOrOuter (within part x)) (sym wrong.1) (same_or_outer_within part x wrong.0 (h.1 wrong.0 wrong.2)))

-- the first that a list answers, and what it means that it answers none
first_told : (P : Flaw → Type 0) (xs : List Flaw) (flaw : Flaw) → Leads xs P → refusal xs ≡ Err flaw → P flaw × ((f : Flaw) → P f → IsSameOrOuter flaw f)
first_told P [] flaw h e = absurd cc
first_told P (x ∷ xs) flaw h e = let same : x ≡ flaw = cc in subst (λ f. P f × ((g : Flaw) → P g → IsSameOrOuter f g)) same h

none_told : (P : Flaw → Type 0) (xs : List Flaw) (flaw : Flaw) → Leads xs P → xs ≡ [] → ¬ P flaw
none_told P [] flaw h e = h flaw
none_told P (x ∷ xs) flaw h e = absurd cc

-- ---- a value by itself

-- its own flaw is before those of what it holds
own_first : (d : Data) (levels : ℕ) (kind other : FaultKind) (path : List PathPart) → (KindHolds other levels 0 d → kind ≡ other) → FlawHolds d levels (record { path = path; kind = other }) → IsSameOrOuter (here kind) (record { path = path; kind = other })
own_first d levels kind other [] one (found, is, holds) = inl (ap here (one (subst (KindHolds other levels 0) is holds)))
own_first d levels kind other (part ∷ path) one wrong = inr tt

one_of_nested : (d : Data) (levels : ℕ) (kind : FaultKind) → IsNested d → KindHolds kind levels 0 d → TooDeep ≡ kind
one_of_nested d levels TooDeep nested holds = refl
one_of_nested (array ds) levels NotWhole nested holds = absurd holds
one_of_nested (object ms) levels NotWhole nested holds = absurd holds
one_of_nested d levels NotWhole nested holds = absurd nested
one_of_nested d levels _ nested holds = absurd holds

one_of_number : (n : Num) (levels : ℕ) (kind : FaultKind) → KindHolds kind levels 0 (number n) → NotWhole ≡ kind
one_of_number n levels NotWhole holds = refl
one_of_number n levels TooDeep holds = absurd holds.0
one_of_number n levels _ holds = absurd holds

-- a value that holds nothing and is no float has none
none_itself : (d : Data) (levels : ℕ) (kind : FaultKind) (path : List PathPart) → ¬ IsNested d → ¬ IsFloat d → ¬ FlawHolds d levels (record { path = path; kind = kind })
none_itself d levels TooDeep [] plain whole (found, is, holds) = plain (subst IsNested is holds.0)
none_itself d levels NotWhole [] plain whole (found, is, holds) = whole (subst IsFloat is holds)
none_itself d levels _ [] plain whole (found, is, holds) = absurd holds
none_itself d levels kind (key k ∷ path) plain whole (found, (ms, e, is, has, leads), holds) = plain (subst IsNested (sym is) tt)
none_itself d levels kind (index i ∷ path) plain whole (found, (ds, e, is, there, leads), holds) = plain (subst IsNested (sym is) tt)

number_leads : (b : Bool) (n : Num) (levels : ℕ) → is_float n ≡ b → Leads (cond b (here NotWhole ∷ []) []) (FlawHolds (number n) levels)
number_leads true n levels e = ((number n, refl, e), λ f wrong. own_first (number n) levels NotWhole f.kind f.path (one_of_number n levels f.kind) wrong)
number_leads false n levels e = λ f wrong. none_itself (number n) levels f.kind f.path (λ nested. nested) (λ float. let both : true ≡ false = sym float ∙ e in cc) wrong

nested_leads : (d : Data) → IsNested d → Leads (here TooDeep ∷ []) (FlawHolds d 0)
nested_leads d nested = ((d, refl, (nested, omega arith)), λ f wrong. own_first d 0 TooDeep f.kind f.path (one_of_nested d 0 f.kind nested) wrong)

-- ---- the parts of a value

-- a flaw of the items, which count from place i
abbrev ItemFlaw : Items → ℕ → ℕ → Flaw → Type 0
ItemFlaw ds i levels f = (j : ℕ) × (e : Data) × (get_item j ds ≡ Some e) × Within (index (i + j)) (FlawHolds e levels) f

abbrev MemberFlaw : Members → ℕ → Flaw → Type 0
MemberFlaw ms levels f = (k : List ℕ) × (e : Data) × HasMember k e ms × Within (key k) (FlawHolds e levels) f

-- one step further out, and one level more
kind_outside : (kind : FaultKind) (levels steps : ℕ) (found : Data) → KindHolds kind levels steps found → KindHolds kind (suc levels) (suc steps) found
kind_outside TooDeep levels steps found h = (h.0, omega (arith, h.1))
kind_outside _ levels steps found h = h

kind_inside : (kind : FaultKind) (levels steps : ℕ) (found : Data) → KindHolds kind (suc levels) (suc steps) found → KindHolds kind levels steps found
kind_inside TooDeep levels steps found h = (h.0, omega (arith, h.1))
kind_inside _ levels steps found h = h

-- the flaws of a list are those of its items
array_has : (ds : Items) (levels : ℕ) (f : Flaw) → ItemFlaw ds 0 levels f → FlawHolds (array ds) (suc levels) f
array_has ds levels f (j, e, there, (g, is, (found, leads, holds))) =
    subst (FlawHolds (array ds) (suc levels)) (sym (is ∙ ap (λ n. within (index n) g) (omega arith)))
    (let outside : FlawHolds (array ds) (suc levels) (within (index j) g) = (found, (ds, e, refl, there, leads), kind_outside g.kind levels (length g.path) found holds) in outside)

array_only : (ds : Items) (levels : ℕ) (kind : FaultKind) (path : List PathPart) → FlawHolds (array ds) (suc levels) (record { path = path; kind = kind }) → ItemFlaw ds 0 levels (record { path = path; kind = kind })
array_only ds levels TooDeep [] (found, is, holds) = absurd (omega (arith, holds.1))
array_only ds levels NotWhole [] (found, is, holds) = absurd (subst IsFloat is holds)
array_only ds levels _ [] (found, is, holds) = absurd holds
array_only ds levels kind (index j ∷ path) (found, (es, e, is, there, leads), holds) =
    let same : es ≡ ds = cc in
    (j, e, subst (λ x. get_item j x ≡ Some e) same there, (record { path = path; kind = kind }, ap (λ n. within (index n) (record { path = path; kind = kind })) (omega arith), (found, leads, kind_inside kind levels (length path) found holds)))
array_only ds levels kind (key k ∷ path) (found, (ms, e, is, has, leads), holds) = absurd cc

-- and those of an object are those of its members
object_has : (ms : Members) (levels : ℕ) (f : Flaw) → MemberFlaw ms levels f → FlawHolds (object ms) (suc levels) f
object_has ms levels f (k, e, has, (g, is, (found, leads, holds))) =
    subst (FlawHolds (object ms) (suc levels)) (sym is)
    (let outside : FlawHolds (object ms) (suc levels) (within (key k) g) = (found, (ms, e, refl, has, leads), kind_outside g.kind levels (length g.path) found holds) in outside)

object_only : (ms : Members) (levels : ℕ) (kind : FaultKind) (path : List PathPart) → FlawHolds (object ms) (suc levels) (record { path = path; kind = kind }) → MemberFlaw ms levels (record { path = path; kind = kind })
object_only ms levels TooDeep [] (found, is, holds) = absurd (omega (arith, holds.1))
object_only ms levels NotWhole [] (found, is, holds) = absurd (subst IsFloat is holds)
object_only ms levels _ [] (found, is, holds) = absurd holds
object_only ms levels kind (key k ∷ path) (found, (ns, e, is, has, leads), holds) =
    let same : ns ≡ ms = cc in
    (k, e, subst (HasMember k e) same has, (record { path = path; kind = kind }, refl, (found, leads, kind_inside kind levels (length path) found holds)))
object_only ms levels kind (index j ∷ path) (found, (ds, e, is, there, leads), holds) = absurd cc

-- a flaw of one of the items is of the first, or of one behind it
first_item_or_later : (d : Data) (ds : Items) (i levels : ℕ) (f : Flaw) → ItemFlaw (item d ds) i levels f → Within (index i) (FlawHolds d levels) f ⊎ ItemFlaw ds (suc i) levels f
first_item_or_later d ds i levels f (zero, e, there, (g, is, holds)) = let same : e ≡ d = cc in inl (g, is ∙ ap (λ n. within (index n) g) (omega arith), subst (λ x. FlawHolds x levels g) same holds)
first_item_or_later d ds i levels f (suc j, e, there, (g, is, holds)) = inr (j, e, there, (g, is ∙ ap (λ n. within (index n) g) (omega arith), holds))

of_first_item_or_later : (d : Data) (ds : Items) (i levels : ℕ) (f : Flaw) → Within (index i) (FlawHolds d levels) f ⊎ ItemFlaw ds (suc i) levels f → ItemFlaw (item d ds) i levels f
of_first_item_or_later d ds i levels f (inl (g, is, holds)) = (0, d, refl, (g, is ∙ ap (λ n. within (index n) g) (omega arith), holds))
of_first_item_or_later d ds i levels f (inr (j, e, there, (g, is, holds))) = (suc j, e, there, (g, is ∙ ap (λ n. within (index n) g) (omega arith), holds))

first_member_or_later : (l : List ℕ) (d : Data) (ms : Members) (levels : ℕ) (f : Flaw) → MemberFlaw (member l d ms) levels f → Within (key l) (FlawHolds d levels) f ⊎ MemberFlaw ms levels f
first_member_or_later l d ms levels f (k, e, inl (name, same), (g, is, holds)) = inl (g, is ∙ ap (λ x. within (key x) g) name, subst (λ x. FlawHolds x levels g) same holds)
first_member_or_later l d ms levels f (k, e, inr later, wrong) = inr (k, e, later, wrong)

of_first_member_or_later : (l : List ℕ) (d : Data) (ms : Members) (levels : ℕ) (f : Flaw) → Within (key l) (FlawHolds d levels) f ⊎ MemberFlaw ms levels f → MemberFlaw (member l d ms) levels f
of_first_member_or_later l d ms levels f (inl wrong) = (l, d, inl (refl, refl), wrong)
of_first_member_or_later l d ms levels f (inr (k, e, later, wrong)) = (k, e, inr later, wrong)

-- ---- the first of all

part_before : (one other : PathPart) (f g inner outer : Flaw) → PartBefore one other → f ≡ within one inner → g ≡ within other outer → OuterBefore f.path g.path
part_before one other f g inner outer less is same = subst (λ (x : Flaw). OuterBefore f.path x.path) (sym same) (subst (λ (x : Flaw). OuterBefore x.path (other ∷ outer.path)) (sym is) (inl less))

item_before : (d : Data) (ds : Items) (i levels : ℕ) (f g : Flaw) → Within (index i) (FlawHolds d levels) f → ItemFlaw ds (suc i) levels g → OuterBefore f.path g.path
item_before d ds i levels f g (inner, is, wrong) (j, e, there, (outer, same, too)) = part_before (index i) (index (suc i + j)) f g inner outer (omega arith) is same

member_before : (l : List ℕ) (d : Data) (ms : Members) (levels : ℕ) → AllAbove l ms → (f g : Flaw) → Within (key l) (FlawHolds d levels) f → MemberFlaw ms levels g → OuterBefore f.path g.path
member_before l d ms levels less f g (inner, is, wrong) (k, e, has, (outer, same, too)) = part_before (key l) (key k) f g inner outer (above l k e ms less has) is same

mutual
  value_leads : (d : Data) (levels : ℕ) → Ascends d → Leads (flaws d levels) (FlawHolds d levels)
  value_leads (number n) levels h = number_leads (is_float n) n levels refl
  value_leads (array ds) zero h = nested_leads (array ds) tt
  value_leads (array ds) (suc levels) h = leads_as (ItemFlaw ds 0 levels) (FlawHolds (array ds) (suc levels)) (item_flaws ds 0 levels) (array_has ds levels) (λ f wrong. array_only ds levels f.kind f.path wrong) (items_lead ds 0 levels h)
  value_leads (object ms) zero h = nested_leads (object ms) tt
  value_leads (object ms) (suc levels) h = leads_as (MemberFlaw ms levels) (FlawHolds (object ms) (suc levels)) (member_flaws ms levels) (object_has ms levels) (λ f wrong. object_only ms levels f.kind f.path wrong) (members_lead ms levels h.0 h.1)
  value_leads d levels h = λ f wrong. none_itself d levels f.kind f.path (λ nested. nested) (λ float. float) wrong

  items_lead : (ds : Items) (i levels : ℕ) → ItemsAscend ds → Leads (item_flaws ds i levels) (ItemFlaw ds i levels)
  items_lead no_items i levels h = λ f wrong. let (j, e, there, holds) = wrong in absurd cc
  items_lead (item d ds) i levels h =
      leads_as (λ f. Within (index i) (FlawHolds d levels) f ⊎ ItemFlaw ds (suc i) levels f) (ItemFlaw (item d ds) i levels) (item_flaws (item d ds) i levels) (of_first_item_or_later d ds i levels) (first_item_or_later d ds i levels)
      (leads_joined (Within (index i) (FlawHolds d levels)) (ItemFlaw ds (suc i) levels) (map (within (index i)) (flaws d levels)) (item_flaws ds (suc i) levels)
      (leads_within (index i) (FlawHolds d levels) (flaws d levels) (value_leads d levels h.0))
      (items_lead ds (suc i) levels h.1)
      (item_before d ds i levels))

  members_lead : (ms : Members) (levels : ℕ) → IsInOrder ms → MembersAscend ms → Leads (member_flaws ms levels) (MemberFlaw ms levels)
  members_lead no_members levels order h = λ f wrong. let (k, e, has, holds) = wrong in absurd has
  members_lead (member l d ms) levels order h =
      leads_as (λ f. Within (key l) (FlawHolds d levels) f ⊎ MemberFlaw ms levels f) (MemberFlaw (member l d ms) levels) (member_flaws (member l d ms) levels) (of_first_member_or_later l d ms levels) (first_member_or_later l d ms levels)
      (leads_joined (Within (key l) (FlawHolds d levels)) (MemberFlaw ms levels) (map (within (key l)) (flaws d levels)) (member_flaws ms levels)
      (leads_within (key l) (FlawHolds d levels) (flaws d levels) (value_leads d levels h.0))
      (members_lead ms levels order.1 h.1)
      (member_before l d ms levels order.0))

pub first_tree_flaw : (d : Data) (flaw : Flaw) → Ascends d → refusal (flaws d MAX_LEVELS) ≡ Err flaw → IsFirstInTree d flaw
first_tree_flaw d flaw h e = first_told (FlawHolds d MAX_LEVELS) (flaws d MAX_LEVELS) flaw (value_leads d MAX_LEVELS h) e

pub no_tree_flaw : (d : Data) (flaw : Flaw) → Ascends d → flaws d MAX_LEVELS ≡ [] → ¬ IsTreeFlaw d flaw
no_tree_flaw d flaw h e = none_told (FlawHolds d MAX_LEVELS) (flaws d MAX_LEVELS) flaw (value_leads d MAX_LEVELS h) e
