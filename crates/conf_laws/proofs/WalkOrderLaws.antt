-- Which of two ways of a walk is before the other; and that a list has the first of the flaws that stand at some ways, where it is made of
-- parts that have the first of theirs.
use Rattle.std.proofs.Common.{◌≡◌, ◌⊎◌, ◌≤◌, ℕ, suc, List, [], ◌∷◌, ◌++◌, map, Result, Ok, Err, inl, inr, refl, sym, ap, subst, ◌∙◌, arith}
use Rattle.conf_laws.specs.FlawOrder.{NameBefore, BeforeAtTurn}
use Rattle.conf_laws.specs.WalkOrder.{Turn, what_it_holds, rank, OneBefore, WayBefore}
use Rattle.conf_laws.proofs.ValueFlawLaws.{IsJudged}
use Rattle.conf_laws.proofs.Words.{AllAbove, Flaw, PathPart, within, ◌>>=◌, HasMember, told_by, Data, Members, no_members, member, ⊤}

-- ---- ways that part

-- of two that a value lacks, or holds
pub one_before : (t u : Turn) (way other p q : List Turn) → OneBefore t u → p ≡ t ∷ way → q ≡ u ∷ other → WayBefore p q
one_before t u way other p q less is same = subst (WayBefore p) (sym same) (subst (λ w. WayBefore w (u ∷ other)) (sym is) (inl (inr less)))

-- the turn with which a way begins is of this rank or of a later one, or of this rank or of an earlier one
abbrev pub From : ℕ → List Turn → Type 0
From n [] = ⊥
From n (t ∷ way) = n ≤ rank t

abbrev pub UpTo : ℕ → List Turn → Type 0
UpTo n [] = ⊥
UpTo n (t ∷ way) = rank t ≤ n

pub from_turn : (t : Turn) (n : ℕ) (q way : List Turn) → q ≡ t ∷ way → n ≤ rank t → From n q
from_turn t n q way is least = subst (From n) (sym is) least

pub up_to_turn : (t : Turn) (n : ℕ) (q way : List Turn) → q ≡ t ∷ way → rank t ≤ n → UpTo n q
up_to_turn t n q way is most = subst (UpTo n) (sym is) most

pub from_less : (n m : ℕ) (q : List Turn) → n ≤ m → From m q → From n q
from_less n m (t ∷ q) less h = omega (arith, less, h)
from_less n m [] less h = absurd h

pub rank_before : (n : ℕ) (p q : List Turn) → UpTo n p → From (suc n) q → WayBefore p q
rank_before n (t ∷ p) (u ∷ q) most least = inl (inl (omega (arith, most, least)))
rank_before n (t ∷ p) [] most least = absurd least
rank_before n [] q most least = absurd most

pub one_turn : (t : Turn) (n : ℕ) (p q : List Turn) → p ≡ t ∷ [] → rank t ≤ n → From (suc n) q → WayBefore p q
one_turn t n p q is most least = rank_before n p q (up_to_turn t n p [] is most) least

-- where all names are above one, so is that of each member
pub above : (k l : List ℕ) (d : Data) (ms : Members) → AllAbove k ms → HasMember l d ms → NameBefore k l
above k l d no_members h has = absurd has
above k l d (member m e ms) h (inl (same, is)) = subst (NameBefore k) (sym same) h.0
above k l d (member m e ms) h (inr has) = above k l d ms h.1 has

-- ---- the first of several flaws

-- at one turn a flaw is the same as another, or before it
abbrev pub IsSameOrBefore : Flaw → Flaw → Type 0
IsSameOrBefore f g = (f ≡ g) ⊎ BeforeAtTurn f g

-- what a reading refuses is the first of these
abbrev pub TellsFirst : Result ⊤ Flaw → (Flaw → Type 0) → Type 0
TellsFirst r P = (flaw : Flaw) → r ≡ Err flaw → (other : Flaw) → P other → IsSameOrBefore flaw other

-- there is one of these at most
abbrev pub IsAlone : (Flaw → Type 0) → Type 0
IsAlone P = (f g : Flaw) → P f → P g → f ≡ g

pub alone_first : (P : Flaw → Type 0) (r : Result ⊤ Flaw) → IsJudged r P → IsAlone P → TellsFirst r P
alone_first P (Ok x) h alone = λ flaw e other wrong. absurd cc
alone_first P (Err told) h alone = λ flaw e other wrong. let same : told ≡ flaw = cc in inl (sym same ∙ alone told other h wrong)

-- the first of the list stands, at these ways, before all others, and before the others at its own way; the list is empty where none
-- stands there
abbrev pub Leads : List Flaw → (List Turn → Flaw → Type 0) → Type 0
Leads [] P = (q : List Turn) (f : Flaw) → ¬ P q f
Leads (g ∷ rest) P = (p : List Turn) × P p g × ((q : List Turn) (f : Flaw) → P q f → WayBefore p q ⊎ ((p ≡ q) × IsSameOrBefore g f))

-- of a reading at one turn
pub leads_judged : (t : Turn) (P : Flaw → Type 0) (r : Result ⊤ Flaw) → IsJudged r P → TellsFirst r P → Leads (told_by r) (λ q f. (q ≡ t ∷ []) × P f)
leads_judged t P (Ok x) h first = λ q f wrong. h f wrong.1
leads_judged t P (Err flaw) h first = (t ∷ [], (refl, h), λ q f wrong. inr (sym wrong.0, first flaw refl f wrong.1))

-- of two parts, of which the one is before the other
pub leads_joined : (A B : List Turn → Flaw → Type 0) (xs ys : List Flaw) → Leads xs A → Leads ys B → ((p q : List Turn) (f g : Flaw) → A p f → B q g → WayBefore p q) → Leads (xs ++ ys) (λ q f. A q f ⊎ B q f)
leads_joined A B [] [] h k before = λ q f wrong. elim wrong [ inl a ↦ h q f a | inr b ↦ k q f b ]
leads_joined A B [] (y ∷ ys) h k before = (k.0, inr k.1, λ q f wrong. elim wrong [ inl a ↦ absurd (h q f a) | inr b ↦ k.2 q f b ])
leads_joined A B (x ∷ xs) ys h k before = (h.0, inl h.1, λ q f wrong. elim wrong [ inl a ↦ h.2 q f a | inr b ↦ inl (before h.0 q x f h.1 b) ])

-- of two readings, the second only where the first goes well
pub leads_then : (A B : List Turn → Flaw → Type 0) (r second : Result ⊤ Flaw) → Leads (told_by r) A → Leads (told_by second) B → ((p q : List Turn) (f g : Flaw) → A p f → B q g → WayBefore p q) → Leads (told_by (r >>= (λ _. second))) (λ q f. A q f ⊎ B q f)
leads_then A B (Ok x) second h k before = leads_joined A B [] (told_by second) h k before
leads_then A B (Err g) second h k before = (h.0, inl h.1, λ q f wrong. elim wrong [ inl a ↦ h.2 q f a | inr b ↦ inl (before h.0 q g f h.1 b) ])

-- what stands at a way within a part
abbrev pub Within : PathPart → (List Turn → Flaw → Type 0) → List Turn → Flaw → Type 0
Within part A q f = (p : List Turn) × (g : Flaw) × (q ≡ what_it_holds part ∷ p) × (f ≡ within part g) × A p g

same_or_before_within : (part : PathPart) (f g : Flaw) → IsSameOrBefore f g → IsSameOrBefore (within part f) (within part g)
same_or_before_within part f g (inl same) = inl (ap (within part) same)
same_or_before_within part f g (inr (inl inner)) = inr (inl (inr (refl, inner)))
same_or_before_within part f g (inr (inr (path, kind))) = inr (inr (ap (λ x. part ∷ x) path, kind))

pub leads_within : (part : PathPart) (A : List Turn → Flaw → Type 0) (xs : List Flaw) → Leads xs A → Leads (map (within part) xs) (Within part A)
leads_within part A [] h = λ q f wrong. h wrong.0 wrong.1 wrong.4
leads_within part A (x ∷ xs) h = (what_it_holds part ∷ h.0, (h.0, x, refl, refl, h.1), after)
  where
    after : (q : List Turn) (f : Flaw) → Within part A q f → WayBefore (what_it_holds part ∷ h.0) q ⊎ ((what_it_holds part ∷ h.0 ≡ q) × IsSameOrBefore (within part x) f)
    after q f (p, g, is, seen, wrong) = elim (h.2 p g wrong) [
      | inl less ↦ inl (subst (WayBefore (what_it_holds part ∷ h.0)) (sym is) (inr (refl, less)))
      | inr (same, first) ↦ inr (ap (λ w. what_it_holds part ∷ w) same ∙ sym is, subst (IsSameOrBefore (within part x)) (sym seen) (same_or_before_within part x g first))
    ]

-- of those of a value where something holds
pub leads_where : (E : Type 0) (A : List Turn → Flaw → Type 0) (xs : List Flaw) → E → Leads xs A → Leads xs (λ q f. E × A q f)
leads_where E A [] e h = λ q f wrong. h q f wrong.1
leads_where E A (x ∷ xs) e h = (h.0, (e, h.1), λ q f wrong. h.2 q f wrong.1)
