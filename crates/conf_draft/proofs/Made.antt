-- The types of integers and structures from their parts: each type is made from its own parts, and what is made has parts in
-- range.
use Rattle.std.proofs.Common.{◌≡◌, ℕ, ◌%◌, ◌<◌, ◌≤◌, Bool, true, false, eqb, ltb, leb, List, Option, Some, None, IsSome, IfSome, refl, sym, subst, ap, ◌∙◌, arith, eq-eqb, inl, inr}
use Rattle.std.proofs.Math.Nat.{mod-eq_of_lt}
use Rattle.std.specs.Coded.{le_prop}
use Rattle.std.proofs.Props.{props}
use Rattle.std.proofs.lemmas.Bool.Decides.{nat_tests}
use Rattle.std.proofs.lemmas.Bool.{lt-ltb, ltb-true, leb-true, eqb-true, false≢true, cases_lt}
use Rattle.ctf_types.specs.declared.Base.{Base}
use Rattle.ctf_types.specs.declared.IntType.{IntType}
use Rattle.ctf_types.specs.declared.MemberType.{MemberType}
use Rattle.ctf_types.specs.declared.StructType.{StructType}
use Rattle.conf_values.specs.Parts.{proved}
use Rattle.conf_draft.specs.Integers.{made as made_integer}
use Rattle.conf_draft.specs.Structures.{made as made_structure}

-- what holds of a value that is there
pub here : {A : Type 0} (P : A → Type 0) (o : Option A) (x : A) → o ≡ Some x → IfSome o P → P x
here P o x is h = subst (λ q. IfSome q P) is h

proved_true : {A : Type 0} (b : Bool) (f : b ≡ true → Option A) (h : b ≡ true) → proved b f ≡ f h
proved_true true f h = let same : IsProp (true ≡ true) = hlevel props in ap f (same refl h)
proved_true false f h = absurd cc

-- the proof that a test held, where it led to a case
proved_some : {A : Type 0} (b : Bool) (f : b ≡ true → Option A) → IsSome (proved b f) → (h : b ≡ true) × IsSome (f h)
proved_some true f there = (refl, there)
proved_some false f there = absurd (false≢true there)

le-leb : (m n : ℕ) → m ≤ n → leb m n ≡ true
le-leb m n h = grind (arith, nat_tests)

-- an integer type is made of its own parts, where it is mapped to no clock
integer-own : (t : IntType) → t.clock ≡ None → made_integer t.size t.align t.signed t.base ≡ Some t
unfolding made_integer
integer-own t none =
    let made : (o : Option (List ℕ)) → (0 < t.size) → (t.size ≤ 64) → (0 < t.align) → (4096 % t.align ≡ 0) → IntType = λ o a b c d. record { size = t.size; align = t.align; signed = t.signed; base = t.base; clock = o; not_empty = a; at_most_64 = b; positive = c; power_of_two = d } in
    let set : IsProp (4096 % t.align ≡ 0) = hlevel props in
    let w = lt-ltb 0 t.size t.not_empty in let x = le-leb t.size 64 t.at_most_64 in let y = lt-ltb 0 t.align t.positive in let z = eq-eqb (4096 % t.align) 0 t.power_of_two in
    let a = ltb-true 0 t.size w in let b = leb-true t.size 64 x in let c = ltb-true 0 t.align y in let d = eqb-true (4096 % t.align) 0 z in
    proved_true (ltb 0 t.size) _ w ∙ proved_true (leb t.size 64) _ x ∙ proved_true (ltb 0 t.align) _ y ∙ proved_true (eqb (4096 % t.align) 0) _ z
    ∙ ap (λ (p : 0 < t.size). Some (made None p b c d)) (le_prop a t.not_empty) ∙ ap (λ (p : t.size ≤ 64). Some (made None t.not_empty p c d)) (le_prop b t.at_most_64)
    ∙ ap (λ (p : 0 < t.align). Some (made None t.not_empty t.at_most_64 p d)) (le_prop c t.positive) ∙ ap (λ (p : 4096 % t.align ≡ 0). Some (made None t.not_empty t.at_most_64 t.positive p)) (set d t.power_of_two)
    ∙ ap (λ o. Some (made o t.not_empty t.at_most_64 t.positive t.power_of_two)) (sym none)

-- and of parts that are equal to these
pub integer_made : (t : IntType) (size align : ℕ) (signed : Bool) (base : Base) → t.size ≡ size → t.align ≡ align → t.signed ≡ signed → t.base ≡ base → t.clock ≡ None → made_integer size align signed base ≡ Some t
integer_made t size align signed base a b c d e = rw (sym a, sym b, sym c, sym d) (integer-own t e)

-- a structure type is made of its own parts
structure-own : (t : StructType) → made_structure t.members t.min_align ≡ Some t
unfolding made_structure
structure-own t =
    let made : (0 < t.min_align) → (4096 % t.min_align ≡ 0) → StructType = λ a b. record { members = t.members; min_align = t.min_align; positive = a; power_of_two = b } in
    let set : IsProp (4096 % t.min_align ≡ 0) = hlevel props in
    let y = lt-ltb 0 t.min_align t.positive in let z = eq-eqb (4096 % t.min_align) 0 t.power_of_two in
    let c = ltb-true 0 t.min_align y in let d = eqb-true (4096 % t.min_align) 0 z in
    proved_true (ltb 0 t.min_align) _ y ∙ proved_true (eqb (4096 % t.min_align) 0) _ z
    ∙ ap (λ (p : 0 < t.min_align). Some (made p d)) (le_prop c t.positive) ∙ ap (λ (p : 4096 % t.min_align ≡ 0). Some (made t.positive p)) (set d t.power_of_two)

pub structure_made : (t : StructType) (members : List (List ℕ × MemberType)) (align : ℕ) → t.members ≡ members → t.min_align ≡ align → made_structure members align ≡ Some t
structure_made t members align a b = rw (sym a, sym b) (structure-own t)

-- ---- parts in range

pub record AreParts (size align : ℕ) : Type 0 where
  pub not_empty : 0 < size
  pub at_most_64 : size ≤ 64
  pub positive : 0 < align
  pub power_of_two : 4096 % align ≡ 0

pub integer_parts : (size align : ℕ) (signed : Bool) (base : Base) → IsSome (made_integer size align signed base) → AreParts size align
unfolding made_integer
integer_parts size align signed base there =
    let w = proved_some (ltb 0 size) _ there in let x = proved_some (leb size 64) _ w.1 in
    let y = proved_some (ltb 0 align) _ x.1 in let z = proved_some (eqb (4096 % align) 0) _ y.1 in
    record { not_empty = ltb-true 0 size w.0; at_most_64 = leb-true size 64 x.0; positive = ltb-true 0 align y.0; power_of_two = eqb-true (4096 % align) 0 z.0 }

pub structure_parts : (members : List (List ℕ × MemberType)) (align : ℕ) → IsSome (made_structure members align) → (0 < align) × (4096 % align ≡ 0)
unfolding made_structure
structure_parts members align there =
    let y = proved_some (ltb 0 align) _ there in let z = proved_some (eqb (4096 % align) 0) _ y.1 in
    (ltb-true 0 align y.0, eqb-true (4096 % align) 0 z.0)

-- a divisor of 4,096 is at most 4,096
pub divisor_small : (align : ℕ) → 4096 % align ≡ 0 → align ≤ 4096
divisor_small align h = elim (cases_lt 4096 align) [
  | inl past ↦ absurd (let whole : 4096 % align ≡ 4096 = mod-eq_of_lt past in omega (arith, whole, h))
  | inr within ↦ within
]
