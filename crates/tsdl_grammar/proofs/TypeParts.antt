-- The types of integers and structures from their parts: each type is made from its own parts, and what is made has the parts that are given.
use Rattle.std.proofs.Common.{◌≡◌, ℕ, ◌%◌, ◌<◌, ◌≤◌, Bool, true, false, eqb, ltb, leb, List, Option, Some, None, refl, sym, ap, subst, ◌∙◌}
use Rattle.std.specs.Coded.{le_prop}
use Rattle.std.proofs.Props.{props}
use Rattle.std.proofs.lemmas.Option.{same_Some}
use Rattle.std.proofs.lemmas.Bool.{lt-ltb, le-leb, eq-eqb, ltb-true, leb-true, eqb-true}
use Rattle.ctf_types.specs.{declared.Base.Base, declared.IntType.IntType, declared.MemberType.MemberType, declared.StructType.StructType}
use Rattle.ctf_types.specs.{Alignment.IsAlignment, declared.limits.TheConstants.LARGEST_ALIGN}
use Rattle.tsdl_grammar.specs.{Steps.proved, IntegerMeaning.int_type, StructureMeaning.struct_type}

proved_true : {A : Type 0} (b : Bool) (f : b ≡ true → Option A) (h : b ≡ true) → proved b f ≡ f h
proved_true true f h = let same : IsProp (true ≡ true) = hlevel props in ap f (same refl h)
proved_true false f h = absurd cc

proved_none : {A : Type 0} (b : Bool) (f : b ≡ true → Option A) → ((h : b ≡ true) → f h ≡ None) → proved b f ≡ None
proved_none true f none = none refl
proved_none false f none = refl

-- the proof that a test held, where it led to a case
proved_some : {A : Type 0} (b : Bool) (f : b ≡ true → Option A) (y : A) → proved b f ≡ Some y → (h : b ≡ true) × (f h ≡ Some y)
proved_some true f y e = (refl, e)
proved_some false f y e = absurd cc

-- an integer type is made of its own parts
pub int_type-own : (t : IntType) → int_type t.size t.align t.signed t.base t.clock ≡ Some t
unfolding int_type
int_type-own t =
    let made : (0 < t.size) → (t.size ≤ 64) → (0 < t.align) → (LARGEST_ALIGN % t.align ≡ 0) → IntType = λ a b c d. record { size = t.size; align = t.align; signed = t.signed; base = t.base; clock = t.clock; not_empty = a; at_most_64 = b; positive = c; power_of_two = d } in
    let set : IsProp (LARGEST_ALIGN % t.align ≡ 0) = hlevel props in
    let w = lt-ltb 0 t.size t.not_empty in let x = le-leb t.size 64 t.at_most_64 in let y = lt-ltb 0 t.align t.positive in let z = eq-eqb (LARGEST_ALIGN % t.align) 0 t.power_of_two in
    let a = ltb-true 0 t.size w in let b = leb-true t.size 64 x in let c = ltb-true 0 t.align y in let d = eqb-true (LARGEST_ALIGN % t.align) 0 z in
    proved_true (ltb 0 t.size) _ w ∙ proved_true (leb t.size 64) _ x ∙ proved_true (ltb 0 t.align) _ y ∙ proved_true (eqb (LARGEST_ALIGN % t.align) 0) _ z
    ∙ ap (λ (p : 0 < t.size). Some (made p b c d)) (le_prop a t.not_empty) ∙ ap (λ (p : t.size ≤ 64). Some (made t.not_empty p c d)) (le_prop b t.at_most_64)
    ∙ ap (λ (p : 0 < t.align). Some (made t.not_empty t.at_most_64 p d)) (le_prop c t.positive) ∙ ap (λ (p : LARGEST_ALIGN % t.align ≡ 0). Some (made t.not_empty t.at_most_64 t.positive p)) (set d t.power_of_two)

-- and of parts that are equal to these
pub int_type-gives : (t : IntType) (size align : ℕ) (signed : Bool) (base : Base) (clock : Option (List ℕ)) → t.size ≡ size → t.align ≡ align → t.signed ≡ signed → t.base ≡ base → t.clock ≡ clock → int_type size align signed base clock ≡ Some t
int_type-gives t size align signed base clock a b c d e = rw (sym a, sym b, sym c, sym d, sym e) (int_type-own t)

-- a structure type is made of its own parts
pub struct_type-own : (t : StructType) → struct_type t.members t.min_align ≡ Some t
unfolding struct_type
struct_type-own t =
    let made : (0 < t.min_align) → (LARGEST_ALIGN % t.min_align ≡ 0) → StructType = λ a b. record { members = t.members; min_align = t.min_align; positive = a; power_of_two = b } in
    let set : IsProp (LARGEST_ALIGN % t.min_align ≡ 0) = hlevel props in
    let y = lt-ltb 0 t.min_align t.positive in let z = eq-eqb (LARGEST_ALIGN % t.min_align) 0 t.power_of_two in
    let c = ltb-true 0 t.min_align y in let d = eqb-true (LARGEST_ALIGN % t.min_align) 0 z in
    proved_true (ltb 0 t.min_align) _ y ∙ proved_true (eqb (LARGEST_ALIGN % t.min_align) 0) _ z
    ∙ ap (λ (p : 0 < t.min_align). Some (made p d)) (le_prop c t.positive) ∙ ap (λ (p : LARGEST_ALIGN % t.min_align ≡ 0). Some (made t.positive p)) (set d t.power_of_two)

pub struct_type-gives : (t : StructType) (members : List (List ℕ × MemberType)) (align : ℕ) → t.members ≡ members → t.min_align ≡ align → struct_type members align ≡ Some t
struct_type-gives t members align a b = rw (sym a, sym b) (struct_type-own t)

-- what is made has the parts that are given
pub record HasParts (t : IntType) (size align : ℕ) (signed : Bool) (base : Base) (clock : Option (List ℕ)) : Type 0 where
  pub size_is : t.size ≡ size
  pub align_is : t.align ≡ align
  pub signed_is : t.signed ≡ signed
  pub base_is : t.base ≡ base
  pub clock_is : t.clock ≡ clock

pub int_type-parts : (size align : ℕ) (signed : Bool) (base : Base) (clock : Option (List ℕ)) (t : IntType) → int_type size align signed base clock ≡ Some t → HasParts t size align signed base clock
unfolding int_type
int_type-parts size align signed base clock t e =
    let w = proved_some (ltb 0 size) _ t e in let x = proved_some (leb size 64) _ t w.1 in
    let y = proved_some (ltb 0 align) _ t x.1 in let z = proved_some (eqb (LARGEST_ALIGN % align) 0) _ t y.1 in
    let made : IntType = record { size = size; align = align; signed = signed; base = base; clock = clock; not_empty = ltb-true 0 size w.0; at_most_64 = leb-true size 64 x.0; positive = ltb-true 0 align y.0; power_of_two = eqb-true (LARGEST_ALIGN % align) 0 z.0 } in
    subst (λ (u : IntType). HasParts u size align signed base clock) (same_Some made t z.1) (record { size_is = refl; align_is = refl; signed_is = refl; base_is = refl; clock_is = refl })

-- parts out of range make nothing
pub int_type-refuses : (size align : ℕ) (signed : Bool) (base : Base) (clock : Option (List ℕ)) → ((0 < size) × (size ≤ 64) × IsAlignment align → ⊥) → int_type size align signed base clock ≡ None
unfolding int_type
int_type-refuses size align signed base clock h =
    proved_none (ltb 0 size) _ (λ a. proved_none (leb size 64) _ (λ b. proved_none (ltb 0 align) _ (λ c. proved_none (eqb (LARGEST_ALIGN % align) 0) _ (λ d.
    absurd (h (ltb-true 0 size a, leb-true size 64 b, (ltb-true 0 align c, eqb-true (LARGEST_ALIGN % align) 0 d)))))))

pub struct_type-parts : (members : List (List ℕ × MemberType)) (align : ℕ) (t : StructType) → struct_type members align ≡ Some t → (t.members ≡ members) × (t.min_align ≡ align)
unfolding struct_type
struct_type-parts members align t e =
    let y = proved_some (ltb 0 align) _ t e in let z = proved_some (eqb (LARGEST_ALIGN % align) 0) _ t y.1 in
    let made : StructType = record { members = members; min_align = align; positive = ltb-true 0 align y.0; power_of_two = eqb-true (LARGEST_ALIGN % align) 0 z.0 } in
    subst (λ (u : StructType). (u.members ≡ members) × (u.min_align ≡ align)) (same_Some made t z.1) (refl, refl)

pub struct_type-refuses : (members : List (List ℕ × MemberType)) (align : ℕ) → (IsAlignment align → ⊥) → struct_type members align ≡ None
unfolding struct_type
struct_type-refuses members align h =
    proved_none (ltb 0 align) _ (λ c. proved_none (eqb (LARGEST_ALIGN % align) 0) _ (λ d. absurd (h (ltb-true 0 align c, eqb-true (LARGEST_ALIGN % align) 0 d))))
