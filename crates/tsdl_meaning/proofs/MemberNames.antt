-- Members by their names, structure types from their parts, and alignments.
use Rattle.std.proofs.Common.{ap, ◌∙◌, ◌≡◌, ℕ, ◌<◌, List, ◌∷◌, length, Contains, Bool, true, false, ◌||◌, Decides, refl, sym, subst, inl, inr, arith, bytes_eq, Some, None, get_or, ◌↔◌, ◌%◌, ◌≤◌, Option, IsSome, IfSome, ◌==◌, ◌&&◌, []}
use Rattle.std.proofs.lemmas.Map.Views.{Contains-from_any, list_any-from_Contains}
use Rattle.tsdl_meaning.proofs.TextWords.{Atom, IsBehindAlign, IsLargeAlignment, IsPassed, LARGEST_ALIGN, MemberType, Number, StructType, align_of, bytes_eq-Decides, cases_lt, false≢true, has_member, is_alignment, is_some, le-ltb, list_any, lt-ltb, names_in, nat_list_eq_equiv, nat_lt, natural, number_toks, position, position_or_len, provided, struct_type, ◌>>=◌}
use Rattle.std.proofs.lemmas.List.Sums.{position_or_len_is}
use Rattle.std.proofs.lemmas.Bool.Decides.{nat_tests}
use Rattle.std.proofs.Math.Nat.{mod-eq_of_lt}
use Rattle.tsdl_grammar.specs.declared.tree.Value.TheVariants as values
use Rattle.ctf_types.specs.Alignment.{IsAlignment}
use Rattle.tsdl_grammar.proofs.TypeParts.{struct_type-gives, struct_type-refuses}

-- a member of this name is found where the name is there
pub member_there : (w : List ℕ) (members : List (List ℕ × MemberType)) → has_member w members ≡ list_any (bytes_eq w) (names_in members)
member_there w [] = refl
member_there w (m ∷ ms) = ap (λ (b : Bool). bytes_eq w m.0 || b) (member_there w ms)

pub member_says : (w : List ℕ) (ms : List (List ℕ × MemberType)) → Decides (has_member w ms) (Contains (names_in ms) w)
member_says w ms = (
  λ h. Contains-from_any {eq = bytes_eq} (λ x y e. (bytes_eq-Decides x y).0 e) w (names_in ms) (sym (member_there w ms) ∙ h),
  λ there. member_there w ms ∙ list_any-from_Contains {eq = bytes_eq} nat_list_eq_equiv w (names_in ms) there,
)

-- the first index at which the test passes
pub first_place : {A : Type 0} (p : A → Bool) (xs : List A) (i : ℕ) (d : A) → i < length xs → ((k : ℕ) → k < i → p (get_or xs k d) ≡ false) → p (get_or xs i d) ≡ true → Some i ≡ position p xs
first_place p xs i d h before here =
    let e : position_or_len p xs ≡ i = position_or_len_is p xs i d (omega arith) before (λ _. here) in
    rw e (rw (lt-ltb i (length xs) h) refl)

pub no_place : {A : Type 0} (p : A → Bool) (xs : List A) (d : A) → ((k : ℕ) → k < length xs → p (get_or xs k d) ≡ false) → None ≡ position p xs
no_place p xs d before =
    let e : position_or_len p xs ≡ length xs = position_or_len_is p xs (length xs) d (omega arith) before (λ h. absurd (omega arith)) in
    rw e (rw (le-ltb (length xs) (length xs) (omega arith)) refl)

-- ---- structure types and alignments

pub struct_made : (r : Option StructType) (members : List (List ℕ × MemberType)) (align : ℕ) → (IsSome r ↔ IsAlignment align) → IfSome r (λ s. s.members ≡ members)
    → IfSome r (λ s. s.min_align ≡ align) → r ≡ struct_type members align
struct_made (Some t) members align accepted is aligned = sym (struct_type-gives t members align is aligned)
struct_made None members align accepted is aligned = sym (struct_type-refuses members align (λ h. absurd (false≢true (accepted.1 h))))

-- a divisor of the largest alignment is no larger
pub divisor_at_most : (a : ℕ) → LARGEST_ALIGN % a ≡ 0 → a ≤ LARGEST_ALIGN
divisor_at_most a h = elim (cases_lt LARGEST_ALIGN a) [ inl above ↦ (let e : LARGEST_ALIGN % a ≡ LARGEST_ALIGN = mod-eq_of_lt above in absurd (omega arith)) | inr below ↦ below ]

pub literal_is : (n : Number) (v : ℕ) → 0 < v → natural n ≡ Some v → n.literal ≡ v
literal_is n v some e = grind (arith, nat_tests, some, e)

pub large_align : (front : List Atom) (n : Number) (v : ℕ) → IsBehindAlign front → natural n ≡ Some v → LARGEST_ALIGN < v → IsPassed front (number_toks n)
large_align front n v ends e large =
    let l : n.literal ≡ v = literal_is n v (omega arith) e in
    let it : IsLargeAlignment front (number_toks n) = record { number = n; ends = ends; large = omega arith; here = refl } in
    inr (inr (inr (inl it)))

-- a number that is an alignment is one where it stands behind a structure
pub aligned_is : (n : Number) (v : ℕ) → natural n ≡ Some v → is_some (provided (nat_lt 0 v && (LARGEST_ALIGN % v == 0)) (Some v)) ≡ true → IsSome (align_of (Some n))
aligned_is n v e there = subst (λ (o : Option ℕ). IsSome (o >>= λ a. provided (nat_lt 0 a && (LARGEST_ALIGN % a == 0)) (Some a))) (sym e) there

-- a number that is none, and one below 0
pub unaligned_is : (n : Number) (v : ℕ) → natural n ≡ Some v → is_some (provided (nat_lt 0 v && (LARGEST_ALIGN % v == 0)) (Some v)) ≡ false → is_alignment (values.Number n) ≡ false
unaligned_is n v e none = grind (arith, e, none)

pub not_aligned : (n : Number) → is_some (natural n) ≡ false → is_alignment (values.Number n) ≡ false
not_aligned n e = grind (arith, e)
