-- The names of members: which are there, and that no two are equal.
use Rattle.std.proofs.Common.{◌≡◌, ℕ, ◌+◌, ◌<◌, suc, zero, List, [], ◌∷◌, ◌++◌, length, take, position, slice_get, slice_index_or, Option, Some, None, option_map, is_some, Contains, Bool, true, false, cond, not, nat_lt, if◌then◌else◌, Decides, refl, sym, ap, subst, ◌∙◌, ◌⊎◌, inl, inr, arith}
use Rattle.std.specs.List.{IsDistinct, AllByRecursion, prefix_len}
use Rattle.std.specs.Map.{lookup, keys_of}
use Rattle.std.specs.Str.{bytes_eq}
use Rattle.std.specs.String.{string_bytes, string_eq}
use Rattle.std.specs.declared.string.String.{String}
use Rattle.std.specs.declared.alloc.Global.{Global}
use Rattle.std.proofs.lemmas.Bool.{false≢true}
use Rattle.std.proofs.lemmas.List.{map-append}
use Rattle.std.proofs.lemmas.Option.{none-some, same_Some}
use Rattle.std.proofs.lemmas.Slice.Eq.{bytes_eq-Decides}
use Rattle.data_types.specs.declared.member_type.MemberType.{MemberType}
use Rattle.data_types.specs.Members.{named_members, names_in}

-- the entries of the map that holds the members
abbrev pub Entries : Type 0
Entries = List (String Global × MemberType)

contains_first : {X : Type 0} (x : X) (xs : List X) → Contains (x ∷ xs) x
contains_first x xs = (0, omega arith, refl)

contains_later : {X : Type 0} (x y : X) (xs : List X) → Contains xs y → Contains (x ∷ xs) y
contains_later x y xs w = (suc w.0, omega (arith, w.1), w.2)

contains_cases : {X : Type 0} (x y : X) (xs : List X) → Contains (x ∷ xs) y → (x ≡ y) ⊎ Contains xs y
contains_cases {X} x y xs w = by w.0 w.1 w.2
  where
    by : (k : ℕ) → k < length (x ∷ xs) → slice_index_or (x ∷ xs) k y ≡ y → (x ≡ y) ⊎ Contains xs y
    by zero h e = inl e
    by (suc k) h e = inr (k, omega arith, e)

-- a look-up by a name finds one exactly where the name is there
pub found_says : (n : List ℕ) (es : Entries) → Decides (is_some (lookup (λ k. bytes_eq n (string_bytes k)) es)) (Contains (names_in (named_members es)) n)
found_says n [] = (λ h. absurd (false≢true h), λ w. absurd (omega (arith, w.1)))
found_says n (e ∷ es) = by (bytes_eq n (string_bytes e.0)) (bytes_eq-Decides n (string_bytes e.0)) (found_says n es)
  where
    by : (b : Bool) → Decides b (n ≡ string_bytes e.0)
        → Decides (is_some (lookup (λ k. bytes_eq n (string_bytes k)) es)) (Contains (names_in (named_members es)) n)
        → Decides (is_some (cond b (Some e.1) (lookup (λ k. bytes_eq n (string_bytes k)) es))) (Contains (names_in (named_members (e ∷ es))) n)
    by true d rest = (λ _. subst (λ x. Contains (x ∷ names_in (named_members es)) n) (d.0 refl) (contains_first n (names_in (named_members es))), λ _. refl)
    by false d rest = (
      λ h. contains_later (string_bytes e.0) n (names_in (named_members es)) (rest.0 h),
      λ w. elim (contains_cases (string_bytes e.0) n (names_in (named_members es)) w) [ inl q ↦ absurd (false≢true (d.1 (sym q))) | inr v ↦ rest.1 v ],
    )

pub not_found : (n : List ℕ) (es : Entries) → (Contains (names_in (named_members es)) n → ⊥) → lookup (λ k. bytes_eq n (string_bytes k)) es ≡ None
not_found n es missing = by (lookup (λ k. bytes_eq n (string_bytes k)) es) (λ h. missing ((found_says n es).0 h))
  where
    by : (o : Option MemberType) → (is_some o ≡ true → ⊥) → o ≡ None
    by None h = refl
    by (Some x) h = absurd (h refl)

pub named_push : (es : Entries) (k : String Global) (t : MemberType) (n : List ℕ) → string_bytes k ≡ n → named_members (es ++ (k, t) ∷ []) ≡ named_members es ++ (n, t) ∷ []
named_push es k t n h = map-append (λ e. (string_bytes e.0, e.1)) es ((k, t) ∷ []) ∙ ap (λ x. named_members es ++ (x, t) ∷ []) h

prefix_named : (p : List ℕ → Bool) (es : Entries) → prefix_len (λ k. p (string_bytes k)) (keys_of es) ≡ prefix_len p (names_in (named_members es))
prefix_named p [] = refl
prefix_named p (e ∷ es) = ap (λ n. if p (string_bytes e.0) then 1 + n else 0) (prefix_named p es)

length_named : (es : Entries) → length (keys_of es) ≡ length (names_in (named_members es))
length_named [] = refl
length_named (e ∷ es) = ap suc (length_named es)

pub position_named : (p : List ℕ → Bool) (es : Entries) → position (λ k. p (string_bytes k)) (keys_of es) ≡ position p (names_in (named_members es))
position_named p es = λ i.
    let n = prefix_named (λ x. not (p x)) es i in
    cond (nat_lt n (length_named es i)) (Some n) None

-- the names differ where the map's keys do
differ_named : (x : String Global) (es : Entries) → AllByRecursion (λ y. string_eq x y ≡ false) (keys_of es) → AllByRecursion (λ y. bytes_eq (string_bytes x) y ≡ false) (names_in (named_members es))
differ_named x [] h = tt
differ_named x (e ∷ es) h = (h.0, differ_named x es h.1)

pub distinct_named : (es : Entries) → IsDistinct string_eq (keys_of es) → IsDistinct bytes_eq (names_in (named_members es))
unfolding IsDistinct
distinct_named [] h = tt
distinct_named (e ∷ es) h = (differ_named e.0 es h.0, distinct_named es h.1)

-- and then a name isn't among those before it
differ_at : (x : List ℕ) (ms : List (List ℕ × MemberType)) (i : ℕ) (n : List ℕ) → AllByRecursion (λ y. bytes_eq x y ≡ false) (names_in ms)
    → option_map (λ m. m.0) (slice_get ms i) ≡ Some n → bytes_eq x n ≡ false
differ_at x [] i n h e = absurd (none-some n e)
differ_at x (m ∷ ms) zero n h e = ap (bytes_eq x) (sym (same_Some m.0 n e)) ∙ h.0
differ_at x (m ∷ ms) (suc i) n h e = differ_at x ms i n h.1 e

pub not_before : (ms : List (List ℕ × MemberType)) (i : ℕ) (n : List ℕ) → IsDistinct bytes_eq (names_in ms) → option_map (λ m. m.0) (slice_get ms i) ≡ Some n
    → Contains (names_in (take i ms)) n → ⊥
unfolding IsDistinct
not_before [] i n d e w = absurd (none-some n e)
not_before (m ∷ ms) zero n d e w = omega (arith, w.1)
not_before (m ∷ ms) (suc i) n d e w =
    elim (contains_cases m.0 n (names_in (take i ms)) w) [
      | inl q ↦ false≢true (sym (differ_at m.0 ms i n d.0 e) ∙ (bytes_eq-Decides m.0 n).1 q)
      | inr v ↦ not_before ms i n d.1 e v
    ]

-- one more member
pub take_one_more : (ms : List (List ℕ × MemberType)) (i : ℕ) (n : List ℕ) (t : MemberType) → option_map (λ m. m.0) (slice_get ms i) ≡ Some n → option_map (λ m. m.1) (slice_get ms i) ≡ Some t
    → take (suc i) ms ≡ take i ms ++ (n, t) ∷ []
take_one_more [] i n t e f = absurd (none-some n e)
take_one_more (m ∷ ms) zero n t e f = λ j. (same_Some m.0 n e j, same_Some m.1 t f j) ∷ []
take_one_more (m ∷ ms) (suc i) n t e f = ap (λ x. m ∷ x) (take_one_more ms i n t e f)
