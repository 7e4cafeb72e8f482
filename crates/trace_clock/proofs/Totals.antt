-- Totals over the views of all seats, where one view changes or one is added.
use Rattle.std.proofs.Common.{◌≡◌, ◌≢◌, ◌⊎◌, ℕ, zero, suc, ◌+◌, ◌≤◌, eqb, eq-eqb, ne_eqb, cond, List, [], ◌∷◌, ◌++◌, set, sym, ap, inl, inr, arith}
use mathlib.Core.Option.{some, some-injective, some-ne-none}
use mathlib.Core.Logic.{dite}
use native.Mathlib.Decide.{ℕ_discrete}
use lib.ListN.{get_elem?}
use Rattle.std.specs.List.{sum_by}
use Rattle.std.proofs.lemmas.List.Sums.{sum_by-cons, sum_by_push}
use Rattle.trace_clock.specs.History.{times}

module _ {X : Type 0} (f : X → ℕ) where
  pub total_set : (xs : List X) (i : ℕ) (v w : X) → get_elem? xs i ≡ some v → sum_by f (set xs i w) + f v ≡ sum_by f xs + f w
  total_set [] i v w e = absurd (some-ne-none v (sym e))
  total_set (x ∷ xs) zero v w e =
      let a = sum_by-cons f w xs in let b = sum_by-cons f x xs in let c = ap f (some-injective x v e) in
      omega (arith, a, b, c)
  total_set (x ∷ xs) (suc i) v w e =
      let a = sum_by-cons f x (set xs i w) in let b = sum_by-cons f x xs in let c = total_set xs i v w e in
      omega (arith, a, b, c)

  pub part_of_total : (xs : List X) (i : ℕ) (v : X) → get_elem? xs i ≡ some v → f v ≤ sum_by f xs
  part_of_total [] i v e = absurd (some-ne-none v (sym e))
  part_of_total (x ∷ xs) zero v e = let b = sum_by-cons f x xs in let c = ap f (some-injective x v e) in omega (arith, b, c)
  part_of_total (x ∷ xs) (suc i) v e = let b = sum_by-cons f x xs in let c = part_of_total xs i v e in omega (arith, b, c)

-- once for the number itself, and not for another
abbrev pub is_once : ℕ → ℕ → ℕ
is_once n x = cond (eqb n x) 1 0

pub once_same : (n x : ℕ) → n ≡ x → is_once n x ≡ 1
once_same n x e = ap (λ b. cond b 1 0) (eq-eqb n x e)

pub once_other : (n x : ℕ) → n ≢ x → is_once n x ≡ 0
once_other n x e = ap (λ b. cond b 1 0) (ne_eqb n x e)

pub same_or_other : (n x : ℕ) → ((n ≡ x) × (is_once n x ≡ 1)) ⊎ ((n ≢ x) × (is_once n x ≡ 0))
same_or_other n x = dite (ℕ_discrete n x) (λ e. inl (e, once_same n x e)) (λ e. inr (e, once_other n x e))

pub times_push : (x : ℕ) (xs : List ℕ) (n : ℕ) → times x (xs ++ n ∷ []) ≡ times x xs + is_once n x
times_push x xs n = sum_by_push (λ y. cond (eqb y x) 1 0) xs n
