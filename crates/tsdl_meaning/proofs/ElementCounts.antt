-- How many elements arrays in one another have: at least 1, and as many as any of them.
use Rattle.std.proofs.Common.{◌≡◌, ℕ, ◌*◌, ◌≤◌, List, ◌∷◌, ◌++◌, get_or, max, min, sym, ap, ◌∙◌, arith, []}
use Rattle.std.proofs.Math.Nat.{mul-le-mul_left, mul_assoc}
use Rattle.tsdl_meaning.proofs.TextWords.{elements_of}

product_at_least : (a b : ℕ) → 1 ≤ b → a ≤ a * b
product_at_least a b h = omega (arith, mul-le-mul_left a h)

pub one_at_least : (ns : List ℕ) → 1 ≤ elements_of ns
unfolding elements_of
one_at_least [] = omega arith
one_at_least (n ∷ ns) = omega (arith, product_at_least (max 1 n) (elements_of ns) (one_at_least ns))

pub first_at_most : (ns : List ℕ) → get_or ns 0 0 ≤ elements_of ns
unfolding elements_of
first_at_most [] = omega arith
first_at_most (n ∷ ns) = omega (arith, product_at_least (max 1 n) (elements_of ns) (one_at_least ns))

pub elements_behind : (ns : List ℕ) (n : ℕ) → elements_of (ns ++ n ∷ []) ≡ elements_of ns * max n 1
unfolding elements_of
elements_behind [] n = omega arith
elements_behind (m ∷ ns) n = ap (λ (k : ℕ). max 1 m * k) (elements_behind ns n) ∙ sym (mul_assoc (max 1 m) (elements_of ns) (max n 1))

capped_at : (most a b : ℕ) → 1 ≤ b → min (min a most * b) most ≡ min (a * b) most
capped_at most a b h = grind (arith, product_at_least most b h, product_at_least a b h)

-- one more array, where what is counted stands still at a limit
pub capped : (most : ℕ) (ns : List ℕ) (n : ℕ) → min (min (elements_of ns) most * max n 1) most ≡ min (elements_of (ns ++ n ∷ [])) most
capped most ns n = capped_at most (elements_of ns) (max n 1) (omega arith) ∙ ap (λ (k : ℕ). min k most) (sym (elements_behind ns n))
