-- Numbers in a buffer.
use Rattle.std.proofs.Common.{◌≡◌, ◌+◌, ◌-◌, ◌<◌, ◌≤◌, ◌∷◌, ◌∙◌, ℕ, List, ap, drop, set, length, arith}
use Rattle.std.proofs.lemmas.List.{drop-set}

-- a byte in front of what stands behind a place
pub in_front : (buffer left : List ℕ) (place b : ℕ) → 0 < place → place ≤ length buffer → drop place buffer ≡ left → drop (place - 1) (set buffer (place - 1) b) ≡ b ∷ left
in_front buffer left place b some within e =
    let next : place - 1 + 1 ≡ place = omega (arith, some) in
    drop-set buffer (place - 1) b (omega (arith, some, within)) ∙ ap (λ (n : ℕ). b ∷ drop n buffer) next ∙ ap (λ (w : List ℕ). b ∷ w) e
