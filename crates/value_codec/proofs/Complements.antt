-- Two's complement (CTF 1.8.3, section 4.1.5): the bits of a signed number as code computes them.
use Rattle.std.proofs.Common.{◌≡◌, ℕ, zero, suc, ◌-◌, ◌*◌, ◌/◌, ◌^◌, ◌<◌, ◌≤◌, true, false, ℤ, pos, negsuc, ◌-ℤ◌, nat_abs, refl, ap, ◌∙◌, subst, arith}
use Rattle.std.proofs.Math.Nat.{pow-suc}
use Rattle.std.proofs.lemmas.Bool.{cond-true, cond-false, lt-ltb, le-ltb, leb-false, false≢true}
use Rattle.std.proofs.lemmas.Int.{ints, to_z-of_z}
use Rattle.std.proofs.lemmas.Nat.Bits.{ones_shr}
use Rattle.std.specs.Prelude.{nat_lt}
use Rattle.ctf_types.specs.Bits.{signed_of}
use mir.Syntax.{w64}
use mir.Val.{SFits, of_z, to_z}
use lib.Signed.{le_z}

-- a number that is not negative is its own complement
pub signed_of-pos : (n m : ℕ) → 2 * m < 2 ^ n → signed_of n m ≡ pos m
unfolding signed_of
signed_of-pos n m low = cond-true (nat_lt (2 * m) (2 ^ n)) _ _ (lt-ltb (2 * m) (2 ^ n) low)

-- the complement of a negative number
pub signed_of-negsuc : (n m : ℕ) → 0 < n → 2 * m < 2 ^ n → signed_of n (2 ^ n - 1 - m) ≡ negsuc m
unfolding signed_of
signed_of-negsuc zero m some low = absurd (omega arith)
signed_of-negsuc (suc k) m some low =
    let even : 2 ^ suc k ≡ 2 * 2 ^ k = omega (arith, pow-suc 2 k) in
    let high : 2 ^ suc k ≤ 2 * (2 ^ suc k - 1 - m) = omega arith in
    cond-false (nat_lt (2 * (2 ^ suc k - 1 - m)) (2 ^ suc k)) _ _ (le-ltb (2 * (2 ^ suc k - 1 - m)) (2 ^ suc k) high) ∙ omega (arith, ints)

-- as many ones as a size says
pub ones_of_size : (n : ℕ) → n ≤ 64 → 18446744073709551615 / 2 ^ (64 - n) ≡ 2 ^ n - 1
ones_of_size n within =
    let size : 64 - (64 - n) ≡ n = omega arith in
    ones_shr 64 (64 - n) (omega arith) ∙ ap (λ k. 2 ^ k - 1) size

-- a number that is negative, and the number below it as code computes it
pub negative : (z : ℤ) → SFits w64 z → le_z (pos 0) (to_z w64 (of_z w64 z)) ≡ false
    → (m : ℕ) × (z ≡ negsuc m) × (nat_abs (to_z w64 (of_z w64 (negsuc 0 -ℤ to_z w64 (of_z w64 z)))) ≡ m)
negative (pos n) fits below =
    let same : to_z w64 (of_z w64 (pos n)) ≡ pos n = to_z-of_z w64 (pos n) fits in
    let under : n < 0 = leb-false 0 n (subst (λ (x : ℤ). le_z (pos 0) x ≡ false) same below) in
    absurd (omega arith)
negative (negsuc m) fits below =
    let same : to_z w64 (of_z w64 (negsuc m)) ≡ negsuc m = to_z-of_z w64 (negsuc m) fits in
    let minus : negsuc 0 -ℤ negsuc m ≡ pos m = omega (arith, ints) in
    let fits_pos : SFits w64 (pos m) = record { sfits = fits.sfits } in
    let abs : nat_abs (to_z w64 (of_z w64 (negsuc 0 -ℤ to_z w64 (of_z w64 (negsuc m))))) ≡ m =
    ap nat_abs (ap (λ (x : ℤ). to_z w64 (of_z w64 (negsuc 0 -ℤ x))) same ∙ ap (λ (x : ℤ). to_z w64 (of_z w64 x)) minus ∙ to_z-of_z w64 (pos m) fits_pos) in
    (m, refl, abs)

-- a number that is not negative, as code computes it
pub not_negative : (z : ℤ) → SFits w64 z → le_z (pos 0) (to_z w64 (of_z w64 z)) ≡ true
    → (m : ℕ) × (z ≡ pos m) × (nat_abs (to_z w64 (of_z w64 z)) ≡ m)
not_negative (pos n) fits above = (n, refl, ap nat_abs (to_z-of_z w64 (pos n) fits))
not_negative (negsuc m) fits above =
    let same : to_z w64 (of_z w64 (negsuc m)) ≡ negsuc m = to_z-of_z w64 (negsuc m) fits in
    let above : false ≡ true = subst (λ (x : ℤ). le_z (pos 0) x ≡ true) same above in
    absurd (false≢true above)
