-- The signed number of a two's complement, by the half of its range.
use Rattle.std.proofs.Common.{◌≡◌, ℕ, suc, zero, ◌-◌, ◌*◌, ◌%◌, ◌^◌, ◌<◌, ◌≤◌, false, ltb, lit<, mod-eq_of_lt, pos, negsuc, ◌-ℤ◌, w64, to_z, of_z, sym, ◌∙◌, arith, rules, tests}
use Rattle.std.proofs.Math.Nat.{pow-suc, pow-le-pow_right, one-mul}
use Rattle.std.proofs.lemmas.Nat.{pow_below}
use Rattle.std.proofs.lemmas.Int.{ints, to_z-of_z, to_z_pos}
use Rattle.ctf_types.specs.Bits.{signed_of}

-- a number of n bits is below twice the half of their range
twice_half : (n : ℕ) → 0 < n → 2 ^ n ≡ 2 * 2 ^ (n - 1)
twice_half zero h = absurd (omega arith)
twice_half (suc n) h = let same : suc n - 1 ≡ n = omega arith in rw (pow-suc, same) (omega arith)

half_below : (n : ℕ) → n ≤ 64 → 0 < n → 2 ^ (n - 1) ≤ 2 ^ 63
half_below n h k = let in_order : n - 1 ≤ 63 = omega arith in pow-le-pow_right (lit< tt) in_order

half_is : (n : ℕ) → 0 < n → n ≤ 64 → 1 * 2 ^ (n - 1) % 2 ^ 64 ≡ 2 ^ (n - 1)
half_is n h k = let below : n - 1 < 64 = omega arith in let small : 1 * 2 ^ (n - 1) < 2 ^ 64 = omega (arith, pow_below (n - 1) 64 below) in mod-eq_of_lt small ∙ one-mul (2 ^ (n - 1))

signed_below : (n m half : ℕ) → 2 ^ n ≡ 2 * half → m < half → signed_of n m ≡ pos m
unfolding signed_of
signed_below n m half e h = search (tests, rules)

minus_one : (x : ℕ) → negsuc 0 -ℤ pos x ≡ negsuc x
minus_one x = omega (arith, ints)

signed_above : (n m half : ℕ) → 2 ^ n ≡ 2 * half → half ≤ m → m < 2 ^ n → signed_of n m ≡ negsuc (half - 1 - (m - half))
unfolding signed_of
signed_above n m half e h b =
    let above : ltb (2 * m) (2 ^ n) ≡ false = search (tests, rules) in
    rw above (rw e (omega (arith, ints)))

pub signed_low : (n m : ℕ) → 0 < n → n ≤ 64 → m < 1 * 2 ^ (n - 1) % 2 ^ 64 → to_z w64 m ≡ signed_of n m
signed_low n m h k l =
    let low = rw (half_is n h k) at l in
    let small = half_below n k h in
    to_z_pos w64 m (omega arith) ∙ sym (signed_below n m (2 ^ (n - 1)) (twice_half n h) low)

pub signed_high : (n m : ℕ) → 0 < n → n ≤ 64 → 1 * 2 ^ (n - 1) % 2 ^ 64 ≤ m → m < 2 ^ n
    → to_z w64 (of_z w64 (negsuc 0 -ℤ to_z w64 (1 * 2 ^ (n - 1) % 2 ^ 64 - 1 - (m - 1 * 2 ^ (n - 1) % 2 ^ 64)))) ≡ signed_of n m
signed_high n m h k l b = rw (half_is n h k) (high n m (2 ^ (n - 1)) (twice_half n h) (half_below n k h) (rw (half_is n h k) at l) b)
  where
    high : (n m half : ℕ) → 2 ^ n ≡ 2 * half → half ≤ 2 ^ 63 → half ≤ m → m < 2 ^ n → to_z w64 (of_z w64 (negsuc 0 -ℤ to_z w64 (half - 1 - (m - half)))) ≡ signed_of n m
    high n m half e s l b =
        let below : half - 1 - (m - half) < 2 ^ 63 = omega arith in
        rw (to_z_pos w64 (half - 1 - (m - half)) below, minus_one (half - 1 - (m - half)), to_z-of_z w64 (negsuc (half - 1 - (m - half))) (record { sfits = below }))
        (sym (signed_above n m half e l b))
