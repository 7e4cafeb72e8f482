-- The number that bits are, part by part, in both byte orders: of two spans that follow one another, and inside of one byte.
use Rattle.std.proofs.Common.{◌≡◌, ◌⊎◌, ℕ, zero, suc, ◌+◌, ◌-◌, ◌*◌, ◌/◌, ◌%◌, ◌^◌, ◌<◌, ◌≤◌, List, length, get_or, set, sym, ap, ◌∙◌, inl, inr, arith, add-zero, add-suc, add_comm, mul_comm}
use Rattle.std.specs.Int.{bit_at}
use Rattle.std.proofs.Math.Nat.{pow-suc, mod-one, div-one, mod-eq_of_lt}
use Rattle.std.proofs.lemmas.Bool.{cases_eq}
use Rattle.std.proofs.lemmas.Nat.{pow-add, shr-shr, shr_split, shr_below, shl_whole, one_shl, mod_below, mod-pow-add, mul-add-lt, pow_pos}
use Rattle.std.proofs.lemmas.Nat.Bits.{bit_at_cat_low, bit_at_cat_high}
use Rattle.ctf_types.specs.declared.ByteOrder.{ByteOrder}
use Rattle.ctf_types.specs.declared.ByteOrder.TheVariants.{Little, Big}
use Rattle.ctf_types.specs.Bits.{place_of, bit_of, number_at, SameOutside}
use Rattle.bit_codec.specs.Place.{place_in_number, number_with, joined, part_of, lowest_place}
use Rattle.bit_codec.proofs.BitLaws.{bit_of-set_same, bit_of-set_other}
use Rattle.bit_codec.proofs.NumberLaws.{number_at-none, number_at-more, number_at-bits, number_at-outside}

joined-none : (o : ByteOrder) (m front : ℕ) → joined o m 0 front 0 ≡ front
joined-none Little m front = omega arith
joined-none Big m front = omega arith

joined-more : (o : ByteOrder) (m n front back bit : ℕ) → number_with o (m + n) (joined o m n front back) bit ≡ joined o m (suc n) front (number_with o n back bit)
joined-more Little m n front back bit = rw pow-add (omega arith)
joined-more Big m n front back bit = rw pow-suc (omega arith)

-- m + n bits are the number of the first m, joined with that of the n after them
pub number_at-split : (o : ByteOrder) (b : ℕ → ℕ) (at m n : ℕ) → number_at o b at (m + n) ≡ joined o m n (number_at o b at m) (number_at o b (at + m) n)
number_at-split o b at m zero =
    let none = ap (joined o m 0 (number_at o b at m)) (number_at-none o b (at + m)) in
    ap (number_at o b at) (add-zero m) ∙ sym (joined-none o m (number_at o b at m)) ∙ sym none
number_at-split o b at m (suc n) =
    let front = number_at o b at m in
    let back = number_at o b (at + m) n in
    let position : at + (m + n) ≡ at + m + n = omega arith in
    ap (number_at o b at) (add-suc m n)
    ∙ number_at-more o b at (m + n)
    ∙ ap (λ v. number_with o (m + n) v (b (at + (m + n)))) (number_at-split o b at m n)
    ∙ ap (λ p. number_with o (m + n) (joined o m n front back) (b p)) position
    ∙ joined-more o m n front back (b (at + m + n))
    ∙ ap (joined o m (suc n) front) (sym (number_at-more o b (at + m) n))

-- ---- the parts of a number

-- no bits
pub part_of-none : (o : ByteOrder) (v n : ℕ) → part_of o v n 0 0 ≡ 0
part_of-none Little v n = mod-one (v / 2 ^ 0)
part_of-none Big v n = mod-one (v / 2 ^ (n - 0 - 0))

-- all bits
pub part_of-whole : (o : ByteOrder) (v n : ℕ) → v < 2 ^ n → part_of o v n 0 n ≡ v
part_of-whole Little v n fits = ap (λ w. w % 2 ^ n) (div-one v) ∙ mod-eq_of_lt fits
part_of-whole Big v n fits =
    let none : n - 0 - n ≡ 0 = omega arith in
    ap (λ s. v / 2 ^ s % 2 ^ n) none ∙ ap (λ w. w % 2 ^ n) (div-one v) ∙ mod-eq_of_lt fits

-- two parts that follow one another are a part
joined-parts : (o : ByteOrder) (v n from m k : ℕ) → from + m + k ≤ n → joined o m k (part_of o v n from m) (part_of o v n (from + m) k) ≡ part_of o v n from (m + k)
joined-parts Little v n from m k within =
    let w = v / 2 ^ from in
    ap (λ u. w % 2 ^ m + u % 2 ^ k * 2 ^ m) (sym (shr-shr v from m))
    ∙ add_comm (w % 2 ^ m) (w / 2 ^ m % 2 ^ k * 2 ^ m)
    ∙ sym (mod-pow-add w k m)
    ∙ ap (λ s. w % 2 ^ s) (add_comm k m)
joined-parts Big v n from m k within =
    let rest = n - from - (m + k) in
    let front : n - from - m ≡ rest + k = omega arith in
    let back : n - (from + m) - k ≡ rest = omega arith in
    let w = v / 2 ^ rest in
    ap (λ s. v / 2 ^ s % 2 ^ m * 2 ^ k + v / 2 ^ (n - (from + m) - k) % 2 ^ k) front
    ∙ ap (λ s. v / 2 ^ (rest + k) % 2 ^ m * 2 ^ k + v / 2 ^ s % 2 ^ k) back
    ∙ ap (λ u. u % 2 ^ m * 2 ^ k + w % 2 ^ k) (sym (shr-shr v rest k))
    ∙ sym (mod-pow-add w m k)

-- a number's part is written behind the part before it: the two are a part
pub number_at-more_part : (o : ByteOrder) (b c : ℕ → ℕ) (at v n from m k : ℕ) → from + m + k ≤ n
    → number_at o b at m ≡ part_of o v n from m → SameOutside c b (at + m) (at + m + k) → number_at o c (at + m) k ≡ part_of o v n (from + m) k
    → number_at o c at (m + k) ≡ part_of o v n from (m + k)
number_at-more_part o b c at v n from m k within front same back =
    let kept = number_at-outside o c b at m (at + m) (at + m + k) same (inl (omega arith)) ∙ front in
    number_at-split o c at m k
    ∙ ap (λ f. joined o m k f (number_at o c (at + m) k)) kept
    ∙ ap (joined o m k (part_of o v n from m)) back
    ∙ joined-parts o v n from m k within

-- two numbers of m and n bits are joined to one of m + n bits
pub joined-below : (o : ByteOrder) (m n front back : ℕ) → front < 2 ^ m → back < 2 ^ n → joined o m n front back < 2 ^ (m + n)
joined-below Little m n front back front_fits back_fits = rw (pow-add 2 m n) (omega (arith, mul-add-lt back (2 ^ m) front (2 ^ n) back_fits front_fits))
joined-below Big m n front back front_fits back_fits = rw (pow-add 2 m n, mul_comm (2 ^ m) (2 ^ n)) (mul-add-lt front (2 ^ n) back (2 ^ m) front_fits back_fits)

-- ---- the bits of one byte

place-in_byte : (o : ByteOrder) (p n j : ℕ) → p % 8 + n ≤ 8 → j < n → place_of o (p + j) ≡ lowest_place o p n + place_in_number o n j
place-in_byte Little p n j within below = omega arith
place-in_byte Big p n j within below = omega arith

place_in_number-below : (o : ByteOrder) (n j : ℕ) → j < n → place_in_number o n j < n
place_in_number-below Little n j below = below
place_in_number-below Big n j below = omega arith

bit_at-mod : (v n i : ℕ) → i < n → bit_at (v % 2 ^ n) i ≡ bit_at v i
bit_at-mod v n i below = sym (bit_at_cat_low (v / 2 ^ n) n (v % 2 ^ n) i below) ∙ ap (λ w. bit_at w i) (shr_split v n)

-- a byte with a value as its n bits from the bit `lowest` on
abbrev pub byte_with : ℕ → ℕ → ℕ → ℕ → ℕ
byte_with byte lowest n value = (byte / 2 ^ (lowest + n) * 2 ^ n + value) * 2 ^ lowest + byte % 2 ^ lowest

pub byte_with-inside : (byte lowest n value i : ℕ) → i < n → bit_at (byte_with byte lowest n value) (lowest + i) ≡ bit_at value i
byte_with-inside byte lowest n value i below =
    let high = byte / 2 ^ (lowest + n) in
    let place : lowest + i - lowest ≡ i = omega arith in
    bit_at_cat_high (high * 2 ^ n + value) lowest (byte % 2 ^ lowest) (lowest + i) (mod_below byte (2 ^ lowest) (pow_pos lowest)) (omega arith)
    ∙ ap (bit_at (high * 2 ^ n + value)) place
    ∙ bit_at_cat_low high n value i below

pub byte_with-below : (byte lowest n value i : ℕ) → i < lowest → bit_at (byte_with byte lowest n value) i ≡ bit_at byte i
byte_with-below byte lowest n value i below =
    bit_at_cat_low (byte / 2 ^ (lowest + n) * 2 ^ n + value) lowest (byte % 2 ^ lowest) i below ∙ bit_at-mod byte lowest i below

pub byte_with-above : (byte lowest n value i : ℕ) → value < 2 ^ n → lowest + n ≤ i → bit_at (byte_with byte lowest n value) i ≡ bit_at byte i
byte_with-above byte lowest n value i fits above =
    let high = byte / 2 ^ (lowest + n) in
    let place : lowest + n + (i - lowest - n) ≡ i = omega arith in
    bit_at_cat_high (high * 2 ^ n + value) lowest (byte % 2 ^ lowest) i (mod_below byte (2 ^ lowest) (pow_pos lowest)) (omega arith)
    ∙ bit_at_cat_high high n value (i - lowest) fits (omega arith)
    ∙ ap (λ w. w % 2) (shr-shr byte (lowest + n) (i - lowest - n))
    ∙ ap (bit_at byte) place

-- the parts of such a byte fit
pub high-below : (byte lowest n : ℕ) → lowest + n ≤ 8 → byte < 256 → byte / 2 ^ (lowest + n) < 2 ^ (8 - lowest - n)
high-below byte lowest n within fits =
    let size : 8 - lowest - n + (lowest + n) ≡ 8 = omega arith in
    shr_below byte (8 - lowest - n) (lowest + n) (rw size fits)

pub middle-below : (byte lowest n value : ℕ) → lowest + n ≤ 8 → byte < 256 → value < 2 ^ n → byte / 2 ^ (lowest + n) * 2 ^ n + value < 2 ^ (8 - lowest)
middle-below byte lowest n value within fits value_fits =
    let size : 8 - lowest - n + n ≡ 8 - lowest = omega arith in
    rw size at (joined-below Big (8 - lowest - n) n (byte / 2 ^ (lowest + n)) value (high-below byte lowest n within fits) value_fits)

pub byte_with-fits : (byte lowest n value : ℕ) → lowest + n ≤ 8 → byte < 256 → value < 2 ^ n → byte_with byte lowest n value < 256
byte_with-fits byte lowest n value within fits value_fits =
    let size : 8 - lowest + lowest ≡ 8 = omega arith in
    let middle = byte / 2 ^ (lowest + n) * 2 ^ n + value in
    rw size at (joined-below Big (8 - lowest) lowest middle (byte % 2 ^ lowest) (middle-below byte lowest n value within fits value_fits) (mod_below byte (2 ^ lowest) (pow_pos lowest)))

-- what shifts within 64 bits compute is that byte
pub byte_with-shifts : (byte lowest n value : ℕ) → lowest + n ≤ 8 → byte < 256 → value < 2 ^ n
    → (byte / 2 ^ (lowest + n) * 2 ^ n % 2 ^ 64 + value) * 2 ^ lowest % 2 ^ 64 + byte % (1 * 2 ^ lowest % 2 ^ 64) ≡ byte_with byte lowest n value
byte_with-shifts byte lowest n value within fits value_fits =
    let high = byte / 2 ^ (lowest + n) in
    let middle = high * 2 ^ n + value in
    let high_shift = shl_whole high (8 - lowest - n) n 64 (high-below byte lowest n within fits) (omega arith) in
    let middle_shift = shl_whole middle (8 - lowest) lowest 64 (middle-below byte lowest n value within fits value_fits) (omega arith) in
    ap (λ h. (h + value) * 2 ^ lowest % 2 ^ 64 + byte % (1 * 2 ^ lowest % 2 ^ 64)) high_shift
    ∙ ap (λ m. m + byte % (1 * 2 ^ lowest % 2 ^ 64)) middle_shift
    ∙ ap (λ p. middle * 2 ^ lowest + byte % p) (one_shl lowest 64 (omega arith))

-- n bits that lie in one byte are a part of it
pub number_at-in_byte : (o : ByteOrder) (bytes : List ℕ) (p n : ℕ) → p % 8 + n ≤ 8 → number_at o (bit_of o bytes) p n ≡ get_or bytes (p / 8) 0 / 2 ^ lowest_place o p n % 2 ^ n
unfolding bit_of
number_at-in_byte o bytes p n within = number_at-bits o (bit_of o bytes) p n (part % 2 ^ n) (mod_below part (2 ^ n) (pow_pos n)) bits
  where
    byte : ℕ
    byte = get_or bytes (p / 8) 0

    lowest : ℕ
    lowest = lowest_place o p n

    part : ℕ
    part = byte / 2 ^ lowest

    index : (j : ℕ) → j < n → (p + j) / 8 ≡ p / 8
    index j below = omega arith

    bits : (j : ℕ) → j < n → bit_of o bytes (p + j) ≡ bit_at (part % 2 ^ n) (place_in_number o n j)
    bits j below =
        ap (λ i. bit_at (get_or bytes i 0) (place_of o (p + j))) (index j below)
        ∙ ap (bit_at byte) (place-in_byte o p n j within below)
        ∙ ap (λ v. v % 2) (sym (shr-shr byte lowest (place_in_number o n j)))
        ∙ sym (bit_at-mod part n (place_in_number o n j) (place_in_number-below o n j below))

-- a byte that is written with a value as n bits from a position on: those bits are the value, and every other bit is as it was
pub number_at-set_part : (o : ByteOrder) (bytes : List ℕ) (at n byte value : ℕ) → at % 8 + n ≤ 8 → at / 8 < length bytes → value < 2 ^ n
    → ((i : ℕ) → i < n → bit_at byte (lowest_place o at n + i) ≡ bit_at value i)
    → number_at o (bit_of o (set bytes (at / 8) byte)) at n ≡ value
number_at-set_part o bytes at n byte value in_byte within fits inside =
    number_at-bits o (bit_of o (set bytes (at / 8) byte)) at n value fits (λ j below.
    let here : (at + j) / 8 ≡ at / 8 = omega arith in
    bit_of-set_same o bytes (at + j) (at / 8) byte here within
    ∙ ap (bit_at byte) (place-in_byte o at n j in_byte below)
    ∙ inside (place_in_number o n j) (place_in_number-below o n j below))

place_of-outside : (o : ByteOrder) (at n p : ℕ) → at % 8 + n ≤ 8 → p / 8 ≡ at / 8 → (p < at) ⊎ (at + n ≤ p)
    → (place_of o p < lowest_place o at n) ⊎ (lowest_place o at n + n ≤ place_of o p)
place_of-outside Little at n p in_byte same (inl before) = inl (omega arith)
place_of-outside Little at n p in_byte same (inr after) = inr (omega arith)
place_of-outside Big at n p in_byte same (inl before) = inr (omega arith)
place_of-outside Big at n p in_byte same (inr after) = inl (omega arith)

pub SameOutside-set_part : (o : ByteOrder) (bytes : List ℕ) (at n byte : ℕ) → at % 8 + n ≤ 8 → at / 8 < length bytes
    → ((i : ℕ) → i < lowest_place o at n → bit_at byte i ≡ bit_at (get_or bytes (at / 8) 0) i)
    → ((i : ℕ) → lowest_place o at n + n ≤ i → bit_at byte i ≡ bit_at (get_or bytes (at / 8) 0) i)
    → SameOutside (bit_of o (set bytes (at / 8) byte)) (bit_of o bytes) at (at + n)
unfolding SameOutside bit_of
SameOutside-set_part o bytes at n byte in_byte within below above p outside =
    elim (cases_eq (p / 8) (at / 8)) [
      | inl here ↦ bit_of-set_same o bytes p (at / 8) byte here within
          ∙ elim (place_of-outside o at n p in_byte here outside) [
            | inl low ↦ below (place_of o p) low
            | inr high ↦ above (place_of o p) high
          ]
          ∙ ap (λ k. bit_at (get_or bytes k 0) (place_of o p)) (sym here)
      | inr elsewhere ↦ bit_of-set_other o bytes p (at / 8) byte elsewhere
    ]
