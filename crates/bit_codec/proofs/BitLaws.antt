-- Laws of the bits of a byte list, in both byte orders.
use Rattle.std.proofs.Common.{◌≡◌, ◌≢◌, ℕ, ◌+◌, ◌*◌, ◌/◌, ◌<◌, List, length, get_or, set, ap, ◌∙◌, inl, inr, arith}
use Rattle.std.specs.Int.{bit_at}
use Rattle.std.proofs.lemmas.List.{get_or-set_same, get_or-set_other}
use Rattle.std.proofs.lemmas.Nat.Bits.{bit_at-lt, bit_at-zero}
use Rattle.ctf_types.specs.declared.ByteOrder.{ByteOrder}
use Rattle.ctf_types.specs.declared.ByteOrder.TheVariants.{Little, Big}
use Rattle.ctf_types.specs.Bits.{place_of, bit_of, number_at, AreZero, SameOutside}
use Rattle.bit_codec.specs.Place.{place_in_number}
use Rattle.bit_codec.proofs.NumberLaws.{number_at-bits}

-- a bit is 0 or 1
pub bit_of-below : (o : ByteOrder) (bytes : List ℕ) (p : ℕ) → bit_of o bytes p < 2
unfolding bit_of
bit_of-below o bytes p = bit_at-lt (get_or bytes (p / 8) 0) (place_of o p)

-- two byte lists with the same byte have the same bits there
pub bit_of-same : (o : ByteOrder) (xs ys : List ℕ) (p : ℕ) → get_or xs (p / 8) 0 ≡ get_or ys (p / 8) 0 → bit_of o xs p ≡ bit_of o ys p
unfolding bit_of
bit_of-same o xs ys p same = ap (λ byte. bit_at byte (place_of o p)) same

-- ---- the bits of one byte

place-in_byte : (o : ByteOrder) (k j : ℕ) → j < 8 → place_of o (8 * k + j) ≡ place_in_number o 8 j
place-in_byte Little k j below = omega arith
place-in_byte Big k j below = omega arith

-- the 8 bits from a whole byte's position on are the byte
pub number_at-byte : (o : ByteOrder) (bytes : List ℕ) (k : ℕ) → get_or bytes k 0 < 256 → number_at o (bit_of o bytes) (8 * k) 8 ≡ get_or bytes k 0
unfolding bit_of
number_at-byte o bytes k fits = number_at-bits o (bit_of o bytes) (8 * k) 8 (get_or bytes k 0) fits bits
  where
    index : (j : ℕ) → j < 8 → (8 * k + j) / 8 ≡ k
    index j below = omega arith

    bits : (j : ℕ) → j < 8 → bit_of o bytes (8 * k + j) ≡ bit_at (get_or bytes k 0) (place_in_number o 8 j)
    bits j below =
        ap (λ i. bit_at (get_or bytes i 0) (place_of o (8 * k + j))) (index j below) ∙ ap (bit_at (get_or bytes k 0)) (place-in_byte o k j below)

-- ---- after a write to one byte

pub bit_of-set_same : (o : ByteOrder) (bytes : List ℕ) (p i byte : ℕ) → p / 8 ≡ i → i < length bytes → bit_of o (set bytes i byte) p ≡ bit_at byte (place_of o p)
unfolding bit_of
bit_of-set_same o bytes p i byte here within =
    ap (λ k. bit_at (get_or (set bytes i byte) k 0) (place_of o p)) here ∙ ap (λ v. bit_at v (place_of o p)) (get_or-set_same bytes i byte 0 within)

pub bit_of-set_other : (o : ByteOrder) (bytes : List ℕ) (p i byte : ℕ) → p / 8 ≢ i → bit_of o (set bytes i byte) p ≡ bit_of o bytes p
bit_of-set_other o bytes p i byte elsewhere = bit_of-same o (set bytes i byte) bytes p (get_or-set_other bytes i (p / 8) byte 0 elsewhere)

-- a byte that is set to 0 has zero bits
pub AreZero-zero_byte : (o : ByteOrder) (bytes : List ℕ) (k : ℕ) → k < length bytes → AreZero (bit_of o (set bytes k 0)) (8 * k) (8 * (k + 1))
unfolding AreZero
AreZero-zero_byte o bytes k within p low high =
    let here : p / 8 ≡ k = omega arith in
    bit_of-set_same o bytes p k 0 here within ∙ bit_at-zero (place_of o p)

-- a write to one byte changes no bit outside of it
pub SameOutside-set : (o : ByteOrder) (bytes : List ℕ) (k byte : ℕ) → SameOutside (bit_of o (set bytes k byte)) (bit_of o bytes) (8 * k) (8 * (k + 1))
unfolding SameOutside
SameOutside-set o bytes k byte p (inl before) = bit_of-set_other o bytes p k byte (omega arith)
SameOutside-set o bytes k byte p (inr after) = bit_of-set_other o bytes p k byte (omega arith)
