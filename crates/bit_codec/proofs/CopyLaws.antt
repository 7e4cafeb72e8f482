-- The bytes and the bits of a byte list into which bytes are copied.
use Rattle.std.proofs.Common.{◌≡◌, ℕ, ◌+◌, ◌*◌, ◌/◌, ◌%◌, ◌<◌, ◌≤◌, List, length, get_or, ap, ◌∙◌, inl, inr, arith, rules}
use Rattle.std.proofs.lemmas.List.{places}
use borrow.Rule.Slice.PartMut.{put_mid}
use Rattle.ctf_types.specs.declared.ByteOrder.{ByteOrder}
use Rattle.ctf_types.specs.Bits.{bit_of, number_at, SameOutside}
use Rattle.bit_codec.proofs.BitLaws.{bit_of-same, number_at-byte}

-- ---- the bytes: ys in place of k bytes from the index a on

copied-inside : (xs ys : List ℕ) (a k i : ℕ) → a ≤ length xs → i < length ys → get_or (put_mid a k xs ys) (a + i) 0 ≡ get_or ys i 0
copied-inside xs ys a k i start within = search (rules, places)

copied-before : (xs ys : List ℕ) (a k i : ℕ) → a ≤ length xs → i < a → get_or (put_mid a k xs ys) i 0 ≡ get_or xs i 0
copied-before xs ys a k i start before = search (rules, places)

copied-behind : (xs ys : List ℕ) (a k i : ℕ) → a ≤ length xs → length ys ≡ k → a + k ≤ i → get_or (put_mid a k xs ys) i 0 ≡ get_or xs i 0
copied-behind xs ys a k i start size behind = search (rules, places)

-- ---- the bits

-- each byte that is copied is the number that its 8 bits are
pub number_at-copied : (o : ByteOrder) (xs ys : List ℕ) (at k i : ℕ) → at % 8 ≡ 0 → at / 8 ≤ length xs → i < length ys → get_or ys i 0 < 256
    → number_at o (bit_of o (put_mid (at / 8) k xs ys)) (at + 8 * i) 8 ≡ get_or ys i 0
number_at-copied o xs ys at k i aligned start within fits =
    let new = put_mid (at / 8) k xs ys in
    let place : at + 8 * i ≡ 8 * (at / 8 + i) = omega arith in
    let byte = copied-inside xs ys (at / 8) k i start within in
    ap (λ p. number_at o (bit_of o new) p 8) place ∙ number_at-byte o new (at / 8 + i) (rw byte fits) ∙ byte

-- no bit changes but those of the bytes that are copied
pub SameOutside-copied : (o : ByteOrder) (xs ys : List ℕ) (at k : ℕ) → at % 8 ≡ 0 → at / 8 ≤ length xs → length ys ≡ k
    → SameOutside (bit_of o (put_mid (at / 8) k xs ys)) (bit_of o xs) at (at + 8 * length ys)
unfolding SameOutside
SameOutside-copied o xs ys at k aligned start size p (inl before) =
    bit_of-same o (put_mid (at / 8) k xs ys) xs p (copied-before xs ys (at / 8) k (p / 8) start (omega arith))
SameOutside-copied o xs ys at k aligned start size p (inr behind) =
    bit_of-same o (put_mid (at / 8) k xs ys) xs p (copied-behind xs ys (at / 8) k (p / 8) start size (omega arith))
