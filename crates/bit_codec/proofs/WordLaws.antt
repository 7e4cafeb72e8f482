-- A number at a whole byte is two halves, one after the other, in both byte orders.
use Rattle.std.proofs.Common.{◌≡◌, ℕ, ◌+◌, ◌*◌, ◌^◌, ◌<◌, ap, ◌∙◌, arith}
use Rattle.ctf_types.specs.declared.ByteOrder.{ByteOrder}
use Rattle.ctf_types.specs.Bits.{number_at, SameOutside}
use Rattle.bit_codec.specs.Place.{joined, part_of}
use Rattle.bit_codec.proofs.PartLaws.{number_at-split, number_at-more_part, part_of-whole}
use Rattle.bit_codec.proofs.SpanLaws.{SameOutside-then}

-- the number of 2 * k bytes is that of the first k, joined with that of the k behind them
pub number_at-halves : (o : ByteOrder) (b : ℕ → ℕ) (index k : ℕ)
    → number_at o b (8 * index) (8 * k + 8 * k) ≡ joined o (8 * k) (8 * k) (number_at o b (8 * index) (8 * k)) (number_at o b (8 * (index + k)) (8 * k))
number_at-halves o b index k =
    let behind : 8 * index + 8 * k ≡ 8 * (index + k) = omega arith in
    number_at-split o b (8 * index) (8 * k) (8 * k)
    ∙ ap (λ p. joined o (8 * k) (8 * k) (number_at o b (8 * index) (8 * k)) (number_at o b p (8 * k))) behind

-- a number whose halves are written one behind the other is written
pub number_at-two_halves : (o : ByteOrder) (b c : ℕ → ℕ) (index k v : ℕ) → v < 2 ^ (8 * k + 8 * k)
    → number_at o b (8 * index) (8 * k) ≡ part_of o v (8 * k + 8 * k) 0 (8 * k)
    → SameOutside c b (8 * (index + k)) (8 * (index + k) + 8 * k)
    → number_at o c (8 * (index + k)) (8 * k) ≡ part_of o v (8 * k + 8 * k) (8 * k) (8 * k)
    → number_at o c (8 * index) (8 * k + 8 * k) ≡ v
number_at-two_halves o b c index k v fits front same back =
    let behind : 8 * (index + k) ≡ 8 * index + 8 * k = omega arith in
    let from : 8 * k ≡ 0 + 8 * k = omega arith in
    let second : number_at o c (8 * index + 8 * k) (8 * k) ≡ part_of o v (8 * k + 8 * k) (0 + 8 * k) (8 * k)
    = rw behind at back ∙ ap (λ f. part_of o v (8 * k + 8 * k) f (8 * k)) from in
    number_at-more_part o b c (8 * index) v (8 * k + 8 * k) 0 (8 * k) (8 * k) (omega arith) front (rw behind at same) second
    ∙ part_of-whole o v (8 * k + 8 * k) fits

-- only the two halves change
pub SameOutside-halves : (old middle new : ℕ → ℕ) (index k : ℕ) → SameOutside middle old (8 * index) (8 * index + 8 * k)
    → SameOutside new middle (8 * (index + k)) (8 * (index + k) + 8 * k) → SameOutside new old (8 * index) (8 * index + (8 * k + 8 * k))
SameOutside-halves old middle new index k first second =
    SameOutside-then old middle new (8 * index) (8 * index + (8 * k + 8 * k)) (8 * index) (8 * index + 8 * k) (8 * (index + k)) (8 * (index + k) + 8 * k)
    first second (omega arith) (omega arith) (omega arith) (omega arith)
