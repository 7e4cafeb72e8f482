-- Laws of the number that n bits are, in both byte orders, over any bit list.
use Rattle.std.proofs.Common.{◌≡◌, ◌⊎◌, ℕ, zero, suc, ◌+◌, ◌-◌, ◌*◌, ◌/◌, ◌%◌, ◌^◌, ◌<◌, ◌≤◌, refl, sym, ap, ◌∙◌, inl, inr, arith, add-one, one-add, add_comm}
use Rattle.std.proofs.Math.Nat.{pow-suc, mod-one, mod-eq_of_lt}
use Rattle.std.proofs.lemmas.Nat.{mod-pow-add}
use Rattle.std.proofs.lemmas.Nat.Bits.{bit_at-suc, bit_at_lowest, bit_at_cat_low, bit_at_cat_high}
use Rattle.std.proofs.lemmas.Bool.{cases_lt}
use Rattle.std.specs.Int.{bit_at}
use Rattle.ctf_types.specs.declared.ByteOrder.{ByteOrder}
use Rattle.ctf_types.specs.declared.ByteOrder.TheVariants.{Little, Big}
use Rattle.ctf_types.specs.Bits.{number_of, number_at, AreZero, SameOutside}
use Rattle.bit_codec.specs.Place.{place_in_number, number_with}

-- ---- n bits from the first one on

number_of-none : (o : ByteOrder) (b : ℕ → ℕ) → number_of o b 0 ≡ 0
unfolding number_of
number_of-none Little b = refl
number_of-none Big b = refl

number_of-more : (o : ByteOrder) (b : ℕ → ℕ) (n : ℕ) → number_of o b (suc n) ≡ number_with o n (number_of o b n) (b n)
unfolding number_of
number_of-more Little b n = refl
number_of-more Big b n = refl

-- n bits that agree are the same number
number_of-same : (o : ByteOrder) (b c : ℕ → ℕ) (n : ℕ) → ((j : ℕ) → j < n → b j ≡ c j) → number_of o b n ≡ number_of o c n
number_of-same o b c zero agree = number_of-none o b ∙ sym (number_of-none o c)
number_of-same o b c (suc n) agree =
    let front = number_of-same o b c n (λ j below. agree j (omega arith)) in
    let last = agree n (omega arith) in
    number_of-more o b n ∙ ap (λ m. number_with o n m (b n)) front ∙ ap (number_with o n (number_of o c n)) last ∙ sym (number_of-more o c n)

number_with-below : (o : ByteOrder) (n m bit : ℕ) → m < 2 ^ n → bit < 2 → number_with o n m bit < 2 ^ suc n
number_with-below Little n m zero fits binary = rw pow-suc (omega arith)
number_with-below Little n m (suc zero) fits binary = rw pow-suc (omega arith)
number_with-below Little n m (suc (suc k)) fits binary = absurd (omega arith)
number_with-below Big n m bit fits binary = rw pow-suc (omega arith)

-- n bits are a number below 2 ^ n
number_of-below : (o : ByteOrder) (b : ℕ → ℕ) (n : ℕ) → ((j : ℕ) → b j < 2) → number_of o b n < 2 ^ n
number_of-below o b zero binary = rw number_of-none (omega arith)
number_of-below o b (suc n) binary =
    rw number_of-more (number_with-below o n (number_of o b n) (b n) (number_of-below o b n binary) (binary n))

-- n zero bits are the number 0
number_with-zero : (o : ByteOrder) (n : ℕ) → number_with o n 0 0 ≡ 0
number_with-zero Little n = omega arith
number_with-zero Big n = refl

number_of-zero : (o : ByteOrder) (b : ℕ → ℕ) (n : ℕ) → ((j : ℕ) → j < n → b j ≡ 0) → number_of o b n ≡ 0
number_of-zero o b zero zeros = number_of-none o b
number_of-zero o b (suc n) zeros =
    let front = number_of-zero o b n (λ j below. zeros j (omega arith)) in
    number_of-more o b n ∙ ap (λ m. number_with o n m (b n)) front ∙ ap (number_with o n 0) (zeros n (omega arith)) ∙ number_with-zero o n

-- a number's last bit, in the order of the bits, and the bits before it
last-number_with : (o : ByteOrder) (n m bit : ℕ) → m < 2 ^ n → bit < 2 → bit_at (number_with o n m bit) (place_in_number o (suc n) n) ≡ bit
last-number_with Little n m bit fits binary =
    let none : n - n ≡ 0 = omega arith in
    let small : bit % 2 ≡ bit = omega arith in
    rw add_comm (bit_at_cat_high bit n m n fits (omega arith) ∙ rw none (bit_at_lowest bit ∙ small))
last-number_with Big n m bit fits binary =
    let lowest : suc n - 1 - n ≡ 0 = omega arith in
    rw lowest (bit_at_lowest (2 * m + bit) ∙ omega arith)

earlier-number_with : (o : ByteOrder) (n m bit j : ℕ) → bit < 2 → j < n → bit_at (number_with o n m bit) (place_in_number o (suc n) j) ≡ bit_at m (place_in_number o n j)
earlier-number_with Little n m bit j binary below = rw add_comm (bit_at_cat_low bit n m j below)
earlier-number_with Big n m bit j binary below =
    let place : suc n - 1 - j ≡ suc (n - 1 - j) = omega arith in
    let half : (2 * m + bit) / 2 ≡ m = omega arith in
    rw place (bit_at-suc (2 * m + bit) (n - 1 - j) ∙ ap (λ h. bit_at h (n - 1 - j)) half)

-- each of n bits is a bit of their number
bit-number_of : (o : ByteOrder) (b : ℕ → ℕ) (n : ℕ) → ((j : ℕ) → b j < 2) → (j : ℕ) → j < n → bit_at (number_of o b n) (place_in_number o n j) ≡ b j
bit-number_of o b zero binary j below = absurd (omega arith)
bit-number_of o b (suc n) binary j below =
    let fits = number_of-below o b n binary in
    let front = bit-number_of o b n binary in
    let last = last-number_with o n (number_of o b n) (b n) fits (binary n) in
    rw number_of-more (elim (cases_lt j n) [
      | inl before ↦ earlier-number_with o n (number_of o b n) (b n) j (binary n) before ∙ front j before
      | inr after ↦ let here : j ≡ n = omega arith in rw here last
    ])

-- what has the bits of a number v is v, as far as n bits hold it
number_of-bits : (o : ByteOrder) (b : ℕ → ℕ) (n v : ℕ) → ((j : ℕ) → j < n → b j ≡ bit_at v (place_in_number o n j)) → number_of o b n ≡ v % 2 ^ n
number_of-bits o b zero v bits = number_of-none o b ∙ sym (mod-one v)
number_of-bits Little b (suc n) v bits =
    let front = number_of-bits Little b n v (λ j below. bits j (omega arith)) in
    let last = bits n (omega arith) in
    let split = rw (one-add n) at (mod-pow-add v 1 n) in
    number_of-more Little b n ∙ ap (λ m. m + b n * 2 ^ n) front ∙ ap (λ d. v % 2 ^ n + d * 2 ^ n) last ∙ add_comm (v % 2 ^ n) ((v / 2 ^ n % 2) * 2 ^ n) ∙ sym split
number_of-bits Big b (suc n) v bits =
    let front = number_of-bits Big b n (v / 2) (λ j below. bits j (omega arith) ∙ later j below) in
    let last : b n ≡ v % 2 = bits n (omega arith) ∙ lowest in
    let split = rw (add-one n) at (mod-pow-add v n 1) in
    number_of-more Big b n ∙ ap (λ m. 2 * m + b n) front ∙ omega (arith, last, split)
  where
    place : (j : ℕ) → j < n → suc n - 1 - j ≡ suc (n - 1 - j)
    place j below = omega arith

    later : (j : ℕ) → j < n → bit_at v (suc n - 1 - j) ≡ bit_at (v / 2) (n - 1 - j)
    later j below = rw (place j below) (bit_at-suc v (n - 1 - j))

    place-last : suc n - 1 - n ≡ 0
    place-last = omega arith

    lowest : bit_at v (suc n - 1 - n) ≡ v % 2
    lowest = rw place-last (bit_at_lowest v)

-- ---- n bits from a position on

pub number_at-none : (o : ByteOrder) (b : ℕ → ℕ) (at : ℕ) → number_at o b at 0 ≡ 0
unfolding number_at
number_at-none o b at = number_of-none o (λ j. b (at + j))

pub number_at-more : (o : ByteOrder) (b : ℕ → ℕ) (at n : ℕ) → number_at o b at (suc n) ≡ number_with o n (number_at o b at n) (b (at + n))
unfolding number_at
number_at-more o b at n = number_of-more o (λ j. b (at + j)) n

-- n bits that agree are the same number
pub number_at-same : (o : ByteOrder) (b c : ℕ → ℕ) (at n : ℕ) → ((p : ℕ) → at ≤ p → p < at + n → b p ≡ c p) → number_at o b at n ≡ number_at o c at n
unfolding number_at
number_at-same o b c at n agree = number_of-same o _ _ n (λ j below. agree (at + j) (omega arith) (omega arith))

-- n bits are the same number in a bit list that differs elsewhere only
pub number_at-outside : (o : ByteOrder) (b c : ℕ → ℕ) (at n from to : ℕ) → SameOutside b c from to → (at + n ≤ from) ⊎ (to ≤ at) → number_at o b at n ≡ number_at o c at n
unfolding SameOutside
number_at-outside o b c at n from to outside (inl before) = number_at-same o b c at n (λ p low high. outside p (inl (omega arith)))
number_at-outside o b c at n from to outside (inr after) = number_at-same o b c at n (λ p low high. outside p (inr (omega arith)))

-- n bits are a number below 2 ^ n
pub number_at-below : (o : ByteOrder) (b : ℕ → ℕ) (at n : ℕ) → ((p : ℕ) → b p < 2) → number_at o b at n < 2 ^ n
unfolding number_at
number_at-below o b at n binary = number_of-below o (λ j. b (at + j)) n (λ j. binary (at + j))

-- n zero bits are the number 0
pub number_at-zero : (o : ByteOrder) (b : ℕ → ℕ) (at n : ℕ) → AreZero b at (at + n) → number_at o b at n ≡ 0
unfolding number_at AreZero
number_at-zero o b at n zeros = number_of-zero o (λ j. b (at + j)) n (λ j below. zeros (at + j) (omega arith) (omega arith))

-- bits that are those of a number below 2 ^ n are that number
pub number_at-bits : (o : ByteOrder) (b : ℕ → ℕ) (at n v : ℕ) → v < 2 ^ n → ((j : ℕ) → j < n → b (at + j) ≡ bit_at v (place_in_number o n j)) → number_at o b at n ≡ v
unfolding number_at
number_at-bits o b at n v fits bits = number_of-bits o (λ j. b (at + j)) n v bits ∙ mod-eq_of_lt fits

-- each of n bits is a bit of their number
pub bit-number_at : (o : ByteOrder) (b : ℕ → ℕ) (at n : ℕ) → ((p : ℕ) → b p < 2) → (j : ℕ) → j < n → bit_at (number_at o b at n) (place_in_number o n j) ≡ b (at + j)
unfolding number_at
bit-number_at o b at n binary = bit-number_of o (λ j. b (at + j)) n (λ j. binary (at + j))

-- a number determines its n bits
pub bits-same : (o : ByteOrder) (b c : ℕ → ℕ) (at n : ℕ) → ((p : ℕ) → b p < 2) → ((p : ℕ) → c p < 2) → number_at o b at n ≡ number_at o c at n → (p : ℕ) → at ≤ p → p < at + n → b p ≡ c p
bits-same o b c at n bits_b bits_c same p low high =
    let place : at + (p - at) ≡ p = omega arith in
    let below : p - at < n = omega arith in
    let in_b = bit-number_at o b at n bits_b (p - at) below in
    let in_c = bit-number_at o c at n bits_c (p - at) below in
    let number = ap (λ v. bit_at v (place_in_number o n (p - at))) same in
    ap b (sym place) ∙ sym in_b ∙ number ∙ in_c ∙ ap c place

-- n bits whose number is 0 are all zero
pub AreZero-from_number : (o : ByteOrder) (b : ℕ → ℕ) (at n : ℕ) → ((p : ℕ) → b p < 2) → number_at o b at n ≡ 0 → AreZero b at (at + n)
unfolding AreZero
AreZero-from_number o b at n binary number =
    let none : number_at o (λ _. 0) at n ≡ 0 = number_at-zero o (λ _. 0) at n zeros in
    bits-same o b (λ _. 0) at n binary (λ _. omega arith) (number ∙ sym none)
  where
    zeros : AreZero (λ _. 0) at (at + n)
    zeros p low high = refl
