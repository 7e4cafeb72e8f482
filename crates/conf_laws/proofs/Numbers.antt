-- A whole number that is in its range is a natural number in it; what a range that was read says; and the alignments of fields, where one
-- that passes no limit is the very number that is read.
use Rattle.std.proofs.Common.{◌≡◌, ◌≤◌, ◌^◌, inl, inr, ℕ, ℤ, pos, negsuc, true, false, List, Some, Ok, nat_le, arith, refl, ap, subst, ◌∙◌, ◌<◌, Bool, int_le, codes, option_and_then, unwrap_or}
use Rattle.conf_laws.proofs.Readings.{optional_found}
use Rattle.conf_laws.proofs.Sound.{HasRow, RowsSound, needed_sound}
use Rattle.conf_laws.proofs.Words.{LARGEST_ALIGN, IsWhole, IsRange, Place, Whole, Needed, is_null, itself_of, Known, leaf_of, whole_from, is_power_of_two, divisors_of_pow, pow_mono, cases_lt, agree_below_at, numbers_of, end_of, pair_of, single_of, range_of, index, whole_of, at, both_read, read_there, ok_same, as_natural, Data, Members, array, Items, no_items, item, nat_tests, is_alignment, alignment, natural, lowest, highest, integer_align, default_align, default_number, size_of, align_of}
use Rattle.conf_laws.proofs.Words.places

-- a whole number that was read, and that it is between its bounds
pub whole_read : (low high : ℤ) (d : Data) (z : ℤ) → whole_of low high d ≡ Ok z → IsWhole d z × (int_le low z ≡ true) × (int_le z high ≡ true)
unfolding whole_of
whole_read low high d z e = grind (arith, nat_tests, e)

-- the value is a whole number from low to high, a natural number
abbrev NaturalIn : ℕ → ℕ → Data → Type 0
NaturalIn low high d = (n : ℕ) × (as_natural d ≡ Some n) × (nat_le low n ≡ true) × (nat_le n high ≡ true) × (is_null d ≡ false)

natural_of_whole : (low high : ℕ) (d : Data) (z : ℤ) → IsWhole d z → int_le (pos low) z ≡ true → int_le z (pos high) ≡ true → high ≤ 18446744073709551615 → NaturalIn low high d
unfolding as_natural
natural_of_whole low high d z whole least below most = grind (arith, nat_tests, whole, least, below, most)

natural_read : (low high : ℕ) (d : Data) → whole_from (pos low) (pos high) d ≡ Ok tt → high ≤ 18446744073709551615 → NaturalIn low high d
unfolding whole_from
natural_read low high d e most =
    let read = both_read (whole_of (pos low) (pos high) d) (λ z. Ok tt) tt e in
    let whole = whole_read (pos low) (pos high) d read.0 read.1 in natural_of_whole low high d read.0 whole.0 whole.1 whole.2 most

pub natural_is_in : (low high : ℕ) (d : Data) (n : ℕ) → high ≤ 18446744073709551615 → whole_from (pos low) (pos high) d ≡ Ok tt → as_natural d ≡ Some n → (low ≤ n) × (n ≤ high)
natural_is_in low high d n most e is = grind (arith, nat_tests, natural_read low high d e most, is)

pub needed_natural : (k : Known) (place : Place) (name : List ℕ) (low high : ℕ) (ms : Members) → HasRow place name Needed (Whole (pos low) (pos high)) → RowsSound k place ms
    → high ≤ 18446744073709551615 → (n : ℕ) × (natural name ms ≡ Some n) × (nat_le low n ≡ true) × (nat_le n high ≡ true)
unfolding itself_of leaf_of natural
needed_natural k place name low high ms row h most =
    let (d, found, sound) = needed_sound k place name (Whole (pos low) (pos high)) ms row h in
    let (n, read, above, below, there) = natural_read low high d sound.value.itself most in
    (n, ap (option_and_then as_natural) (optional_found name ms d found there) ∙ read, above, below)

-- ---- a number that is told

abbrev pub lowest_end : ℤ
lowest_end = negsuc 9223372036854775807

abbrev pub highest_end : ℤ
highest_end = pos 18446744073709551615

-- a number that a configuration can hold
abbrev pub IsEnd : ℤ → Type 0
IsEnd z = (int_le lowest_end z ≡ true) × (int_le z highest_end ≡ true)

-- what was read as a range is one, and a configuration can hold its ends
abbrev pub IsRead : Data → ℤ → ℤ → Type 0
IsRead d x y = IsRange d x y × IsEnd x × IsEnd y

single_read : (d : Data) (range : _) → single_of d ≡ Ok range → IsRead d range.low range.high
single_read d range e =
    let (z, first, last) = both_read (end_of d) _ range e in
    let (whole, least, most) = whole_read lowest_end highest_end d z first in
    subst (λ r. IsRead d r.low r.high) (ok_same (record { low = z; high = z }) range last) (IsRange.one_number z whole, (least, most), (least, most))

pair_read : (ds : Items) (range : _) → pair_of ds ≡ Ok range → IsRead (array ds) range.low range.high
unfolding pair_of
pair_read (item a (item b no_items)) range e =
    let (x, first, next) = both_read (at (index 0) (end_of a)) _ range e in
    let (y, second, last) = both_read (at (index 1) (end_of b)) _ range next in
    let (low, least, below) = whole_read lowest_end highest_end a x (read_there (index 0) (end_of a) x first) in
    let (high, above, most) = whole_read lowest_end highest_end b y (read_there (index 1) (end_of b) y second) in
    subst (λ r. IsRead (array (item a (item b no_items))) r.low r.high) (ok_same (record { low = x; high = y }) range last) (IsRange.two_numbers a b x y refl low high, (least, below), (above, most))
pair_read _ range e = absurd cc

pub range_read : (d : Data) (range : _) → range_of d ≡ Ok range → IsRead d range.low range.high
unfolding range_of
range_read (array ds) range e = pair_read ds range e
range_read d range e = single_read d range e

-- ---- the numbers of an integer

pub some_size : (signed : Bool) (size : ℕ) → 0 < size → size ≤ 64 → ((numbers_of signed size).low ≡ lowest signed size) × ((numbers_of signed size).high ≡ highest signed size)
unfolding numbers_of
some_size signed size some most = grind (arith, nat_tests, some, most)

-- a property that is a power of two up to 4,096, or another where it counts as left out
pub alignment_or : (name : List ℕ) (otherwise : ℕ) (ms : Members) → is_alignment otherwise ≡ true → is_alignment (unwrap_or (alignment name ms) otherwise) ≡ true
unfolding alignment
alignment_or name otherwise ms default = grind (arith, default)

-- a power of two up to 4,096 is a divisor of it
power_divides : (n : ℕ) → is_power_of_two (pos n) ≡ true → n ≤ LARGEST_ALIGN → is_alignment n ≡ true
power_divides n power most =
    let (k, below, is) = divisors_of_pow 63 n (grind (arith, nat_tests, power)) (grind (arith, nat_tests, power)) in
    elim (cases_lt k 13) [
      | inl small ↦ ap is_alignment is ∙ agree_below_at (λ j. is_alignment (2 ^ j)) (λ j. true) 13 k refl small
      | inr large ↦ absurd (let above : 8192 ≤ 2 ^ k = pow_mono large in let low : n ≤ 4096 = most in omega (arith, above, low, is))
    ]

module _ (ms : Members) (n : ℕ) (power : is_power_of_two (pos n) ≡ true) (most : n ≤ LARGEST_ALIGN) where
  kept : (name : List ℕ) → natural name ms ≡ Some n → alignment name ms ≡ Some n
  unfolding alignment
  kept name is = grind (arith, power_divides n power most, is)

  pub integer_kept : natural (codes "alignment") ms ≡ Some n → integer_align ms ≡ n
  unfolding integer_align
  integer_kept is = ap (λ o. unwrap_or o (default_align (size_of ms))) (kept (codes "alignment") is)

  pub structure_kept : natural (codes "minimum-alignment") ms ≡ Some n → align_of ms ≡ n
  unfolding align_of
  structure_kept is = ap (λ o. unwrap_or o (default_number places.Structure (codes "minimum-alignment"))) (kept (codes "minimum-alignment") is)
