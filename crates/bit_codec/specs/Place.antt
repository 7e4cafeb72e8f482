-- Where a number's bits lie among its own (CTF 1.8.3, section 4.1.5): in little-endian order the first bit
-- is the least significant one, in big-endian order the most significant one.
use Rattle.std.specs.Prelude.{ℕ, ◌+◌, ◌-◌, ◌*◌, ◌/◌, ◌%◌, ◌^◌}
use Rattle.ctf_types.specs.declared.ByteOrder.{ByteOrder}
use Rattle.ctf_types.specs.declared.ByteOrder.TheVariants.{Little, Big}

-- which bit of a number of n bits, counted from the least significant, is its bit j
abbrev pub place_in_number : ByteOrder → ℕ → ℕ → ℕ
place_in_number Little n j = j
place_in_number Big n j = n - 1 - j

-- the number of n + 1 bits whose first n bits are a number m, and whose last is a bit
abbrev pub number_with : ByteOrder → ℕ → ℕ → ℕ → ℕ
number_with Little n m bit = m + bit * 2 ^ n
number_with Big n m bit = 2 * m + bit

-- the number of m + n bits whose first m bits are a number, and whose last n are another
abbrev pub joined : ByteOrder → ℕ → ℕ → ℕ → ℕ → ℕ
joined Little m n front back = front + back * 2 ^ m
joined Big m n front back = front * 2 ^ n + back

-- the number that m bits of a number v of n bits are, behind its first `from` bits
abbrev pub part_of : ByteOrder → ℕ → ℕ → ℕ → ℕ → ℕ
part_of Little v n from m = v / 2 ^ from % 2 ^ m
part_of Big v n from m = v / 2 ^ (n - from - m) % 2 ^ m

-- which bit of its byte, counted from the least significant, is the least significant one of n bits from a position on
-- that lie in one byte
abbrev pub lowest_place : ByteOrder → ℕ → ℕ → ℕ
lowest_place Little at n = at % 8
lowest_place Big at n = 8 - at % 8 - n
