-- The values of number literals: decimal, hexadecimal behind `0x`, octal behind another leading 0, in each
-- case up to the first byte that is no digit of the base, where a suffix begins (CTF 1.8.3, appendix C.1).
use Rattle.std.specs.Prelude.{ℕ, ◌+◌, ◌*◌, ◌==◌, nat_lt, if◌then◌else◌, List, [], ◌∷◌}
use Rattle.std.specs.Char.{digit_value}

-- the digits at the front of the bytes, behind those whose value is n
abbrev pub digits_from : ℕ → ℕ → List ℕ → ℕ
digits_from base n [] = n
digits_from base n (b ∷ bytes) = if nat_lt (digit_value b) base then digits_from base (n * base + digit_value b) bytes else n

-- the value behind a leading 0: hexadecimal digits behind an `x`, else octal ones
abbrev pub zero_literal : List ℕ → ℕ
zero_literal [] = 0
zero_literal (x ∷ bytes) = if x == 120 then digits_from 16 0 bytes else digits_from 8 0 (x ∷ bytes)

-- the number that a literal's bytes stand for
unfoldable pub literal_of : List ℕ → ℕ
literal_of [] = 0
literal_of (b ∷ bytes) = if b == 48 then zero_literal bytes else digits_from 10 0 (b ∷ bytes)
