-- Numbers and texts of a configuration, each as the value is one.
use Rattle.std.specs.Prelude.{ℕ, ◌||◌, ℤ, pos, negsuc, List, Bool, Option, None, Some, nat_le, nat_eq, if◌then◌else◌}
use Rattle.std.specs.List.{list_all}
use Rattle.serde_json.specs.Data.{Data, Num}
use Rattle.serde_json.specs.Find.{as_number, as_integer}
use Rattle.uuid.specs.Text.{parsed}

-- what a whole number is from 0 to 2^64 - 1
abbrev pub natural_or_none : Option ℤ → Option ℕ
natural_or_none None = None
natural_or_none (Some (pos n)) = if nat_le n 18446744073709551615 then Some n else None
natural_or_none (Some (negsuc n)) = None

abbrev pub integer_or_none : Option Num → Option ℤ
integer_or_none None = None
integer_or_none (Some n) = as_integer n

-- the whole number from 0 to 2^64 - 1 that a value is, if it is one
unfoldable pub as_natural : Data → Option ℕ
as_natural d = natural_or_none (integer_or_none (as_number d))

-- no control character but newline and tab
abbrev pub is_printable : List ℕ → Bool
is_printable s = list_all (λ c. nat_le 32 c || nat_eq c 10 || nat_eq c 9) s

-- what a text is as 16 bytes: digits of base 16, with hyphens, braces or a prefix or without
unfoldable pub uuid_in : List ℕ → Option (List ℕ)
uuid_in s = parsed s
