-- The kinds of bytes that TSDL's tokens are made of, by their ASCII codes (CTF 1.8.3, appendix C.1, after C's tokens).
use Rattle.std.specs.Prelude.{ℕ, Bool, ◌==◌, ◌||◌, not, nat_le, ◌&&◌}
use Rattle.std.specs.Char.{is_ascii_alphabetic, is_ascii_alphanumeric}

-- a space, a tab, a newline, a vertical tab, a form feed or a carriage return
abbrev pub is_blank : ℕ → Bool
is_blank b = b == 32 || (nat_le 9 b && nat_le b 13)

-- a letter or `_`
abbrev pub is_name_start : ℕ → Bool
is_name_start b = is_ascii_alphabetic b || b == 95

-- a letter, a digit or `_`
abbrev pub is_name_byte : ℕ → Bool
is_name_byte b = is_ascii_alphanumeric b || b == 95

abbrev pub is_octal_digit : ℕ → Bool
is_octal_digit b = nat_le 48 b && nat_le b 55

-- `u`, `U`, `l` or `L`
abbrev pub is_suffix : ℕ → Bool
is_suffix b = b == 117 || b == 85 || b == 108 || b == 76

-- all that a `//` comment runs over
abbrev pub not_newline : ℕ → Bool
not_newline b = not (b == 10)
