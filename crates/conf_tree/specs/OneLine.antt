-- How a text that others wrote is shown on one line: a character that steers and is not seen by what stands for it in C or by its bytes, so that the
-- text reads in one direction and tells a terminal nothing.
use Rattle.std.specs.Prelude.{◌≡◌, ℕ, ◌/◌, ◌%◌, List, [], ◌∷◌, ◌++◌, Bool, true, not, ◌||◌, ◌==◌, if◌then◌else◌, codes, encode_utf8}
use Rattle.std.specs.Char.{digit_char, is_control}
use Rattle.std.specs.Int.{is_in_range}
use Rattle.std.specs.List.{flat_map, list_all}
use Rattle.std.specs.Str.{chars}

-- not seen: a control character (U+0000 to U+001F, U+007F to U+009F), a mark that turns the direction of a line, or one that ends a line or a paragraph
abbrev pub steers : ℕ → Bool
steers c = is_control c || (c == 0x61C || (is_in_range 0x200E 0x200F c || (is_in_range 0x2028 0x202E c || is_in_range 0x2066 0x2069 c)))

abbrev pub is_shown : ℕ → Bool
is_shown c = not (steers c)

-- no character of the text steers
abbrev pub IsOneLine : List ℕ → Type 0
IsOneLine text = list_all is_shown (chars text) ≡ true

-- a byte by two hexadecimal digits
abbrev pub escaped_byte : ℕ → List ℕ
escaped_byte b = codes "\\x" ++ (digit_char (b / 16) ∷ digit_char (b % 16) ∷ [])

-- a character: newline, tab, another one that steers by its bytes in UTF-8, or any other as it is
unfoldable pub shown_character : ℕ → List ℕ
shown_character c = if c == 10 then codes "\\n" else (if c == 9 then codes "\\t" else (if steers c then flat_map escaped_byte (encode_utf8 c) else encode_utf8 c))

-- each character of the text
abbrev pub shown : List ℕ → List ℕ
shown text = flat_map shown_character (chars text)
