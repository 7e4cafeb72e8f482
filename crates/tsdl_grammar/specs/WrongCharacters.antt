-- How a character is shown at which no token begins: in quotes, by its bytes where it is not seen, and a byte of no character by itself.
use Rattle.std.specs.Prelude.{◌≡◌, ℕ, ◌/◌, ◌%◌, ◌⊎◌, Bool, true, false, not, ◌||◌, ◌==◌, List, [], ◌∷◌, ◌++◌, take, flat_map, codes, IfSome, encode_utf8}
use Rattle.std.specs.Char.{IsScalar, digit_char, is_ascii, is_control, is_whitespace}
use Rattle.std.specs.{Fmt.debug_str, Int.is_in_range, Str.StartsWithNoChar, Str.Lossy.utf8_lossy}

-- the bytes as a text in quotes, where it is ASCII
abbrev pub IsQuoted : List ℕ → List ℕ → Type 0
IsQuoted bytes found = IfSome (debug_str (utf8_lossy bytes)) (λ quoted. found ≡ quoted)

-- a byte by two hexadecimal digits
abbrev pub escaped_byte : ℕ → List ℕ
escaped_byte b = codes "\\x" ++ (digit_char (b / 16) ∷ digit_char (b % 16) ∷ [])

-- words in quotes
abbrev pub quoted : List ℕ → List ℕ
quoted words = codes "\"" ++ words ++ codes "\""

-- each byte by its digits, in quotes
abbrev pub by_bytes : List ℕ → List ℕ
by_bytes bytes = quoted (flat_map escaped_byte bytes)

-- no control character, no white space, and no mark without a width, as those that turn the direction of a line or tell the order of bytes
abbrev pub is_seen : ℕ → Bool
is_seen c = not (is_control c || (is_whitespace c || (c == 0xAD || (c == 0x61C
    || (is_in_range 0x200B 0x200F c || (is_in_range 0x202A 0x202E c || (is_in_range 0x2060 0x206F c || c == 0xFEFF)))))))

-- a character in words
pub record IsCharacterWords (c : ℕ) (found : List ℕ) : Type 0 where
  pub ascii : is_ascii c ≡ true → IsQuoted (encode_utf8 c) found
  pub seen : is_ascii c ≡ false → is_seen c ≡ true → found ≡ quoted (encode_utf8 c)
  pub unseen : is_ascii c ≡ false → is_seen c ≡ false → found ≡ by_bytes (encode_utf8 c)

-- some bytes begin with this character
abbrev pub BeginsWith : ℕ → List ℕ → Type 0
BeginsWith c bytes = IsScalar c × ((rest : List ℕ) × (bytes ≡ encode_utf8 c ++ rest))

-- what is said of the character at the front of some bytes, or of their first byte where they begin with no character
abbrev pub IsWrongCharacter : List ℕ → List ℕ → Type 0
IsWrongCharacter bytes found =
    ((c : ℕ) × BeginsWith c bytes × IsCharacterWords c found) ⊎ (StartsWithNoChar bytes × (found ≡ by_bytes (take 1 bytes)))
