-- Why a text goes on no further as JSON at a place, and what was expected there: one JSON value in UTF-8, where nothing of the kind goes on so, or else what
-- one of three limits asks for. Each limit stands only where the text has what passes it.
use Rattle.std.specs.Prelude.{◌≡◌, ◌<◌, ◌≤◌, ◌+◌, ◌-◌, ◌==◌, ◌&&◌, ◌||◌, Bool, true, false, ℕ, List, ◌++◌, Some, codes, decimal, drop, length, nat_le, slice_get, take, ⊤}
use Rattle.std.specs.Char.{is_ascii_digit}
use Rattle.std.specs.Float.{float_is_finite}
use Rattle.std.specs.Float.Ieee.{Float, binary64}
use Rattle.std.specs.Float.Parse.{parse_float}
use Rattle.std.specs.List.{count_by}
use Rattle.conf_fault.specs.declared.stop.Reason.{Reason}
use Rattle.conf_fault.specs.declared.stop.Reason.TheVariants as reasons
use Rattle.conf_fault.specs.declared.stop.Stop.{Stop}
use Rattle.conf_fault.specs.declared.stop.TheConstants.{MOST_LEVELS}

-- a byte of this kind stands at the place
abbrev pub Stands : (ℕ → Bool) → List ℕ → ℕ → Type 0
Stands is text at = (b : ℕ) × (slice_get text at ≡ Some b) × (is b ≡ true)

-- a bracket that opens an object or a list
abbrev pub opens : ℕ → Bool
opens b = b == 123 || b == 91

-- a bracket that opens, behind as many as there can be levels
abbrev pub IsTooDeep : List ℕ → ℕ → Type 0
IsTooDeep text at = Stands opens text at × (MOST_LEVELS ≤ count_by opens (take at text))

-- a digit stands before the place
abbrev pub EndsInDigit : List ℕ → ℕ → Type 0
EndsInDigit text end = (0 < end) × Stands is_ascii_digit text (end - 1)

-- the last digit of a number that no float can hold
abbrev pub IsTooLarge : List ℕ → ℕ → Type 0
IsTooLarge text at = Stands is_ascii_digit text at
    × ((from : ℕ) × (number : Float) × (parse_float binary64 (take (at + 1 - from) (drop from text)) ≡ Some number) × (float_is_finite number ≡ false))

-- the letters of `\u`, and of the numbers `d800` to `dfff`
abbrev pub is_backslash : ℕ → Bool
is_backslash b = b == 92

abbrev pub is_u : ℕ → Bool
is_u b = b == 117

abbrev pub is_d : ℕ → Bool
is_d b = b == 100 || b == 68

abbrev pub is_8_to_f : ℕ → Bool
is_8_to_f b = b == 56 || b == 57 || (nat_le 97 b && nat_le b 102) || (nat_le 65 b && nat_le b 70)

-- half of a character by its number
abbrev pub IsHalf : List ℕ → Type 0
IsHalf bytes = Stands is_backslash bytes 0 × Stands is_u bytes 1 × Stands is_d bytes 2 × Stands is_8_to_f bytes 3

-- the text has at the place what gives this reason
abbrev pub HasReason : Reason → List ℕ → ℕ → Type 0
HasReason reasons.NotJson text at = ⊤
HasReason reasons.TooDeep text at = IsTooDeep text at
HasReason reasons.TooLarge text at = IsTooLarge text at
HasReason reasons.HalfCharacter text at = IsHalf (drop at text)

abbrev pub Stops : List ℕ → Stop → Type 0
Stops text stop = HasReason stop.reason text stop.at

-- the place is that of a byte of the text, or of its end
pub record IsStop (text : List ℕ) (stop : Stop) : Type 0 where
  pub within : stop.at ≤ length text
  pub reason : Stops text stop

-- what was expected where a text stops for this reason
unfoldable pub reason_words : Reason → List ℕ
reason_words reasons.NotJson = codes "one JSON value in UTF-8"
reason_words reasons.TooDeep = codes "at most " ++ (decimal MOST_LEVELS ++ codes " objects and lists in one another")
reason_words reasons.TooLarge = codes "a number from -1.797e308 to 1.797e308"
reason_words reasons.HalfCharacter = codes "the other half of the character (`\\uXXXX`)"
