-- The lines of a text, and the number that a line says.
use Rattle.std.specs.Prelude.{ℕ, ◌+◌, ◌-◌, ◌*◌, List, [], ◌∷◌, ◌++◌, Option, Some, None, Result, Ok, Err, if◌then◌else◌, nat_eq, nat_le, ◌&&◌, length, Bool}
use Rattle.std.specs.List.{list_all, slice_split}
use Rattle.std.specs.Char.{is_ascii_digit}

-- what stands before, between and after the newlines, except nothing at the end: the last line needs no newline
unfoldable pub without_empty_end : List (List ℕ) → List (List ℕ)
without_empty_end [] = []
without_empty_end ([] ∷ []) = []
without_empty_end ((c ∷ line) ∷ []) = (c ∷ line) ∷ []
without_empty_end (line ∷ next ∷ lines) = line ∷ without_empty_end (next ∷ lines)

abbrev pub is_newline : ℕ → Bool
is_newline c = nat_eq c 10

abbrev pub lines_of : List ℕ → List (List ℕ)
lines_of text = without_empty_end (slice_split is_newline text)

-- the number that decimal digits say, after those that say n
unfoldable pub decimal_after : ℕ → List ℕ → ℕ
decimal_after n [] = n
decimal_after n (c ∷ line) = decimal_after (10 * n + (c - 48)) line

-- a line says a number where it is one to three digits, and the number is at most 255
abbrev pub is_number : List ℕ → Bool
is_number line = nat_le 1 (length line) && nat_le (length line) 3 && list_all is_ascii_digit line && nat_le (decimal_after 0 line) 255

unfoldable pub number_in : List ℕ → Option ℕ
number_in line = if is_number line then Some (decimal_after 0 line) else None

-- these numbers and then those that were found
abbrev pub joined : List ℕ → Result (List ℕ) ℕ → Result (List ℕ) ℕ
joined numbers (Ok found) = Ok (numbers ++ found)
joined numbers (Err n) = Err n

-- the number of the n-th line and then those that were found
abbrev pub with_first : ℕ → Option ℕ → Result (List ℕ) ℕ → Result (List ℕ) ℕ
with_first n None found = Err n
with_first n (Some v) found = joined (v ∷ []) found

-- the numbers of the lines from the n-th on, or the first line that says none
unfoldable pub numbers_from : ℕ → List (List ℕ) → Result (List ℕ) ℕ
numbers_from n [] = Ok []
numbers_from n (line ∷ lines) = with_first n (number_in line) (numbers_from (n + 1) lines)

abbrev pub numbers_in : List ℕ → Result (List ℕ) ℕ
numbers_in text = numbers_from 1 (lines_of text)
