-- A value of the text as it is written: all of it, without the white space between its parts, which is that which stands in none of its texts.
use Rattle.std.specs.Prelude.{◌≡◌, ◌==◌, ◌<◌, ◌-◌, ◌⊎◌, ◌||◌, ◌++◌, ℕ, List, [], ◌∷◌, Bool, IfSome, false, true, if◌then◌else◌, encode_utf8_all, slice_get}
use Rattle.std.specs.Str.{chars}
use Rattle.conf_fault.specs.declared.written.Within.{Within}
use Rattle.conf_fault.specs.declared.written.Within.TheVariants as withins
use Rattle.conf_fault.specs.Stop.{Stands}

-- white space of JSON: blank, tab, newline, carriage return
abbrev pub is_space : ℕ → Bool
is_space c = c == 32 || (c == 9 || (c == 10 || c == 13))

-- where the next character stands: a quote begins and ends a text, and in a text a backslash takes the next character with it
abbrev pub place_behind : Within → ℕ → Within
place_behind withins.Between c = if c == 34 then withins.Text else withins.Between
place_behind withins.Text c = if c == 34 then withins.Between else (if c == 92 then withins.Escape else withins.Text)
place_behind withins.Escape c = withins.Text

abbrev pub skips : Within → ℕ → Bool
skips withins.Between c = is_space c
skips withins.Text c = false
skips withins.Escape c = false

abbrev pub kept : Within → ℕ → List ℕ
kept within c = if skips within c then [] else c ∷ []

-- the characters that are kept, where the first of them stands so
abbrev pub all_kept : Within → List ℕ → List ℕ
all_kept within [] = []
all_kept within (c ∷ cs) = kept within c ++ all_kept (place_behind within c) cs

-- the text of a value without the white space between its parts
abbrev pub closed_up : List ℕ → List ℕ
closed_up value = encode_utf8_all (all_kept withins.Between (chars value))

-- ---- all of a value

-- a bracket that closes
abbrev pub closes : ℕ → Bool
closes c = c == 93 || c == 125

-- the mark with which a text, a list or an object ends
abbrev pub is_end_mark : ℕ → Bool
is_end_mark c = c == 34 || closes c

-- what can stand behind a number or a word, and goes on none
abbrev pub ends_word : ℕ → Bool
ends_word c = is_space c || (c == 44 || closes c)

-- so many bytes at the front of a text are all of a value and not a front of it, as `1` is of `12`: they end with its mark, or the text ends with them, or what
-- stands behind them goes on no number and no word
abbrev pub IsWhole : List ℕ → ℕ → Type 0
IsWhole text count = ((0 < count) × Stands is_end_mark text (count - 1)) ⊎ IfSome (slice_get text count) (λ c. ends_word c ≡ true)
