-- What the fixed words of a configuration stand for (barectf 3.1, "Integer field type object", "Trace type object"): each word
-- of the table has the meaning at its place.
use Rattle.std.specs.Prelude.{ℕ, List, [], ◌∷◌, Option, Some, None, if◌then◌else◌}
use Rattle.std.specs.List.{zip}
use Rattle.std.specs.Str.{bytes_eq}
use Rattle.ctf_types.specs.declared.Base.{Base}
use Rattle.ctf_types.specs.declared.ByteOrder.{ByteOrder}
use Rattle.conf_table.specs.declared.words.Words.TheVariants as choices
use Rattle.conf_table.specs.Words.{words_of}
use Rattle.conf_values.specs.declared.words.TheConstants.{BASES, ORDERS}

-- what the word stands for, if it is one of these
abbrev pub word_in : {A : Type 0} → List (List ℕ × A) → List ℕ → Option A
word_in [] w = None
word_in (row ∷ rows) w = if bytes_eq w row.0 then Some row.1 else word_in rows w

unfoldable pub base_words : List (List ℕ × Base)
base_words = zip (words_of choices.DisplayBase) BASES

unfoldable pub order_words : List (List ℕ × ByteOrder)
order_words = zip (words_of choices.ByteOrder) ORDERS
