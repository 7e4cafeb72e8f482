-- What the values of attributes stand for: numbers in their ranges, flags, texts, words and identifiers of traces.
use Rattle.std.specs.Prelude.{ℕ, ◌^◌, Bool, true, false, ◌==◌, nat_lt, nat_le, if◌then◌else◌, List, [], ◌∷◌, Option, Some, None, ℤ, pos, neg_ℤ, codes, option_map, bytes_eq}
use Rattle.uuid.specs.Text.{parsed}
use Rattle.tsdl_grammar.specs.{declared.tree.Sign.Sign, declared.tree.Sign.TheVariants.Minus, declared.tree.Number.Number, declared.tree.Name.Name}
use Rattle.tsdl_grammar.specs.declared.tree.Value.{Value}
use Rattle.tsdl_grammar.specs.declared.tree.Value.TheVariants as values
use Rattle.tsdl_grammar.specs.Steps.{◌>>=◌, provided}

abbrev pub is_negative : Option Sign → Bool
is_negative (Some Minus) = true
is_negative _ = false

-- any number, with its sign
abbrev pub signed_of : Number → ℤ
signed_of n = if is_negative n.sign then neg_ℤ (pos n.literal) else pos n.literal

-- a number that is not below 0
abbrev pub natural : Number → Option ℕ
natural n = if is_negative n.sign then provided (n.literal == 0) (Some 0) else Some n.literal

-- a number from -2^63 to 2^63 - 1
abbrev pub whole : Number → Option ℤ
whole n = provided (if is_negative n.sign then nat_le n.literal (2 ^ 63) else nat_lt n.literal (2 ^ 63)) (Some (signed_of n))

abbrev pub natural_value : Value → Option ℕ
natural_value (values.Number n) = natural n
natural_value _ = None

abbrev pub whole_value : Value → Option ℤ
whole_value (values.Number n) = whole n
whole_value _ = None

abbrev pub text_value : Value → Option (List ℕ)
text_value (values.Text s) = Some s
text_value _ = None

abbrev pub alone : List ℕ → List (List ℕ) → Option (List ℕ)
alone w [] = Some w
alone w (x ∷ xs) = None

-- the only word of a name
abbrev pub one_word : Name → Option (List ℕ)
one_word n = alone n.first n.rest

abbrev pub word_value : Value → Option (List ℕ)
word_value (values.Name n) = one_word n
word_value _ = None

-- a name of a clock or an event: an identifier or a string
abbrev pub name_value : Value → Option (List ℕ)
name_value (values.Number n) = None
name_value (values.Text s) = Some s
name_value (values.Name n) = one_word n

-- what a word stands for in a table of words
abbrev pub meant_by : {A : Type 0} → List (List ℕ × A) → List ℕ → Option A
meant_by [] w = None
meant_by (row ∷ rows) w = if bytes_eq row.0 w then Some row.1 else meant_by rows w

-- what a number stands for in a table of numbers
abbrev pub numbered : {A : Type 0} → List (ℕ × A) → ℕ → Option A
numbered [] n = None
numbered (row ∷ rows) n = if row.0 == n then Some row.1 else numbered rows n

-- the value of an attribute that has a default
abbrev pub with_default : {A : Type 0} → A → (Value → Option A) → Option Value → Option A
with_default d f None = Some d
with_default d f (Some v) = f v

-- the value of an attribute that may be left out
abbrev pub optional : {A : Type 0} → (Value → Option A) → Option Value → Option (Option A)
optional f None = Some None
optional f (Some v) = option_map Some (f v)

abbrev pub flag_words : List (List ℕ × Bool)
flag_words = (codes "true", true) ∷ (codes "TRUE", true) ∷ (codes "false", false) ∷ (codes "FALSE", false) ∷ []

-- `true TRUE 1 false FALSE 0`
unfoldable pub flag_value : Value → Option Bool
flag_value (values.Number n) = natural n >>= λ number. numbered ((1, true) ∷ (0, false) ∷ []) number
flag_value (values.Text s) = None
flag_value (values.Name n) = one_word n >>= λ w. meant_by flag_words w

-- a string that an identifier of a trace or a clock parses from
unfoldable pub uuid_value : Value → Option (List ℕ)
uuid_value (values.Text s) = parsed s
uuid_value _ = None
