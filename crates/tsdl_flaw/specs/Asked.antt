-- What the attributes of blocks and of types are asked for, by their names (CTF 1.8.3, sections 4.1.5, 4.1.9, 7 and 8): numbers of a range, flags, texts, and
-- words of a table. An attribute that no row names is asked for nothing.
use Rattle.std.specs.Prelude.{ℕ, ◌%◌, ◌==◌, Bool, true, false, ◌&&◌, ◌||◌, nat_lt, nat_le, List, [], ◌∷◌, Option, Some, None, codes, bytes_eq}
use Rattle.std.specs.Option.{is_some, option_map_or, unwrap_or}
use Rattle.ctf_types.specs.declared.ByteOrder.TheVariants.{Little, Big}
use Rattle.ctf_types.specs.declared.limits.TheConstants.{LARGEST_ALIGN}
use Rattle.tsdl_grammar.specs.declared.tree.Value.{Value}
use Rattle.tsdl_grammar.specs.declared.tree.Value.TheVariants as values
use Rattle.tsdl_grammar.specs.Steps.{◌>>=◌}
use Rattle.tsdl_grammar.specs.Lookups.{words_of}
use Rattle.tsdl_grammar.specs.AttributeValues.{natural_value, whole_value, text_value, word_value, name_value, flag_value, uuid_value, meant_by}
use Rattle.tsdl_grammar.specs.IntegerMeaning.{order_value, base_value}
use Rattle.tsdl_grammar.specs.MemberMeaning.{encoding_value}
use Rattle.tsdl_grammar.specs.BlockMeaning.{order_table}

-- ---- values

abbrev pub is_natural : Value → Bool
is_natural v = is_some (natural_value v)

-- a number from -2^63 to 2^63 - 1
abbrev pub is_whole : Value → Bool
is_whole v = is_some (whole_value v)

abbrev pub is_text : Value → Bool
is_text v = is_some (text_value v)

-- an identifier or a string
abbrev pub is_label : Value → Bool
is_label v = is_some (name_value v)

abbrev pub is_flag : Value → Bool
is_flag v = is_some (flag_value v)

abbrev pub is_identity : Value → Bool
is_identity v = is_some (uuid_value v)

-- a word for a trace's byte order
abbrev pub is_order : Value → Bool
is_order v = is_some (word_value v >>= meant_by order_table)

-- a word for the byte order of an integer, in a trace of one order or of the other
abbrev pub is_any_order : Value → Bool
is_any_order v = is_some (order_value Little v) || is_some (order_value Big v)

-- a size from 1 to 64 bits
abbrev pub is_size : Value → Bool
is_size v = option_map_or (λ n. nat_lt 0 n && nat_le n 64) (natural_value v) false

-- a power of two up to the largest alignment
abbrev pub is_alignment : Value → Bool
is_alignment v = option_map_or (λ n. nat_lt 0 n && (LARGEST_ALIGN % n == 0)) (natural_value v) false

abbrev pub is_base : Value → Bool
is_base v = is_some (base_value v)

abbrev pub is_encoding : Value → Bool
is_encoding v = is_some (encoding_value v)

-- `clock.NAME.value`
abbrev pub maps : List (List ℕ) → Bool
maps (a ∷ b ∷ c ∷ []) = bytes_eq a (codes "clock") && bytes_eq c (codes "value")
maps _ = false

abbrev pub is_mapping : Value → Bool
is_mapping (values.Name n) = maps (words_of n)
is_mapping _ = false

-- ---- attributes

-- names of attributes, and what each one asks of its value
abbrev pub Asked : Type 0
Asked = List (List ℕ × (Value → Bool))

abbrev pub passes : Option (Value → Bool) → Value → Bool
passes None v = true
passes (Some test) v = test v

-- a value is what the attribute of this name is asked for
abbrev pub fits : Asked → List ℕ → Value → Bool
fits asked w v = passes (meant_by asked w) v

abbrev pub of_trace : Asked
of_trace = (codes "byte_order", is_order) ∷ (codes "major", is_natural) ∷ (codes "minor", is_natural) ∷ (codes "uuid", is_identity) ∷ []

abbrev pub of_stream : Asked
of_stream = (codes "id", is_natural) ∷ []

abbrev pub of_event : Asked
of_event = (codes "name", is_label) ∷ (codes "id", is_natural) ∷ (codes "stream_id", is_natural) ∷ (codes "loglevel", is_natural) ∷ []

abbrev pub of_clock : Asked
of_clock =
    (codes "name", is_label) ∷ (codes "uuid", is_identity) ∷ (codes "description", is_text) ∷ (codes "freq", is_natural) ∷ (codes "precision", is_natural)
    ∷ (codes "offset", is_natural) ∷ (codes "offset_s", is_whole) ∷ (codes "absolute", is_flag) ∷ []

abbrev pub of_integer : Asked
of_integer =
    (codes "size", is_size) ∷ (codes "align", is_alignment) ∷ (codes "signed", is_flag) ∷ (codes "byte_order", is_any_order) ∷ (codes "base", is_base)
    ∷ (codes "map", is_mapping) ∷ []

abbrev pub of_string : Asked
of_string = (codes "encoding", is_encoding) ∷ []

-- what the attributes are asked for in a block or a type of this word
abbrev pub asked_in : List ℕ → Asked
asked_in w =
    unwrap_or
    (meant_by
    ((codes "trace", of_trace) ∷ (codes "stream", of_stream) ∷ (codes "event", of_event) ∷ (codes "clock", of_clock) ∷ (codes "integer", of_integer) ∷ (codes "string", of_string) ∷ []) w)
    []
