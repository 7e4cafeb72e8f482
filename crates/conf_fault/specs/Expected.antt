-- What the table expects of a value, in words: by its content, and at a field type by the position at which it stands.
use Rattle.std.specs.Prelude.{ℕ, ℤ, pos, List, [], ◌∷◌, ◌++◌, Option, None, Some, Bool, if◌then◌else◌, codes, decimal, map, filter}
use Rattle.std.specs.Fmt.{signed_decimal}
use Rattle.std.specs.List.{flat_map}
use Rattle.conf_table.specs.declared.place.Place.{Place}
use Rattle.conf_table.specs.declared.place.Place.TheVariants as places
use Rattle.conf_table.specs.declared.row.Content.{Content}
use Rattle.conf_table.specs.declared.row.Content.TheVariants as contents
use Rattle.conf_table.specs.declared.row.Entries.{Entries}
use Rattle.conf_table.specs.Table.{entries_of, is_by_index}
use Rattle.conf_table.specs.Words.{words_of}
use Rattle.conf_table.specs.Classes.{ClassWord, admits_class, class_words}
use Rattle.conf_fault.specs.Shown.{cut}

unfoldable pub range_words : ℤ → ℤ → List ℕ
range_words low high = codes "a whole number from " ++ (signed_decimal low ++ (codes " to " ++ signed_decimal high))

unfoldable pub text_words : ℕ → List ℕ
text_words most_bytes = codes "a text of " ++ (decimal most_bytes ++ codes " bytes at most, without control characters but newline and tab")

-- words, each cut
abbrev pub further_word : List ℕ → List ℕ
further_word word = codes "`, `" ++ cut word

unfoldable pub listed : List (List ℕ) → List ℕ
listed [] = codes "none"
listed (word ∷ words) = codes "`" ++ cut word ++ flat_map further_word words ++ codes "`"

-- the words of the classes that may stand at a position
abbrev pub may_stand : Place → ClassWord → Bool
may_stand position class = admits_class position class.place

unfoldable pub classes_at : Place → List (List ℕ)
classes_at position = map (λ c. c.word) (filter (may_stand position) class_words)

-- a list, or a map or another object
abbrev pub holder_words : Option Entries → List ℕ
holder_words (Some entries) = if is_by_index entries.keys then codes "a list" else codes "an object"
holder_words None = codes "an object"

-- what stands at a place
unfoldable pub described : Place → List ℕ
described places.StructureType = codes "a structure field type, or the name of an alias of one"
described places.FieldType = codes "a field type, or the name of an alias"
described places.MemberType = codes "a field type that is no structure, or the name of an alias of one"
described places.ElementType = codes "a field type that is neither a structure nor a dynamic array, or the name of an alias of one"
described places.DynamicElementType = codes "a field type that is neither a structure nor a dynamic array, or the name of an alias of one"
described places.Feature = codes "true, false, an unsigned integer field type, or the name of an alias of one"
described places.SizeFeature = codes "true, an unsigned integer field type, or the name of an alias of one: a packet has its sizes"
described places.MagicFeature = codes "true, false, an unsigned integer field type of 32 bits, or the name of an alias of one"
described places.IdentifierFeature = codes "true, false, a static array field type of 16 unsigned integers of 8 bits with alignment 8, or the name of an alias of one"
described places.Entry = codes "an object of one property, the member's name"
described places.Member = codes "the name of an alias, or an object with `field-type`"
described places.Range = codes "a whole number, or a list of the lowest and the highest of a range"
described places.Scalar = codes "a value"
described places.Ignored = codes "any value"
described place = holder_words (entries_of place)

-- a value of this content
unfoldable pub content_words : Content → Place → List ℕ
content_words (contents.Whole low high) position = range_words low high
content_words (contents.PowerOfTwo high) position = codes "a power of two, " ++ (decimal high ++ codes " at most")
content_words contents.Flag position = codes "true or false"
content_words contents.OneFlag position = codes "true or false"
content_words (contents.Text most_bytes) position = text_words most_bytes
content_words contents.ClockName position = codes "the name of a clock type"
content_words contents.Identifier position = codes "a UUID as text"
content_words contents.IdentifierOrAuto position = codes "a UUID as text, or `auto`"
content_words (contents.Word choice) position = listed (words_of choice)
content_words contents.Class position = listed (classes_at position)
content_words (contents.WholeOrText low high most_bytes) position = range_words low high ++ codes ", or " ++ text_words most_bytes
content_words (contents.Level high) position = range_words (pos 0) high ++ codes ", or the name of a log level alias"
content_words (contents.At place) position = described place
content_words contents.Anything position = codes "any value"

-- a value of which the table says this content, or nothing
abbrev pub expected_words : Option Content → Place → List ℕ
expected_words (Some content) position = content_words content position
expected_words None position = codes "what this place allows"
