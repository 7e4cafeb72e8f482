-- What a member means (CTF 1.8.3, sections 4.1.8, 4.2.3 to 4.2.5): an integer, an enumeration or a string, in as many arrays as it has
-- brackets, of which the first is the outermost. A name in the first bracket makes it a sequence: it names an unsigned integer member
-- that stands before, and the sequence's elements have bits.
use Rattle.std.specs.Prelude.{ℕ, Bool, true, false, not, ◌&&◌, nat_lt, nat_le, List, [], ◌∷◌, length, Option, Some, None, ℤ, int_le, codes, position, bytes_eq, option_map}
use Rattle.std.specs.List.{list_all}
use Rattle.ctf_types.specs.{declared.IntType.IntType, declared.EnumType.EnumType, declared.Mapping.Mapping, declared.FieldType.FieldType}
use Rattle.ctf_types.specs.{declared.FieldType.TheVariants.{Int, Enum, Str, Static}, declared.MemberType.MemberType}
use Rattle.ctf_types.specs.{declared.MemberType.TheVariants.{Plain, Dyn}, declared.Length.TheVariants.At}
use Rattle.ctf_types.specs.{Allowed.elements_of, Chain.{Leaf, Number, Labelled, ByteString}}
use Rattle.ctf_types.specs.declared.limits.TheConstants.{MAX_ARRAYS, MAX_ELEMENTS, MAX_RANGES}
use Rattle.tsdl_grammar.specs.{declared.tree.Value.Value, declared.tree.Attribute.Attribute, declared.tree.Label.Label}
use Rattle.tsdl_grammar.specs.{declared.tree.Label.TheVariants.{Quoted, Bare}, declared.tree.Entry.Entry, declared.tree.Entries.Entries}
use Rattle.tsdl_grammar.specs.{declared.tree.Kind.Kind, declared.tree.Bracket.Bracket, declared.tree.MemberTree.MemberTree}
use Rattle.tsdl_grammar.specs.declared.tree.Entries.TheVariants as entries
use Rattle.tsdl_grammar.specs.declared.tree.Number as numbers
use Rattle.tsdl_grammar.specs.declared.tree.Kind.TheVariants as kinds
use Rattle.tsdl_grammar.specs.declared.tree.Bracket.TheVariants as brackets
use Rattle.tsdl_grammar.specs.Steps.{◌>>=◌, provided, each}
use Rattle.tsdl_grammar.specs.Lookups.{attr}
use Rattle.tsdl_grammar.specs.AttributeValues.{signed_of, natural, word_value, with_default, meant_by}
use Rattle.tsdl_grammar.specs.IntegerMeaning.{Known, int_meaning, has_only}

abbrev pub label_of : Label → List ℕ
label_of (Quoted s) = s
label_of (Bare w) = w

-- one number is its own range
abbrev pub high_of : ℤ → Option numbers.Number → ℤ
high_of low None = low
high_of low (Some n) = signed_of n

-- a range that does not fall; it may lie outside its integer
unfoldable pub entry_meaning : Entry → Option Mapping
entry_meaning e =
    let low = signed_of e.low in let high = high_of low e.high in
    provided (int_le low high) (Some (record { label = label_of e.label; low = low; high = high }))

abbrev pub entries_of : Entries → List Entry
entries_of entries.Empty = []
entries_of (entries.Listed e es closing) = e ∷ es

-- no more ranges than the limit
unfoldable pub enum_meaning : IntType → Entries → Option EnumType
enum_meaning int es = do
  mappings ← provided (nat_le (length (entries_of es)) MAX_RANGES) (each entry_meaning (entries_of es))
  Some (record { int = int; mappings = mappings })

abbrev pub encoding_words : List (List ℕ × Bool)
encoding_words = (codes "UTF8", true) ∷ (codes "utf8", true) ∷ (codes "ASCII", true) ∷ (codes "ascii", true) ∷ (codes "none", true) ∷ []

abbrev pub encoding_value : Value → Option Bool
encoding_value v = word_value v >>= λ w. meant_by encoding_words w

-- a string has an encoding and no other attribute
unfoldable pub text_meaning : Option (List Attribute) → Option Leaf
text_meaning None = Some ByteString
text_meaning (Some attrs) = do
  encoded ← provided (has_only ((codes "encoding" ∷ []) ∷ []) attrs) (with_default true encoding_value (attr (codes "encoding") attrs))
  Some ByteString

unfoldable pub kind_meaning : Known → Kind → Option Leaf
kind_meaning known (kinds.Integer attrs) = option_map Number (int_meaning known attrs)
kind_meaning known (kinds.Enumeration attrs es) = do
  int ← int_meaning known attrs
  option_map Labelled (enum_meaning int es)
kind_meaning known (kinds.Text attrs) = text_meaning attrs

-- a field type without arrays
abbrev pub field_of : Leaf → FieldType
field_of (Number t) = Int t
field_of (Labelled t) = Enum t
field_of ByteString = Str

-- arrays of these lengths, the outermost first
abbrev pub arrays_of : Leaf → List ℕ → FieldType
arrays_of leaf [] = field_of leaf
arrays_of leaf (n ∷ ns) = Static (record { lengths = ns; leaf = leaf }) n

-- static arrays in one another, no deeper and of no more elements than the limits
abbrev pub are_lengths : List ℕ → Bool
are_lengths ns = nat_le (length ns) MAX_ARRAYS && nat_le (elements_of ns) MAX_ELEMENTS

abbrev pub count_of : Bracket → Option ℕ
count_of (brackets.Count n) = natural n
count_of (brackets.Member w) = None

abbrev pub is_unsigned : MemberType → Bool
is_unsigned (Plain (Int t)) = not t.signed
is_unsigned _ = false

-- the place of the unsigned integer member of this name among those before
abbrev pub length_place : List (List ℕ × MemberType) → List ℕ → Option ℕ
length_place before w = position (λ m. bytes_eq w m.0 && is_unsigned m.1) before

unfoldable pub bracketed : List (List ℕ × MemberType) → Leaf → List Bracket → Option MemberType
bracketed before leaf [] = Some (Plain (field_of leaf))
bracketed before leaf (brackets.Count n ∷ rest) = do
  lengths ← each count_of (brackets.Count n ∷ rest)
  provided (are_lengths lengths) (Some (Plain (arrays_of leaf lengths)))
bracketed before leaf (brackets.Member w ∷ rest) = do
  lengths ← each count_of rest
  place ← length_place before w
  provided (are_lengths lengths && list_all (nat_lt 0) lengths) (Some (Dyn (arrays_of leaf lengths) (At place)))

unfoldable pub member_meaning : Known → List (List ℕ × MemberType) → MemberTree → Option MemberType
member_meaning known before m = do
  leaf ← kind_meaning known m.kind
  bracketed before leaf m.brackets
