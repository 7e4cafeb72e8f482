-- What `integer { .. }` means (CTF 1.8.3, section 4.1.5): its size is needed, from 1 to 64 bits; its alignment is a power of two
-- up to the largest one, by default 8 where the size is a multiple of 8, else 1; it is unsigned and decimal by default; a mapped
-- integer names a clock of the text. An integer has the trace's byte order. Its encoding is passed over, and it has no other attribute.
use Rattle.std.specs.Prelude.{ℕ, ◌%◌, Bool, false, ◌&&◌, ◌==◌, nat_lt, nat_le, if◌then◌else◌, List, [], ◌∷◌, Option, Some, None, codes, bytes_eq}
use Rattle.std.specs.List.{list_all, list_any}
use Rattle.std.proofs.lemmas.Bool.{ltb-true, leb-true, eqb-true}
use Rattle.ctf_types.specs.{declared.ByteOrder.ByteOrder, declared.ByteOrder.TheVariants.{Little, Big}, declared.Base.Base}
use Rattle.ctf_types.specs.{declared.Base.TheVariants.{Bin, Oct, Dec, Hex}, declared.IntType.IntType}
use Rattle.ctf_types.specs.declared.limits.TheConstants.{LARGEST_ALIGN}
use Rattle.tsdl_grammar.specs.{declared.tree.Value.Value, declared.tree.Attribute.Attribute}
use Rattle.tsdl_grammar.specs.declared.tree.Value.TheVariants as values
use Rattle.tsdl_grammar.specs.Steps.{◌>>=◌, provided, proved}
use Rattle.tsdl_grammar.specs.Lookups.{words_of, attr, attr_names, are_distinct, is_among}
use Rattle.tsdl_grammar.specs.AttributeValues.{natural, natural_value, one_word, word_value, flag_value, meant_by, numbered, with_default, optional}

-- what an integer has to know of the whole text: the trace's byte order and the clocks' names
pub record Known : Type 0 where
  pub order : ByteOrder
  pub clocks : List (List ℕ)

-- the integer type of these parts, where its size and alignment are in range
unfoldable pub int_type : ℕ → ℕ → Bool → Base → Option (List ℕ) → Option IntType
int_type size align signed base clock =
    proved (nat_lt 0 size) (λ some. proved (nat_le size 64) (λ at_most. proved (nat_lt 0 align) (λ positive. proved (LARGEST_ALIGN % align == 0) (λ power.
    Some (record {
      size = size;
      align = align;
      signed = signed;
      base = base;
      clock = clock;
      not_empty = ltb-true 0 size some;
      at_most_64 = leb-true size 64 at_most;
      positive = ltb-true 0 align positive;
      power_of_two = eqb-true (LARGEST_ALIGN % align) 0 power;
    })))))

-- 8 where the size is a multiple of 8, else 1
abbrev pub default_align : ℕ → ℕ
default_align size = if size % 8 == 0 then 8 else 1

abbrev pub base_words : List (List ℕ × Base)
base_words =
    (codes "binary", Bin) ∷ (codes "b", Bin) ∷ (codes "octal", Oct) ∷ (codes "oct", Oct) ∷ (codes "o", Oct)
    ∷ (codes "decimal", Dec) ∷ (codes "dec", Dec) ∷ (codes "d", Dec) ∷ (codes "i", Dec) ∷ (codes "u", Dec)
    ∷ (codes "hexadecimal", Hex) ∷ (codes "hex", Hex) ∷ (codes "x", Hex) ∷ (codes "X", Hex) ∷ (codes "p", Hex) ∷ []

abbrev pub base_numbers : List (ℕ × Base)
base_numbers = (2, Bin) ∷ (8, Oct) ∷ (10, Dec) ∷ (16, Hex) ∷ []

unfoldable pub base_value : Value → Option Base
base_value (values.Number n) = natural n >>= λ number. numbered base_numbers number
base_value (values.Text s) = None
base_value (values.Name n) = one_word n >>= λ w. meant_by base_words w

-- the words for a trace's byte order
abbrev pub order_words : ByteOrder → List (List ℕ)
order_words Little = codes "native" ∷ codes "le" ∷ []
order_words Big = codes "native" ∷ codes "be" ∷ codes "network" ∷ []

-- `native`, or the trace's own order
unfoldable pub order_value : ByteOrder → Value → Option ByteOrder
order_value order v = word_value v >>= λ w. provided (list_any (bytes_eq w) (order_words order)) (Some order)

-- the middle word of `clock.NAME.value`, where it names a clock
abbrev pub clock_in : List (List ℕ) → List (List ℕ) → Option (List ℕ)
clock_in clocks (a ∷ b ∷ c ∷ []) =
    provided (bytes_eq a (codes "clock") && bytes_eq c (codes "value") && list_any (bytes_eq b) clocks) (Some b)
clock_in clocks _ = None

unfoldable pub clock_value : List (List ℕ) → Value → Option (List ℕ)
clock_value clocks (values.Name n) = clock_in clocks (words_of n)
clock_value clocks _ = None

abbrev pub int_attrs : List (List (List ℕ))
int_attrs =
    (codes "size" ∷ []) ∷ (codes "align" ∷ []) ∷ (codes "signed" ∷ []) ∷ (codes "byte_order" ∷ [])
    ∷ (codes "base" ∷ []) ∷ (codes "map" ∷ []) ∷ (codes "encoding" ∷ []) ∷ []

-- each attribute is one of these, and none stands twice
abbrev pub has_only : List (List (List ℕ)) → List Attribute → Bool
has_only allowed attrs = are_distinct (attr_names attrs) && list_all (λ a. is_among allowed (words_of a.name)) attrs

unfoldable pub int_meaning : Known → List Attribute → Option IntType
int_meaning known attrs = provided (has_only int_attrs attrs) (do
  size ← attr (codes "size") attrs >>= natural_value
  align ← with_default (default_align size) natural_value (attr (codes "align") attrs)
  signed ← with_default false flag_value (attr (codes "signed") attrs)
  order ← with_default known.order (order_value known.order) (attr (codes "byte_order") attrs)
  base ← with_default Dec base_value (attr (codes "base") attrs)
  clock ← optional (clock_value known.clocks) (attr (codes "map") attrs)
  int_type size align signed base clock)
