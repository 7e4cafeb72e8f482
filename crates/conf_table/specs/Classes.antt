-- The classes of field types: the place that a class's word leads to, and which classes may stand at a position. A structure
-- is a payload or a context alone, a dynamic array is a member, and a feature is an unsigned integer or the identifier's array.
use Rattle.std.specs.Prelude.{ℕ, List, [], ◌∷◌, map, Option, Some, None, Bool, true, false, codes, if◌then◌else◌}
use Rattle.std.specs.Str.{bytes_eq}
use Rattle.std.specs.Borrow.{Bor}
use Rattle.serde_json.specs.Data.{Data, Members}
use Rattle.serde_json.specs.Find.{get_member, as_str}
use Rattle.conf_table.specs.declared.place.Place.{Place}
use Rattle.conf_table.specs.declared.place.Place.TheVariants as places
use Rattle.conf_table.specs.declared.field_types.TheConstants as fields

-- a word of a class, and the place that is a field type of the class
pub record ClassWord : Type 0 where
  pub word : List ℕ
  pub place : Place

abbrev pub class_word_of : Bor (List ℕ) × Place → ClassWord
class_word_of c = record { word = c.0.now; place = c.1 }

unfoldable pub class_words : List ClassWord
class_words = map (λ c. record { word = c.0.now; place = c.1 }) fields.CLASSES

abbrev pub class_in : List ℕ → List ClassWord → Option Place
class_in w [] = None
class_in w (c ∷ cs) = if bytes_eq c.word w then Some c.place else class_in w cs

abbrev pub class_named : Option (List ℕ) → Option Place
class_named None = None
class_named (Some word) = class_in word class_words

abbrev pub class_said : Option Data → Option Place
class_said None = None
class_said (Some d) = class_named (as_str d)

-- the place whose properties a field type has, where its class says one
unfoldable pub class_of : Members → Option Place
class_of ms = class_said (get_member (codes "class") ms)

-- the place is a field type of one class
unfoldable pub is_class : Place → Bool
is_class places.UnsignedInteger = true
is_class places.SignedInteger = true
is_class places.UnsignedEnumeration = true
is_class places.SignedEnumeration = true
is_class places.Str = true
is_class places.StaticArray = true
is_class places.DynamicArray = true
is_class places.Structure = true
is_class _ = false

abbrev pub is_structure : Place → Bool
is_structure places.Structure = true
is_structure _ = false

abbrev pub is_dynamic_array : Place → Bool
is_dynamic_array places.DynamicArray = true
is_dynamic_array _ = false

abbrev pub is_unsigned_integer : Place → Bool
is_unsigned_integer places.UnsignedInteger = true
is_unsigned_integer _ = false

abbrev pub is_static_array : Place → Bool
is_static_array places.StaticArray = true
is_static_array _ = false

-- at a position: a field type of this class may stand there
unfoldable pub admits_class : Place → Place → Bool
admits_class places.FieldType class = is_class class
admits_class places.StructureType class = is_structure class
admits_class places.MemberType class = if is_structure class then false else is_class class
admits_class places.ElementType class = if is_structure class then false else (if is_dynamic_array class then false else is_class class)
admits_class places.DynamicElementType class = if is_structure class then false else (if is_dynamic_array class then false else is_class class)
admits_class places.Feature class = is_unsigned_integer class
admits_class places.SizeFeature class = is_unsigned_integer class
admits_class places.MagicFeature class = is_unsigned_integer class
admits_class places.IdentifierFeature class = is_static_array class
admits_class _ class = false
