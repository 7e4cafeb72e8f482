-- What is wrong with the objects of a resolved configuration, by the table of what they may hold: each case is one way in which a
-- row does not hold, at the value that it is wrong of (barectf 3.1, "Configuration object" and the pages below it).
use Rattle.std.specs.Prelude.{◌≡◌, ◌≢◌, ◌⊎◌, ℕ, true, false, List, ◌∷◌, Contains, Some, None, IsSome, codes}
use Rattle.serde_json.specs.Data.{Data, null, array, object, Items, Members}
use Rattle.serde_json.specs.Find.{get_member, get_item}
use Rattle.conf_tree.specs.declared.fault_kind.FaultKind.TheVariants.{WrongKind, Missing, OutOfRange, Unknown}
use Rattle.conf_tree.specs.Flaw.{Flaw, key, index, here, within}
use Rattle.conf_tree.specs.Reading.{optional}
use Rattle.conf_tree.specs.Walk.{HasMember}
use Rattle.conf_table.specs.declared.place.Place.{Place}
use Rattle.conf_table.specs.declared.place.Place.TheVariants as places
use Rattle.conf_table.specs.declared.row.Content.{Content}
use Rattle.conf_table.specs.declared.row.Content.TheVariants.{At}
use Rattle.conf_table.specs.declared.row.Presence.{Presence}
use Rattle.conf_table.specs.declared.row.Presence.TheVariants.{Needed}
use Rattle.conf_table.specs.Classes.{admits_class, class_of}
use Rattle.conf_table.specs.Table.{Told, rows_of, content_under, presence_under}
use Rattle.conf_values.specs.Broken.{SaysNot}
use Rattle.conf_values.specs.LeafFlaws.{IsNoWordOf}
use Rattle.conf_judge.specs.Places.{is_position, place_of_properties, item_content}
use Rattle.conf_laws.specs.Around.{Around, HasBehind, member_of, item_of, HasNumber}
use Rattle.conf_laws.specs.ValueFlaws.{words_of_classes, IsNoValueOf, IsNoNameAt}

-- ---- the class of a field type

-- where a field type stands: it has no class, or one that cannot stand there
pub data IsNoClassAt (place : Place) (ms : Members) : Flaw → Type 0 where
  no_class : {flaw : Flaw} → is_position place ≡ true → SaysNot (codes "class") (IsNoWordOf words_of_classes) ms flaw → IsNoClassAt place ms flaw
  another_class : (class : Place) → is_position place ≡ true → place ≢ places.IdentifierFeature → class_of ms ≡ Some class → admits_class place class ≡ false → IsNoClassAt place ms (here WrongKind)
  -- an identifier that is no array is one out of range
  no_array : (class : Place) → place ≡ places.IdentifierFeature → class_of ms ≡ Some class → admits_class place class ≡ false → IsNoClassAt place ms (here OutOfRange)

-- ---- the properties of an object

-- a property of this name is this: a row tells of it, or each entry of a map is this; a resolved object inherits from nothing
abbrev pub IsPropertyOf : Place → List ℕ → Content → Type 0
IsPropertyOf place name content = (content_under place name ≡ Some content) × ¬ ((name ≡ codes "$inherit") × IsSome (presence_under place name))

-- a null stands for no value where a value may be left out
abbrev pub IsLeftOut : Place → List ℕ → Data → Type 0
IsLeftOut place name d = (d ≡ null) × ((presence : Presence) × (presence_under place name ≡ Some presence) × (presence ≢ Needed))

-- the object has a property that is in no row of its place, or has not one that it needs; a trace type needs a byte order
pub data HasNotItsRows (place : Place) (ms : Members) : Flaw → Type 0 where
  unknown : (name : List ℕ) (d : Data) → HasMember name d ms → ((content : Content) → ¬ IsPropertyOf place name content) → HasNotItsRows place ms (within (key name) (here Unknown))
  missing : (row : Told) → Contains (rows_of place) row → row.presence ≡ Needed → get_member row.name ms ≡ None → HasNotItsRows place ms (within (key row.name) (here Missing))
  no_byte_order : place ≡ places.TraceType → optional (codes "trace-byte-order") ms ≡ None → optional (codes "native-byte-order") ms ≡ None → HasNotItsRows place ms (within (key (codes "trace-byte-order")) (here Missing))

-- ---- a field type as a whole

-- an unsigned integer of 8 bits with alignment 8, which is that of 8 bits where none is given
abbrev pub IsByte : Members → Type 0
IsByte ms = (class_of ms ≡ Some places.UnsignedInteger) × HasNumber (codes "size") ms 8 × ((optional (codes "alignment") ms ≡ None) ⊎ HasNumber (codes "alignment") ms 8)

-- 16 bytes
abbrev pub IsIdentifier : Members → Type 0
IsIdentifier ms = (element : Members) × HasNumber (codes "length") ms 16 × (get_member (codes "element-field-type") ms ≡ Some (object element)) × IsByte element

-- an empty static array, or one of such
pub data HasNoBits : Data → Type 0 where
  an_empty_array : (ms : Members) → class_of ms ≡ Some places.StaticArray → HasNumber (codes "length") ms 0 → HasNoBits (object ms)
  an_array_of_such : (ms : Members) (element : Data) → class_of ms ≡ Some places.StaticArray → get_member (codes "element-field-type") ms ≡ Some element → HasNoBits element → HasNoBits (object ms)

-- a magic number that has not 32 bits, an identifier that is no array of 16 bytes, or a dynamic array's element without bits
pub data IsNoShapeAt (place : Place) (ms : Members) : Flaw → Type 0 where
  no_magic_number : place ≡ places.MagicFeature → ¬ HasNumber (codes "size") ms 32 → IsNoShapeAt place ms (here OutOfRange)
  no_identifier : place ≡ places.IdentifierFeature → ¬ IsIdentifier ms → IsNoShapeAt place ms (here OutOfRange)
  no_bits : place ≡ places.DynamicElementType → HasNoBits (object ms) → IsNoShapeAt place ms (here OutOfRange)

-- ---- a value and all that it holds

-- a flaw of the value, or of what it holds, seen from the value
pub data IsFlawOf : Around → Content → Data → Flaw → Type 0 where
  wrong_value : {around : Around} {content : Content} {d : Data} {flaw : Flaw} → IsNoValueOf around content d flaw → IsFlawOf around content d flaw
  wrong_class : {around : Around} {place : Place} {ms : Members} {flaw : Flaw} → IsNoClassAt place ms flaw → IsFlawOf around (At place) (object ms) flaw
  wrong_rows : {around : Around} {place : Place} {ms : Members} {flaw : Flaw} → HasNotItsRows (place_of_properties place ms) ms flaw → IsFlawOf around (At place) (object ms) flaw
  wrong_shape : {around : Around} {place : Place} {ms : Members} {flaw : Flaw} → IsNoShapeAt place ms flaw → IsFlawOf around (At place) (object ms) flaw
  wrong_name : {around : Around} {place : Place} {ms : Members} (name : List ℕ) (d : Data) (flaw : Flaw) → HasMember name d ms → IsNoNameAt around (place_of_properties place ms) name d flaw → IsFlawOf around (At place) (object ms) (within (key name) flaw)
  -- a property that is there, and is not null where it may be left out
  in_property : {around : Around} {place : Place} {ms : Members} (before : Members) (name : List ℕ) (d : Data) (content : Content) (flaw : Flaw) → HasBehind before name d ms
      → IsPropertyOf (place_of_properties place ms) name content → ¬ IsLeftOut (place_of_properties place ms) name d
      → IsFlawOf (member_of (place_of_properties place ms) ms before ∷ around) content d flaw → IsFlawOf around (At place) (object ms) (within (key name) flaw)
  in_item : {around : Around} {place : Place} {ds : Items} (i : ℕ) (d : Data) (flaw : Flaw) → get_item i ds ≡ Some d
      → IsFlawOf (item_of place ds i ∷ around) (item_content place) d flaw → IsFlawOf around (At place) (array ds) (within (index i) flaw)
