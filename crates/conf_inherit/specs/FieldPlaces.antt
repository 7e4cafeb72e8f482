-- Where the field types of a configuration stand: where the table has one at whatever position, which inheritance
-- takes for the place `FieldType`. There and at a `Member` a text is the name of an alias, and in an object `members`,
-- `field-type`, `element-field-type` and `$inherit` lead on, whatever its class.
use Rattle.std.specs.{Prelude.{ℕ, List, Option, None, Some, Bool, true, false, ◌||◌, codes, if◌then◌else◌}, Str.bytes_eq}
use Rattle.conf_table.specs.{declared.place.Place.Place, Table.under_of}
use Rattle.conf_table.specs.declared.place.Place.TheVariants as places

unfoldable pub inherit_name : List ℕ
inherit_name = codes "$inherit"

unfoldable pub field_type_name : List ℕ
field_type_name = codes "field-type"

-- what a place is to inheritance: a field type is one at whatever position, and what has none in it is ignored
unfoldable pub field_place : Place → Place
field_place places.StructureType = places.FieldType
field_place places.MemberType = places.FieldType
field_place places.ElementType = places.FieldType
field_place places.DynamicElementType = places.FieldType
field_place places.Feature = places.FieldType
field_place places.SizeFeature = places.FieldType
field_place places.MagicFeature = places.FieldType
field_place places.IdentifierFeature = places.FieldType
field_place places.Environment = places.Ignored
field_place places.LogLevelAliases = places.Ignored
field_place places.ClockTypes = places.Ignored
field_place places.ClockType = places.Ignored
field_place places.ClockOffset = places.Ignored
field_place places.Mappings = places.Ignored
field_place places.Ranges = places.Ignored
field_place places.Range = places.Ignored
field_place places.Scalar = places.Ignored
field_place place = place

-- so is a property that the table does not have
abbrev pub field_place_or_none : Option Place → Place
field_place_or_none None = places.Ignored
field_place_or_none (Some place) = field_place place

-- the place of a value in an object at a field type, by its name
unfoldable pub place_in_type : List ℕ → Place
place_in_type k =
    if bytes_eq k (codes "members") then places.Members
    else if bytes_eq k field_type_name then places.FieldType
    else if bytes_eq k (codes "element-field-type") then places.FieldType
    else if bytes_eq k inherit_name then places.FieldType
    else places.Ignored

-- the place of a value in an object, by its name
unfoldable pub place_under : Place → List ℕ → Place
place_under places.FieldType k = place_in_type k
place_under places.Member k = place_in_type k
place_under place k = field_place_or_none (under_of place k)

-- the place of a list's items
unfoldable pub place_of_items : Place → Place
place_of_items places.Members = places.Entry
place_of_items places.ExtraMembers = places.Entry
place_of_items _ = places.Ignored

-- a text is the name of an alias
unfoldable pub names_alias : Place → Bool
names_alias places.FieldType = true
names_alias _ = false

-- a text is the name of the alias that the member's `field-type` has
unfoldable pub names_member_type : Place → Bool
names_member_type places.Member = true
names_member_type _ = false

-- a text is the name of an alias in either way
abbrev pub names_type : Place → Bool
names_type s = names_alias s || names_member_type s

-- the value of this name in an object is what the object inherits from
unfoldable pub is_base_name : Place → List ℕ → Bool
is_base_name places.FieldType k = bytes_eq k inherit_name
is_base_name places.Member k = bytes_eq k inherit_name
is_base_name _ k = false

-- a list is a members list
unfoldable pub lists_members : Place → Bool
lists_members places.Members = true
lists_members places.ExtraMembers = true
lists_members _ = false

-- a list has the extra members of a packet context
unfoldable pub lists_extra_members : Place → Bool
lists_extra_members places.ExtraMembers = true
lists_extra_members _ = false

-- an object is an entry of a members list
unfoldable pub is_entry : Place → Bool
is_entry places.Entry = true
is_entry _ = false
