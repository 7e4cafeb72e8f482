-- Where the properties of an object and the items of a list lead, by the place at which they stand (barectf 3.1, "Field type
-- objects").
use Rattle.std.specs.Prelude.{Bool, true, false, unwrap_or, if◌then◌else◌}
use Rattle.serde_json.specs.Data.{Members}
use Rattle.conf_table.specs.declared.place.Place.{Place}
use Rattle.conf_table.specs.declared.place.Place.TheVariants as places
use Rattle.conf_table.specs.declared.row.Content.{Content}
use Rattle.conf_table.specs.declared.row.Content.TheVariants as contents
use Rattle.conf_table.specs.Classes.{class_of}

-- ---- the place whose properties an object has

-- a position of field types, where the class of the field type says which properties it has
unfoldable pub is_position : Place → Bool
is_position places.StructureType = true
is_position places.MemberType = true
is_position places.ElementType = true
is_position places.DynamicElementType = true
is_position places.Feature = true
is_position places.SizeFeature = true
is_position places.MagicFeature = true
is_position places.IdentifierFeature = true
is_position _ = false

-- an alias is judged where it is used, and what is no object has no properties
unfoldable pub own_place : Place → Place
own_place places.FieldType = places.Ignored
own_place places.Members = places.Ignored
own_place places.ExtraMembers = places.Ignored
own_place places.Ranges = places.Ignored
own_place places.Range = places.Ignored
own_place places.Scalar = places.Ignored
own_place place = place

unfoldable pub place_of_properties : Place → Members → Place
place_of_properties place ms = if is_position place then unwrap_or (class_of ms) places.Ignored else own_place place

-- ---- what stands at a value

-- what each item of a list at this place is
unfoldable pub item_content : Place → Content
item_content places.Members = contents.At places.Entry
item_content places.ExtraMembers = contents.At places.Entry
item_content places.Ranges = contents.At places.Range
item_content _ = contents.Anything

abbrev pub is_place : Content → Bool
is_place (contents.At place) = true
is_place _ = false

abbrev pub place_at : Content → Place
place_at (contents.At place) = place
place_at _ = places.Ignored
