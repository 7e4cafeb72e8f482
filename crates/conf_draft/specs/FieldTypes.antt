-- The field type that an object is, by its class (barectf 3.1, "Field type objects").
use Rattle.std.specs.Prelude.{ℕ, nat_le, true, false, Option, Some, None, codes, option_map, unwrap_or, if◌then◌else◌}
use Rattle.std.specs.Str.{bytes_eq}
use Rattle.serde_json.specs.Data.{Data, object, Members, no_members, member}
use Rattle.ctf_types.specs.declared.limits.TheConstants.{MAX_ELEMENTS}
use Rattle.ctf_types.specs.declared.FieldType.{FieldType}
use Rattle.ctf_types.specs.declared.FieldType.TheVariants as fields
use Rattle.ctf_types.specs.FieldTypes.{chain_of}
use Rattle.conf_table.specs.declared.place.Place.{Place}
use Rattle.conf_table.specs.declared.place.Place.TheVariants as places
use Rattle.conf_table.specs.Classes.{class_of}
use Rattle.conf_draft.specs.Enumerations.{enumeration}
use Rattle.conf_draft.specs.Integers.{integer}
use Rattle.conf_draft.specs.Lookups.{natural}

abbrev pub static : ℕ → Option FieldType → Option FieldType
static length None = None
static length (Some t) = if nat_le length MAX_ELEMENTS then Some (fields.Static (chain_of t) length) else None

unfoldable pub length_of : Members → ℕ
length_of ms = unwrap_or (natural (codes "length") ms) 0

-- an object of this class, which has these elements if it is an array
unfoldable pub of_class : Option Place → Members → Option FieldType → Option FieldType
of_class (Some places.UnsignedInteger) ms element = option_map (λ t. fields.Int t) (integer false ms)
of_class (Some places.SignedInteger) ms element = option_map (λ t. fields.Int t) (integer true ms)
of_class (Some places.UnsignedEnumeration) ms element = option_map (λ t. fields.Enum t) (enumeration false ms)
of_class (Some places.SignedEnumeration) ms element = option_map (λ t. fields.Enum t) (enumeration true ms)
of_class (Some places.Str) ms element = Some fields.Str
of_class (Some places.StaticArray) ms element = static (length_of ms) element
of_class _ ms element = None

abbrev mutual
  pub field_type : Data → Option FieldType
  field_type (object ms) = of_class (class_of ms) ms (element ms)
  field_type _ = None

  -- the elements of an array
  pub element : Members → Option FieldType
  element no_members = None
  element (member k d ms) = if bytes_eq k (codes "element-field-type") then field_type d else element ms
