-- What a field type is as a whole, once its properties are as they should be: a magic number has 32 bits, an identifier is 16
-- unsigned integers of 8 bits with alignment 8, and what stands in a dynamic array has bits (CTF 1.8.3, section 5.1; barectf 3.1,
-- "Trace type object"; the last is this project's own).
use Rattle.std.specs.Prelude.{◌&&◌, ◌||◌, ℕ, nat_eq, Bool, true, false, not, Option, Some, None, Result, ⊤, codes, if◌then◌else◌}
use Rattle.std.specs.Option.{option_map_or}
use Rattle.std.specs.Str.{bytes_eq}
use Rattle.serde_json.specs.Data.{Data, object, Members, no_members, member}
use Rattle.serde_json.specs.Find.{get_member}
use Rattle.conf_tree.specs.Flaw.{Flaw}
use Rattle.conf_tree.specs.Reading.{optional}
use Rattle.conf_table.specs.declared.place.Place.{Place}
use Rattle.conf_table.specs.declared.place.Place.TheVariants as places
use Rattle.conf_table.specs.Classes.{class_of, is_unsigned_integer, is_static_array}
use Rattle.conf_values.specs.Scalar.{as_natural}
use Rattle.conf_judge.specs.Leaves.{only_if}
use Rattle.conf_judge.specs.Numbers.{natural_in}

abbrev pub is_number : Option ℕ → ℕ → Bool
is_number None n = false
is_number (Some m) n = nat_eq m n

-- an alignment that is 8, or is left out
abbrev pub is_eight : Option Data → Bool
is_eight None = true
is_eight (Some d) = is_number (as_natural d) 8

abbrev pub is_byte : Option Data → Bool
is_byte (Some (object ms)) = option_map_or is_unsigned_integer (class_of ms) false && (is_number (natural_in (codes "size") ms) 8 && is_eight (optional (codes "alignment") ms))
is_byte _ = false

unfoldable pub is_identifier : Members → Bool
is_identifier ms = is_number (natural_in (codes "length") ms) 16 && is_byte (get_member (codes "element-field-type") ms)

-- no empty static array, nor one of such
abbrev mutual
  pub has_bits : Data → Bool
  has_bits (object ms) = not (option_map_or is_static_array (class_of ms) false) || (not (is_number (natural_in (codes "length") ms) 0) && element_has_bits ms)
  has_bits _ = true

  pub element_has_bits : Members → Bool
  element_has_bits no_members = true
  element_has_bits (member k d ms) = if bytes_eq k (codes "element-field-type") then has_bits d else element_has_bits ms

unfoldable pub shape_of : Place → Members → Result ⊤ Flaw
shape_of places.MagicFeature ms = only_if (is_number (natural_in (codes "size") ms) 32)
shape_of places.IdentifierFeature ms = only_if (is_identifier ms)
shape_of places.DynamicElementType ms = only_if (has_bits (object ms))
shape_of _ ms = only_if true
