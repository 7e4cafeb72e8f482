-- An element nests less deep than its array: what lets a function go down a field type.
-- It is a lemma and stands here because the type itself cites it, which may cite `specs` alone.
use Rattle.std.specs.Prelude.{◌≤◌, length}
use Rattle.std.proofs.Common.{arith}
use Rattle.data_types.specs.declared.field_type.FieldType.{FieldType}
use Rattle.data_types.specs.declared.field_type.FieldType.TheVariants.{Int, Enum, Str, Static}
use Rattle.data_types.specs.declared.field_type.Element.TheDeep.{deep-FieldType}
use Rattle.data_types.specs.FieldTypes.{chain_of}

pub element_falls : (t : FieldType) → deep-FieldType t ≤ length (chain_of t).lengths
element_falls (Int t) = omega arith
element_falls (Enum t) = omega arith
element_falls Str = omega arith
element_falls (Static e n) = omega arith
