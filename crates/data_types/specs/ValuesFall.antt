-- Each value of a list nests less deep than the list: what lets a function go down a value.
-- It is a lemma and stands here because the type itself cites it, which may cite `specs` alone.
use Rattle.std.specs.Prelude.{◌≤◌, List, [], ◌∷◌}
use Rattle.std.proofs.Common.{arith}
use Rattle.data_types.specs.declared.value.Value.{Value}
use Rattle.data_types.specs.declared.value.Value.TheVariants as value
use Rattle.data_types.specs.declared.value.Values.TheDeep.{deep-Value}
use Rattle.data_types.specs.Datum.{items_of, depths, depth}
use Rattle.data_types.specs.Values.{datum_of, data_of}
use denote.Param.Weighed.{most}

pub value_falls : (v : Value) → deep-Value v ≤ depth (datum_of v)
value_falls (value.Unsigned n) = omega arith
value_falls (value.Signed z) = omega arith
value_falls (value.Text s) = omega arith
value_falls (value.List ds) = omega arith

pub values_fall : (vs : List Value) → most deep-Value vs ≤ depths (items_of (data_of vs))
values_fall [] = omega arith
values_fall (v ∷ vs) = omega (arith, value_falls v, values_fall vs)
