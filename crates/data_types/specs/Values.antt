-- Values of the program as the definitions see them.
use Rattle.std.specs.Prelude.{List, map}
use Rattle.data_types.specs.declared.value.Value.{Value}
use Rattle.data_types.specs.declared.value.Value.TheVariants as value
use Rattle.data_types.specs.Datum.{Datum, Unsigned, Signed, Text, Many, items_of}

abbrev pub datum_of : Value → Datum
datum_of (value.Unsigned n) = Unsigned n
datum_of (value.Signed z) = Signed z
datum_of (value.Text s) = Text s
datum_of (value.List ds) = Many (items_of ds)

abbrev pub data_of : List Value → List Datum
data_of vs = map datum_of vs
