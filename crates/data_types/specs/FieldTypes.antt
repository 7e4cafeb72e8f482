-- Field types of the program as the definitions see them.
use Rattle.std.specs.Prelude.{[], ◌∷◌}
use Rattle.data_types.specs.declared.field_type.FieldType.{FieldType}
use Rattle.data_types.specs.declared.field_type.FieldType.TheVariants.{Int, Enum, Str, Static}
use Rattle.data_types.specs.Chain.{Chain, Number, Labelled, ByteString}

abbrev pub chain_of : FieldType → Chain
chain_of (Int t) = record { lengths = []; leaf = Number t }
chain_of (Enum t) = record { lengths = []; leaf = Labelled t }
chain_of Str = record { lengths = []; leaf = ByteString }
chain_of (Static e n) = record { lengths = n ∷ e.lengths; leaf = e.leaf }
