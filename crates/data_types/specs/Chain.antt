-- A field type as the definitions see it: the lengths of its nested static arrays, from the outermost inwards, around what is no array.
use Rattle.std.specs.Prelude.{ℕ, List}
use Rattle.data_types.specs.declared.int_type.IntType.{IntType}
use Rattle.data_types.specs.declared.enum_type.EnumType.{EnumType}

pub data Leaf : Type 0 where
  Number : IntType → Leaf
  Labelled : EnumType → Leaf
  ByteString : Leaf

pub record Chain : Type 0 where
  pub lengths : List ℕ
  pub leaf : Leaf
