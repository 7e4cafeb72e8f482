-- Worked rows of what a writer leaves.
use Rattle.std.specs.Prelude.{◌≡◌, [], ◌∷◌, None, false, refl}
use Rattle.std.proofs.Common.{lit<, lit≤}
use Rattle.ctf_types.specs.declared.Base.TheVariants.{Dec}
use Rattle.ctf_types.specs.declared.ByteOrder.TheVariants.{Little, Big}
use Rattle.ctf_types.specs.declared.FieldType.TheVariants.{Int}
use Rattle.ctf_types.specs.declared.IntType.{IntType}
use Rattle.ctf_types.specs.Alignment.{up}
use Rattle.ctf_types.specs.Bits.{bit_of, number_of, number_at}
use Rattle.ctf_types.specs.Datum.{Unsigned}
use Rattle.ctf_types.specs.Layout.{AnyBits, field_end, leaf_end, end_all, EachLies, FieldLies, LeafLies, IntLies}
use Rattle.value_codec.specs.Writing.{NumberLies, elements_end, ElementsLie}

three_bits : IntType
three_bits = record { size = 3; align = 1; signed = false; base = Dec; clock = None; not_empty = lit< tt; at_most_64 = lit≤ tt; positive = lit< tt; power_of_two = refl }

twelve_bits : IntType
twelve_bits = record { size = 12; align = 1; signed = false; base = Dec; clock = None; not_empty = lit< tt; at_most_64 = lit≤ tt; positive = lit< tt; power_of_two = refl }

far_byte : IntType
far_byte = record { size = 8; align = 64; signed = false; base = Dec; clock = None; not_empty = lit< tt; at_most_64 = lit≤ tt; positive = lit< tt; power_of_two = refl }

-- a 12-bit 0xabc behind a 4-bit 5
little_behind_four_bits : NumberLies Little (bit_of Little (0xc5 ∷ 0xab ∷ [])) AnyBits twelve_bits 4 0xabc
unfolding twelve_bits up bit_of number_of number_at
little_behind_four_bits = (tt, refl)

big_behind_four_bits : NumberLies Big (bit_of Big (0x5a ∷ 0xbc ∷ [])) AnyBits twelve_bits 4 0xabc
unfolding twelve_bits up bit_of number_of number_at
big_behind_four_bits = (tt, refl)

-- a byte of alignment 64 behind one byte
byte_at_its_alignment : NumberLies Little (bit_of Little (1 ∷ 0 ∷ 0 ∷ 0 ∷ 0 ∷ 0 ∷ 0 ∷ 0 ∷ 2 ∷ [])) AnyBits far_byte 8 2
unfolding far_byte up bit_of number_of number_at
byte_at_its_alignment = (tt, refl)

-- three 3-bit integers 1, 2 and 3
three_elements_end : elements_end (Int three_bits) 0 (Unsigned 1 ∷ Unsigned 2 ∷ Unsigned 3 ∷ []) ≡ 9
unfolding three_bits up leaf_end field_end end_all
three_elements_end = refl

little_elements : ElementsLie Little (bit_of Little (0xd1 ∷ 0x00 ∷ [])) AnyBits (Int three_bits) 0 (Unsigned 1 ∷ Unsigned 2 ∷ Unsigned 3 ∷ [])
unfolding three_bits up bit_of number_of number_at leaf_end field_end EachLies FieldLies LeafLies IntLies
little_elements = ((tt, refl), ((tt, refl), ((tt, refl), tt)))

big_elements : ElementsLie Big (bit_of Big (0x29 ∷ 0x80 ∷ [])) AnyBits (Int three_bits) 0 (Unsigned 1 ∷ Unsigned 2 ∷ Unsigned 3 ∷ [])
unfolding three_bits up bit_of number_of number_at leaf_end field_end EachLies FieldLies LeafLies IntLies
big_elements = ((tt, refl), ((tt, refl), ((tt, refl), tt)))
