-- Worked rows of the layout: where small structures lie in bytes that are written out, in both byte orders, and where they end.
use Rattle.std.specs.Prelude.{◌≡◌, ℕ, negsuc, List, [], ◌∷◌, None, true, false, codes, refl}
use Rattle.std.proofs.Common.{lit<, lit≤, arith}
use Rattle.data_types.specs.declared.base.Base.TheVariants.{Dec}
use Rattle.data_types.specs.declared.byte_order.ByteOrder.TheVariants.{Little, Big}
use Rattle.data_types.specs.declared.int_type.IntType.{IntType}
use Rattle.data_types.specs.declared.field_type.FieldType.TheVariants.{Int, Str, Static}
use Rattle.data_types.specs.declared.member_type.Length.TheVariants.{Auto}
use Rattle.data_types.specs.declared.member_type.MemberType.TheVariants.{Plain, Dyn}
use Rattle.data_types.specs.declared.struct_type.StructType.{StructType}
use Rattle.data_types.specs.Alignment.{up}
use Rattle.ctf_types.specs.Bits.{bit_of, number_of, number_at, signed_of}
use Rattle.data_types.specs.Chain.{Number}
use Rattle.data_types.specs.Datum.{Unsigned, Signed, Text, Many, items_of}
use Rattle.data_types.specs.FieldTypes.{chain_of}
use Rattle.ctf_types.specs.Layout.{largest_align, leaf_end, end_all, field_end, member_end, members_end, struct_end, IntLies, BytesLie, TextLies, LeafLies, EachLies, ArrayLies, FieldLies, CountLies, MemberLies, MembersLie, StructLies, AnyBits}

-- ---- types

abbrev three_bits : IntType
three_bits = record { size = 3; align = 1; signed = false; base = Dec; clock = None; not_empty = lit< tt; at_most_64 = lit≤ tt; positive = lit< tt; power_of_two = refl }

abbrev four_bits : IntType
four_bits = record { size = 4; align = 1; signed = false; base = Dec; clock = None; not_empty = lit< tt; at_most_64 = lit≤ tt; positive = lit< tt; power_of_two = refl }

abbrev five_bits : IntType
five_bits = record { size = 5; align = 1; signed = false; base = Dec; clock = None; not_empty = lit< tt; at_most_64 = lit≤ tt; positive = lit< tt; power_of_two = refl }

abbrev five_signed_bits : IntType
five_signed_bits = record { size = 5; align = 1; signed = true; base = Dec; clock = None; not_empty = lit< tt; at_most_64 = lit≤ tt; positive = lit< tt; power_of_two = refl }

abbrev twelve_bits : IntType
twelve_bits = record { size = 12; align = 1; signed = false; base = Dec; clock = None; not_empty = lit< tt; at_most_64 = lit≤ tt; positive = lit< tt; power_of_two = refl }

abbrev aligned_byte : IntType
aligned_byte = record { size = 8; align = 8; signed = false; base = Dec; clock = None; not_empty = lit< tt; at_most_64 = lit≤ tt; positive = lit< tt; power_of_two = refl }

-- ---- a 3-bit 5 and a 5-bit 17

abbrev three_and_five : StructType
three_and_five = record { members = (codes "a", Plain (Int three_bits)) ∷ (codes "b", Plain (Int five_bits)) ∷ []; min_align = 1; positive = lit< tt; power_of_two = refl }

little_three_and_five : StructLies Little (bit_of Little (0x8d ∷ [])) AnyBits three_and_five 0 (Unsigned 5 ∷ Unsigned 17 ∷ [])
unfolding StructLies MembersLie MemberLies FieldLies LeafLies IntLies largest_align member_end field_end leaf_end up bit_of number_of number_at
little_three_and_five = (tt, ((tt, refl), ((tt, refl), tt)))

big_three_and_five : StructLies Big (bit_of Big (0xb1 ∷ [])) AnyBits three_and_five 0 (Unsigned 5 ∷ Unsigned 17 ∷ [])
unfolding StructLies MembersLie MemberLies FieldLies LeafLies IntLies largest_align member_end field_end leaf_end up bit_of number_of number_at
big_three_and_five = (tt, ((tt, refl), ((tt, refl), tt)))

three_and_five_end : struct_end three_and_five 0 (Unsigned 5 ∷ Unsigned 17 ∷ []) ≡ 8
unfolding struct_end members_end largest_align member_end field_end leaf_end up
three_and_five_end = refl

-- ---- a 4-bit 5 and a 12-bit 0xabc

abbrev four_and_twelve : StructType
four_and_twelve = record { members = (codes "a", Plain (Int four_bits)) ∷ (codes "b", Plain (Int twelve_bits)) ∷ []; min_align = 1; positive = lit< tt; power_of_two = refl }

little_four_and_twelve : StructLies Little (bit_of Little (0xc5 ∷ 0xab ∷ [])) AnyBits four_and_twelve 0 (Unsigned 5 ∷ Unsigned 0xabc ∷ [])
unfolding StructLies MembersLie MemberLies FieldLies LeafLies IntLies largest_align member_end field_end leaf_end up bit_of number_of number_at
little_four_and_twelve = (tt, ((tt, refl), ((tt, refl), tt)))

big_four_and_twelve : StructLies Big (bit_of Big (0x5a ∷ 0xbc ∷ [])) AnyBits four_and_twelve 0 (Unsigned 5 ∷ Unsigned 0xabc ∷ [])
unfolding StructLies MembersLie MemberLies FieldLies LeafLies IntLies largest_align member_end field_end leaf_end up bit_of number_of number_at
big_four_and_twelve = (tt, ((tt, refl), ((tt, refl), tt)))

-- ---- a signed 5-bit -3

little_signed : FieldLies Little (bit_of Little (0x1d ∷ [])) AnyBits (Number five_signed_bits) [] 0 (Signed (negsuc 2))
unfolding FieldLies LeafLies IntLies up bit_of number_of number_at signed_of
little_signed = (tt, refl)

big_signed : FieldLies Big (bit_of Big (0xe8 ∷ [])) AnyBits (Number five_signed_bits) [] 0 (Signed (negsuc 2))
unfolding FieldLies LeafLies IntLies up bit_of number_of number_at signed_of
big_signed = (tt, refl)

-- ---- an array of three 3-bit integers 1, 2, 3

abbrev three_threes : StructType
three_threes = record { members = (codes "a", Plain (Static (chain_of (Int three_bits)) 3)) ∷ []; min_align = 1; positive = lit< tt; power_of_two = refl }

little_array : StructLies Little (bit_of Little (0xd1 ∷ 0x00 ∷ [])) AnyBits three_threes 0 (Many (items_of (Unsigned 1 ∷ Unsigned 2 ∷ Unsigned 3 ∷ [])) ∷ [])
unfolding StructLies MembersLie MemberLies FieldLies ArrayLies EachLies LeafLies IntLies largest_align member_end field_end end_all leaf_end up bit_of number_of number_at
little_array = (tt, ((tt, (refl, ((tt, refl), ((tt, refl), ((tt, refl), tt))))), tt))

big_array : StructLies Big (bit_of Big (0x29 ∷ 0x80 ∷ [])) AnyBits three_threes 0 (Many (items_of (Unsigned 1 ∷ Unsigned 2 ∷ Unsigned 3 ∷ [])) ∷ [])
unfolding StructLies MembersLie MemberLies FieldLies ArrayLies EachLies LeafLies IntLies largest_align member_end field_end end_all leaf_end up bit_of number_of number_at
big_array = (tt, ((tt, (refl, ((tt, refl), ((tt, refl), ((tt, refl), tt))))), tt))

array_end : struct_end three_threes 0 (Many (items_of (Unsigned 1 ∷ Unsigned 2 ∷ Unsigned 3 ∷ [])) ∷ []) ≡ 9
unfolding struct_end members_end largest_align member_end field_end end_all leaf_end up
array_end = refl

-- ---- a byte that is aligned, after three bits: five bits before it are unused

abbrev three_and_byte : StructType
three_and_byte = record { members = (codes "a", Plain (Int three_bits)) ∷ (codes "b", Plain (Int aligned_byte)) ∷ []; min_align = 1; positive = lit< tt; power_of_two = refl }

aligned : StructLies Little (bit_of Little (0x00 ∷ 0x05 ∷ 0x07 ∷ [])) AnyBits three_and_byte 3 (Unsigned 5 ∷ Unsigned 7 ∷ [])
unfolding StructLies MembersLie MemberLies FieldLies LeafLies IntLies largest_align member_end field_end leaf_end up bit_of number_of number_at
aligned = (tt, ((tt, refl), ((tt, refl), tt)))

-- the structure begins at the largest alignment of its members, here at bit 8
aligned_end : struct_end three_and_byte 3 (Unsigned 5 ∷ Unsigned 7 ∷ []) ≡ 24
unfolding struct_end members_end largest_align member_end field_end leaf_end up
aligned_end = refl

-- a structure without members aligns nothing
abbrev no_members : StructType
no_members = record { members = []; min_align = 8; positive = lit< tt; power_of_two = refl }

no_members_end : struct_end no_members 3 [] ≡ 3
unfolding struct_end members_end
no_members_end = refl

-- ---- a text, and a dynamic array of two bytes with its length

abbrev text_and_bytes : StructType
text_and_bytes = record { members = (codes "s", Plain Str) ∷ (codes "x", Dyn (Int aligned_byte) Auto) ∷ []; min_align = 1; positive = lit< tt; power_of_two = refl }

abbrev text_bytes : List ℕ
text_bytes = 0x41 ∷ 0x00 ∷ 0x02 ∷ 0x00 ∷ 0x00 ∷ 0x00 ∷ 0x07 ∷ 0x09 ∷ []

text_and_bytes_lie : StructLies Little (bit_of Little text_bytes) AnyBits text_and_bytes 0 (Text (codes "A") ∷ Many (items_of (Unsigned 7 ∷ Unsigned 9 ∷ [])) ∷ [])
unfolding StructLies MembersLie MemberLies FieldLies CountLies ArrayLies EachLies LeafLies TextLies BytesLie IntLies largest_align member_end field_end end_all leaf_end up bit_of number_of number_at
text_and_bytes_lie = (tt, ((tt, (refl, (λ e. absurd (omega arith)), refl)), ((((tt, refl), (tt, (refl, ((tt, refl), ((tt, refl), tt)))))), tt)))

text_and_bytes_end : struct_end text_and_bytes 0 (Text (codes "A") ∷ Many (items_of (Unsigned 7 ∷ Unsigned 9 ∷ [])) ∷ []) ≡ 64
unfolding struct_end members_end largest_align member_end field_end end_all leaf_end up
text_and_bytes_end = refl
