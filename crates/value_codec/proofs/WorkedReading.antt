-- Worked rows of reading: numbers in both byte orders, strings with and without their zero byte, and an empty array that is aligned past the limit.
use Rattle.std.proofs.Common.{◌≡◌, lit<, lit≤}
use Rattle.std.specs.Prelude.{negsuc, [], ◌∷◌, Ok, Err, None, true, false, codes, refl}
use Rattle.ctf_types.specs.declared.Base.TheVariants.{Dec}
use Rattle.ctf_types.specs.declared.ByteOrder.TheVariants.{Little, Big}
use Rattle.ctf_types.specs.declared.IntType.{IntType}
use Rattle.ctf_types.specs.declared.FieldType.TheVariants.{Int}
use Rattle.ctf_types.specs.declared.Length.TheVariants.{At}
use Rattle.ctf_types.specs.declared.MemberType.TheVariants.{Plain, Dyn}
use Rattle.ctf_types.specs.declared.StructType.{StructType}
use Rattle.ctf_types.specs.Alignment.{up}
use Rattle.ctf_types.specs.Bits.{bit_of, number_of, number_at, signed_of}
use Rattle.ctf_types.specs.Chain.{Number, ByteString}
use Rattle.ctf_types.specs.Datum.{Unsigned, Signed, Text, Many, none, item}
use Rattle.ctf_types.specs.Layout.{largest_align}
use Rattle.value_codec.specs.declared.read_fault.ReadFault.TheVariants.{PastEnd, NoTerminator}
use Rattle.value_codec.specs.Reading.{start_at, many_at, bits_at, int_at, bytes_at, text_at, leaf_at, field_at, length_at, member_at, members_at, struct_at}

abbrev three_bits : IntType
three_bits = record { size = 3; align = 1; signed = false; base = Dec; clock = None; not_empty = lit< tt; at_most_64 = lit≤ tt; positive = lit< tt; power_of_two = refl }

abbrev five_bits : IntType
five_bits = record { size = 5; align = 1; signed = false; base = Dec; clock = None; not_empty = lit< tt; at_most_64 = lit≤ tt; positive = lit< tt; power_of_two = refl }

abbrev five_signed_bits : IntType
five_signed_bits = record { size = 5; align = 1; signed = true; base = Dec; clock = None; not_empty = lit< tt; at_most_64 = lit≤ tt; positive = lit< tt; power_of_two = refl }

abbrev aligned_word : IntType
aligned_word = record { size = 32; align = 32; signed = false; base = Dec; clock = None; not_empty = lit< tt; at_most_64 = lit≤ tt; positive = lit< tt; power_of_two = refl }

abbrev pair : StructType
pair = record { members = (codes "a", Plain (Int three_bits)) ∷ (codes "b", Plain (Int five_bits)) ∷ []; min_align = 1; positive = lit< tt; power_of_two = refl }

-- a 3-bit 5 and a 5-bit 17 in one byte
little_pair : struct_at Little (bit_of Little (0x8d ∷ [])) 8 pair 0 ≡ Ok (Unsigned 5 ∷ Unsigned 17 ∷ [], 8)
unfolding up bit_of number_of number_at largest_align start_at bits_at int_at leaf_at field_at member_at members_at struct_at
little_pair = refl

big_pair : struct_at Big (bit_of Big (0xb1 ∷ [])) 8 pair 0 ≡ Ok (Unsigned 5 ∷ Unsigned 17 ∷ [], 8)
unfolding up bit_of number_of number_at largest_align start_at bits_at int_at leaf_at field_at member_at members_at struct_at
big_pair = refl

-- the second does not lie within seven bits
short_pair : struct_at Little (bit_of Little (0x8d ∷ [])) 7 pair 0 ≡ Err PastEnd
unfolding up bit_of number_of number_at largest_align start_at bits_at int_at leaf_at field_at member_at members_at struct_at
short_pair = refl

-- a signed 5-bit -3
little_signed : field_at Little (bit_of Little (0x1d ∷ [])) 8 (Number five_signed_bits) [] 0 ≡ Ok (Signed (negsuc 2), 5)
unfolding up bit_of number_of number_at signed_of bits_at int_at leaf_at field_at
little_signed = refl

-- three 3-bit integers 1, 2, 3
little_array : field_at Little (bit_of Little (0xd1 ∷ 0x00 ∷ [])) 16 (Number three_bits) (3 ∷ []) 0 ≡ Ok (Many (item (Unsigned 1) (item (Unsigned 2) (item (Unsigned 3) none))), 9)
unfolding up bit_of number_of number_at start_at many_at bits_at int_at leaf_at field_at
little_array = refl

-- an empty array is aligned, up to the limit
empty_array : member_at Little (bit_of Little []) 32 (Unsigned 0 ∷ []) (Dyn (Int aligned_word) (At 0)) 8 ≡ Ok (Many none, 32)
unfolding up start_at many_at field_at length_at member_at
empty_array = refl

empty_array_past_the_end : member_at Little (bit_of Little []) 31 (Unsigned 0 ∷ []) (Dyn (Int aligned_word) (At 0)) 8 ≡ Err PastEnd
unfolding up start_at many_at field_at length_at member_at
empty_array_past_the_end = refl

-- the string "Hi"
text : field_at Big (bit_of Big (0x48 ∷ 0x69 ∷ 0 ∷ [])) 24 ByteString [] 0 ≡ Ok (Text (0x48 ∷ 0x69 ∷ []), 24)
unfolding up bit_of number_of number_at bytes_at text_at leaf_at field_at
text = refl

-- it has no zero byte up to the limit
unended_text : field_at Big (bit_of Big (0x48 ∷ 0x69 ∷ 0 ∷ [])) 23 ByteString [] 0 ≡ Err NoTerminator
unfolding up bit_of number_of number_at bytes_at text_at leaf_at field_at
unended_text = refl

-- it begins at the limit
text_at_the_end : field_at Big (bit_of Big (0x48 ∷ 0x69 ∷ 0 ∷ [])) 24 ByteString [] 24 ≡ Err PastEnd
unfolding up bit_of number_of number_at bytes_at text_at leaf_at field_at
text_at_the_end = refl
