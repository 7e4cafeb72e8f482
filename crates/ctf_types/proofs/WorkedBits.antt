-- Worked rows of the bits of numbers, in both byte orders.
use Rattle.std.specs.Prelude.{◌≡◌, negsuc, [], ◌∷◌, refl}
use Rattle.data_types.specs.declared.byte_order.ByteOrder.TheVariants.{Little, Big}
use Rattle.ctf_types.specs.Bits.{bit_of, number_of, number_at, signed_of}

-- a 3-bit 5 and a 5-bit 17 in one byte
little_three_bits : number_at Little (bit_of Little (0x8d ∷ [])) 0 3 ≡ 5
unfolding bit_of number_of number_at
little_three_bits = refl

little_five_bits : number_at Little (bit_of Little (0x8d ∷ [])) 3 5 ≡ 17
unfolding bit_of number_of number_at
little_five_bits = refl

big_three_bits : number_at Big (bit_of Big (0xb1 ∷ [])) 0 3 ≡ 5
unfolding bit_of number_of number_at
big_three_bits = refl

big_five_bits : number_at Big (bit_of Big (0xb1 ∷ [])) 3 5 ≡ 17
unfolding bit_of number_of number_at
big_five_bits = refl

-- a 4-bit 5 and a 12-bit 0xabc
little_four_bits : number_at Little (bit_of Little (0xc5 ∷ 0xab ∷ [])) 0 4 ≡ 5
unfolding bit_of number_of number_at
little_four_bits = refl

little_twelve_bits : number_at Little (bit_of Little (0xc5 ∷ 0xab ∷ [])) 4 12 ≡ 0xabc
unfolding bit_of number_of number_at
little_twelve_bits = refl

big_four_bits : number_at Big (bit_of Big (0x5a ∷ 0xbc ∷ [])) 0 4 ≡ 5
unfolding bit_of number_of number_at
big_four_bits = refl

big_twelve_bits : number_at Big (bit_of Big (0x5a ∷ 0xbc ∷ [])) 4 12 ≡ 0xabc
unfolding bit_of number_of number_at
big_twelve_bits = refl

-- a signed 5-bit -3
little_signed : signed_of 5 (number_at Little (bit_of Little (0x1d ∷ [])) 0 5) ≡ negsuc 2
unfolding bit_of number_of number_at signed_of
little_signed = refl

big_signed : signed_of 5 (number_at Big (bit_of Big (0xe8 ∷ [])) 0 5) ≡ negsuc 2
unfolding bit_of number_of number_at signed_of
big_signed = refl

-- the third of three 3-bit integers 1, 2, 3
little_third : number_at Little (bit_of Little (0xd1 ∷ 0x00 ∷ [])) 6 3 ≡ 3
unfolding bit_of number_of number_at
little_third = refl

big_third : number_at Big (bit_of Big (0x29 ∷ 0x80 ∷ [])) 6 3 ≡ 3
unfolding bit_of number_of number_at
big_third = refl
