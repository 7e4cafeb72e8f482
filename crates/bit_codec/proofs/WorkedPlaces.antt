-- Worked rows of where a number's bits lie among its own.
use Rattle.std.specs.Prelude.{◌≡◌, refl}
use Rattle.ctf_types.specs.declared.ByteOrder.TheVariants.{Little, Big}
use Rattle.bit_codec.specs.Place.{place_in_number, number_with}

-- the second of five bits
little_second : place_in_number Little 5 1 ≡ 1
little_second = refl

big_second : place_in_number Big 5 1 ≡ 3
big_second = refl

-- the bit 1 after the three bits of 5
little_more : number_with Little 3 5 1 ≡ 13
little_more = refl

big_more : number_with Big 3 5 1 ≡ 11
big_more = refl
