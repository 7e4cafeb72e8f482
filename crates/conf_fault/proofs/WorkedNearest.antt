-- Worked rows: how much of two words is alike, and which word is nearest.
use Rattle.std.proofs.Common.{◌≡◌, refl}
use Rattle.std.specs.Prelude.{codes}
use Rattle.conf_fault.specs.Wanted.{likeness}

-- a letter is left out: six bytes in front of it, four behind it
pub a_letter_less : likeness (codes "enviroment") (codes "environment") ≡ 10
a_letter_less = refl

pub a_beginning : likeness (codes "hexa") (codes "hexadecimal") ≡ 4
a_beginning = refl

-- no byte counts twice
pub all_of_it : likeness (codes "aa") (codes "aaa") ≡ 2
all_of_it = refl

pub nothing : likeness (codes "real") (codes "uint") ≡ 0
nothing = refl
