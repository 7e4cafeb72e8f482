use Rattle.value_codec.proofs.SignedNumbers.{signed_low, signed_high}
use Rattle.value_codec.proofs.read_number.signed_number.Goals as goal

pub returns-then-number-half : goal.returns-then-number-half
returns-then-number-half c = signed_low c.args.size c.args.number c.requires.some c.requires.at_most_64 c.if-number-half.true

pub returns-else-number-half : goal.returns-else-number-half
returns-else-number-half c = signed_high c.args.size c.args.number c.requires.some c.requires.at_most_64 c.if-number-half.false c.requires.below
