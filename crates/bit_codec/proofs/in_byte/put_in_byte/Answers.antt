-- Only the byte that is written changes, and in it only the number's bits.
use Rattle.std.proofs.Common.{◌/◌, ◌<◌, length, arith}
use Rattle.bit_codec.proofs.PartLaws.{number_at-set_part, SameOutside-set_part}
use Rattle.bit_codec.proofs.in_byte.put_in_byte.Goals as goal

pub returns-clause-number : goal.returns-clause-number
returns-clause-number c =
    let within : c.args.at / 8 < length c.args.bytes.now = omega arith in
    number_at-set_part c.args.order c.args.bytes.now c.args.at c.args.n c.with_bits.result c.args.value c.requires.in_byte within c.requires.fits
    (rw c.lowest.ensures.place at c.with_bits.ensures.inside)

pub returns-clause-others : goal.returns-clause-others
returns-clause-others c =
    let within : c.args.at / 8 < length c.args.bytes.now = omega arith in
    SameOutside-set_part c.args.order c.args.bytes.now c.args.at c.args.n c.with_bits.result c.requires.in_byte within
    (rw c.lowest.ensures.place at c.with_bits.ensures.below)
    (rw c.lowest.ensures.place at c.with_bits.ensures.above)
