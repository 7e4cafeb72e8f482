-- The two halves lie one behind the other.
use Rattle.std.proofs.Common.{◌∙◌}
use Rattle.ctf_types.specs.Bits.{bit_of}
use Rattle.bit_codec.proofs.WordLaws.{number_at-two_halves, SameOutside-halves}
use Rattle.bit_codec.proofs.word.put_64.Goals as goal

pub returns-clause-number : goal.returns-clause-number
returns-clause-number c =
    let bits = bit_of c.args.order in
    let front = c.put_32.ensures.number ∙ c.take_part.ensures.part in
    let back = c.put_32-2.ensures.number ∙ c.take_part-2.ensures.part in
    number_at-two_halves c.args.order (bits c.put_32.new.bytes) (bits c.put_32-2.new.bytes) c.args.index 4 c.args.value c.requires.fits front c.put_32-2.ensures.others back

pub returns-clause-others : goal.returns-clause-others
returns-clause-others c =
    let bits = bit_of c.args.order in
    SameOutside-halves (bits c.args.bytes.now) (bits c.put_32.new.bytes) (bits c.put_32-2.new.bytes) c.args.index 4 c.put_32.ensures.others c.put_32-2.ensures.others
