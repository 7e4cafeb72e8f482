use Rattle.std.proofs.Common.{◌≡◌, ◌+◌, ◌-◌, arith}
use Rattle.ctf_types.specs.Bits.{bit_of}
use Rattle.bit_codec.proofs.BitLaws.{bit_of-below}
use Rattle.bit_codec.proofs.NumberLaws.{AreZero-from_number}
use Rattle.bit_codec.proofs.SpanLaws.{AreZero-none, SameOutside-none}
use Rattle.bit_codec.proofs.zero.zero_in_byte.Goals as goal

pub returns-then-from-to-clause-zero : goal.returns-then-from-to-clause-zero
returns-then-from-to-clause-zero c =
    let end : c.args.from + (c.args.to - c.args.from) ≡ c.args.to = omega arith in
    let new = c.put_in_byte.new.bytes in
    rw end at (AreZero-from_number c.args.order (bit_of c.args.order new) c.args.from (c.args.to - c.args.from) (bit_of-below c.args.order new) c.put_in_byte.ensures.number)

pub returns-else-from-to-clause-zero : goal.returns-else-from-to-clause-zero
returns-else-from-to-clause-zero c =
    let none : c.args.to ≡ c.args.from = omega arith in
    rw none (AreZero-none (bit_of c.args.order c.args.bytes.now) c.args.from)

pub returns-else-from-to-clause-others : goal.returns-else-from-to-clause-others
returns-else-from-to-clause-others c = SameOutside-none (bit_of c.args.order c.args.bytes.now) c.args.from c.args.to
