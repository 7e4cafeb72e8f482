-- The bits before the first whole byte, the whole bytes, and the bits after them.
use Rattle.std.proofs.Common.{◌*◌, ◌/◌, ◌≤◌, arith}
use Rattle.ctf_types.specs.Bits.{bit_of}
use Rattle.bit_codec.proofs.SpanLaws.{AreZero-none, AreZero-grow, SameOutside-none, SameOutside-then}
use Rattle.bit_codec.proofs.zero.zero_bits.Goals as goal

pub returns-then-from-to-clause-zero : goal.returns-then-from-to-clause-zero
returns-then-from-to-clause-zero c = rw c.if-from-to.true (AreZero-none (bit_of c.args.order c.args.bytes.now) c.args.to)

pub returns-then-from-to-clause-others : goal.returns-then-from-to-clause-others
returns-then-from-to-clause-others c = SameOutside-none (bit_of c.args.order c.args.bytes.now) c.args.from c.args.to

pub returns-then-first_byte-end_byte-clause-zero : goal.returns-then-first_byte-end_byte-clause-zero
returns-then-first_byte-end_byte-clause-zero c =
    let bits = bit_of c.args.order in
    let from = c.args.from in
    let first_byte = 8 * c.div_ceil-first_byte.result in
    let end_byte = 8 * (c.args.to / 8) in
    let before = bits c.zero_in_byte.new.bytes in
    let whole = bits c.zero_bytes.new.bytes in
    let after = bits c.zero_in_byte-then-first_byte-end_byte.new.bytes in
    let zero_whole = AreZero-grow before whole from first_byte end_byte c.zero_in_byte.ensures.zero (c.zero_bytes.ensures.others c.args.order) (c.zero_bytes.ensures.zero c.args.order) in
    AreZero-grow whole after from end_byte c.args.to zero_whole c.zero_in_byte-then-first_byte-end_byte.ensures.others c.zero_in_byte-then-first_byte-end_byte.ensures.zero

pub returns-then-first_byte-end_byte-clause-others : goal.returns-then-first_byte-end_byte-clause-others
returns-then-first_byte-end_byte-clause-others c =
    let bits = bit_of c.args.order in
    let from = c.args.from in
    let to = c.args.to in
    let first_byte = 8 * c.div_ceil-first_byte.result in
    let end_byte = 8 * (c.args.to / 8) in
    let old = bits c.args.bytes.now in
    let before = bits c.zero_in_byte.new.bytes in
    let whole = bits c.zero_bytes.new.bytes in
    let after = bits c.zero_in_byte-then-first_byte-end_byte.new.bytes in
    let starts : from ≤ first_byte = omega (arith, c.div_ceil-first_byte.ensures) in
    let ends : end_byte ≤ to = omega arith in
    let kept_whole = SameOutside-then old before whole from to from first_byte first_byte end_byte c.zero_in_byte.ensures.others (c.zero_bytes.ensures.others c.args.order) (omega arith) (omega arith) starts ends in
    SameOutside-then old whole after from to from to end_byte to kept_whole c.zero_in_byte-then-first_byte-end_byte.ensures.others (omega arith) (omega arith) (omega arith) (omega arith)
