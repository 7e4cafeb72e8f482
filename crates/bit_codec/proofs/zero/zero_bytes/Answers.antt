use Rattle.std.proofs.Common.{◌+◌, ◌*◌, set, arith}
use Rattle.ctf_types.specs.declared.ByteOrder.{ByteOrder}
use Rattle.ctf_types.specs.Bits.{bit_of}
use Rattle.bit_codec.proofs.BitLaws.{AreZero-zero_byte, SameOutside-set}
use Rattle.bit_codec.proofs.SpanLaws.{AreZero-none, AreZero-grow, SameOutside-none, SameOutside-then}
use Rattle.bit_codec.proofs.zero.zero_bytes.Goals as goal

pub loop-index-init : goal.loop-index-init
loop-index-init c = record {
  zero = λ o. AreZero-none (bit_of o c.args.bytes.now) (8 * c.args.from);
  others = λ o. SameOutside-none (bit_of o c.args.bytes.now) (8 * c.args.from) (8 * c.args.from);
}

pub loop-index-preserved : goal.loop-index-preserved
loop-index-preserved c =
    let index = c.loop-index.index in
    let from = 8 * c.args.from in
    let here = 8 * index in
    let next = 8 * (index + 1) in
    let first = λ (o : ByteOrder). bit_of o c.args.bytes.now in
    let old = λ (o : ByteOrder). bit_of o c.loop-index.bytes in
    let new = λ (o : ByteOrder). bit_of o (set c.loop-index.bytes index 0) in
    let byte_alone = λ (o : ByteOrder). SameOutside-set o c.loop-index.bytes index 0 in
    let byte_zero = λ (o : ByteOrder). AreZero-zero_byte o c.loop-index.bytes index (omega arith) in
    record {
      zero = λ o. AreZero-grow (old o) (new o) from here next (c.loop-index.invariant.zero o) (byte_alone o) (byte_zero o);
      others = λ o. SameOutside-then (first o) (old o) (new o) from next from here here next (c.loop-index.invariant.others o) (byte_alone o) (omega arith) (omega arith) (omega arith) (omega arith);
    }
