use Rattle.std.proofs.Common.{◌*◌}
use Rattle.ctf_types.specs.declared.ByteOrder.{ByteOrder}
use Rattle.ctf_types.specs.Bits.{bit_of, AreZero, SameOutside}
use Rattle.bit_codec.proofs.zero.zero_bytes.Given as goal

abbrev pub invariant-loop-index : goal.invariant-loop-index
invariant-loop-index l = record {
  zero : (o : ByteOrder) → AreZero (bit_of o l.bytes) (8 * l.fn.from) (8 * l.index);
  others : (o : ByteOrder) → SameOutside (bit_of o l.bytes) (bit_of o l.initial.bytes) (8 * l.fn.from) (8 * l.index);
}
