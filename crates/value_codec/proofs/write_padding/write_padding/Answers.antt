use Rattle.std.proofs.Common.{◌≤◌, arith}
use Rattle.ctf_types.proofs.Ends.{le-up}
use Rattle.value_codec.proofs.WritingLaws.{Writes-zeros}
use Rattle.value_codec.proofs.write_padding.write_padding.Goals as goal

pub zero_bits-requires-clause-ordered : goal.zero_bits-requires-clause-ordered
zero_bits-requires-clause-ordered c = omega (arith, le-up c.args.at c.args.align (omega arith))

pub returns-clause-writes : goal.returns-clause-writes
returns-clause-writes c =
    let onward : c.args.at ≤ c.aligned-start.result = omega (arith, le-up c.args.at c.args.align (omega arith)) in
    Writes-zeros _ _ _ _ _ onward c.zero_bits.ensures.zero c.zero_bits.ensures.others
