use Rattle.std.proofs.Common.{◌-◌, ◌/◌, ◌^◌, arith}
use Rattle.std.proofs.lemmas.Nat.{one_shl, mod_below, pow_pos}
use Rattle.bit_codec.proofs.number_parts.take_part.Goals as goal

pub returns-in-Little-clause-part : goal.returns-in-Little-clause-part
returns-in-Little-clause-part c = rw (c.in-Little.is, one_shl c.args.size 64 (omega arith))

pub returns-in-Little-clause-below : goal.returns-in-Little-clause-below
returns-in-Little-clause-below c =
    rw (one_shl c.args.size 64 (omega arith)) (mod_below (c.args.value / 2 ^ c.args.from) (2 ^ c.args.size) (pow_pos c.args.size))

pub returns-in-Big-clause-part : goal.returns-in-Big-clause-part
returns-in-Big-clause-part c = rw (c.in-Big.is, one_shl c.args.size 64 (omega arith))

pub returns-in-Big-clause-below : goal.returns-in-Big-clause-below
returns-in-Big-clause-below c =
    rw (one_shl c.args.size 64 (omega arith)) (mod_below (c.args.value / 2 ^ (c.args.n - c.args.from - c.args.size)) (2 ^ c.args.size) (pow_pos c.args.size))
