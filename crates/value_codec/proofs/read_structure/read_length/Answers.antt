use Rattle.std.proofs.Common.{refl}
use Rattle.value_codec.proofs.ReadingMembers.{length_counted, length_placed}
use Rattle.value_codec.proofs.read_structure.read_length.Goals as goal

pub returns-in-Auto-clause-number : goal.returns-in-Auto-clause-number
returns-in-Auto-clause-number c = rw (c.in-Auto.is, length_counted) c.read_bits.ensures.number

pub returns-in-At-clause-number : goal.returns-in-At-clause-number
returns-in-At-clause-number c = rw (c.in-At.is, length_placed, c.count_in.ensures) refl
