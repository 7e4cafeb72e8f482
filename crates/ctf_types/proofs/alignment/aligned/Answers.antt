use Rattle.std.proofs.Common.{arith}
use Rattle.data_types.specs.Alignment.{up}
use Rattle.ctf_types.proofs.SizesLemmas.{up_over}
use Rattle.ctf_types.proofs.alignment.aligned.Goals as goal

pub returns-then-at-gt-LONGEST_PACKET : goal.returns-then-at-gt-LONGEST_PACKET
returns-then-at-gt-LONGEST_PACKET c = λ h. omega (arith, up_over c.args.at c.args.align c.requires)

pub returns : goal.returns
unfolding up
returns c = rw c.from-align.ensures at c.within_packet.ensures
