use Rattle.std.proofs.Common.{arith}
use Rattle.ctf_types.specs.Layout.{leaf_end}
use Rattle.ctf_types.proofs.SizesLemmas.{past_none}
use Rattle.ctf_types.proofs.size.text_size.Goals as goal

pub returns-in_err-start : goal.returns-in_err-start
unfolding leaf_end
returns-in_err-start c = past_none c.from_residual.result _ c.from_residual.ensures (λ h. c.in_err-start.ensures (omega arith))

pub returns-then-bytes-ge-LONGEST_PACKET : goal.returns-then-bytes-ge-LONGEST_PACKET
unfolding leaf_end
returns-then-bytes-ge-LONGEST_PACKET c = λ h. omega arith

pub returns : goal.returns
unfolding leaf_end
returns c = rw (c.in_ok-start.ensures.1, c.text_len-bytes.ensures) at c.within_packet.ensures
