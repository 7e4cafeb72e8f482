use Rattle.tsdl_writer.proofs.Printing.{ap, arith, drop, drop_all, flat_map, length, member_toks_of, ◌+◌, ◌≤◌, one_more, all_printed, member_at}
use Rattle.tsdl_writer.proofs.members.members.Goals as goal

pub loop-index-preserved : goal.loop-index-preserved
loop-index-preserved c =
    let name = c.name_at.result.now in let t = c.member_at.result.now in let ms = c.args.members.now in let i = c.loop-index.index in
    one_more (member_toks_of (name, t)) (flat_map member_toks_of (drop (i + 1) ms)) c.loop-index.invariant
    (ap (flat_map member_toks_of) (member_at ms i name t c.name_at.ensures c.member_at.ensures)) c.in_ok-member.ensures

pub returns : goal.returns
returns c =
    let end : length c.args.members.now ≤ c.loop-index.index = omega arith in
    all_printed c.loop-index.invariant (ap (flat_map member_toks_of) (drop_all c.loop-index.index c.args.members.now end))
