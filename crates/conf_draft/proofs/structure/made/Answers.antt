use Rattle.std.proofs.Common.{arith}
use Rattle.conf_draft.proofs.Made.{here, structure_made, structure_parts, divisor_small}
use Rattle.conf_draft.proofs.structure.made.Goals as goal

pub overflow_cast-align : goal.overflow_cast-align
overflow_cast-align c = let p = structure_parts c.args.members c.args.align c.requires in let small = divisor_small c.args.align p.1 in omega (arith, small)

pub unwrap-requires : goal.unwrap-requires
unwrap-requires c = c.new.ensures.accepted.1 (structure_parts c.args.members c.args.align c.requires)

pub returns : goal.returns
returns c = let e = c.new.ensures in let is = c.unwrap.ensures in structure_made c.unwrap.result c.args.members c.args.align (here _ _ _ is e.members) (here _ _ _ is e.min_align)
