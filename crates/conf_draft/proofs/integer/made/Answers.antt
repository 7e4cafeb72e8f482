use Rattle.std.proofs.Common.{arith}
use Rattle.conf_draft.proofs.Made.{here, integer_made, integer_parts, divisor_small}
use Rattle.conf_draft.proofs.integer.made.Goals as goal

pub overflow_cast-size : goal.overflow_cast-size
overflow_cast-size c = let p = integer_parts c.args.size c.args.align c.args.signed c.args.base c.requires in omega (arith, p.at_most_64)

pub overflow_cast-align : goal.overflow_cast-align
overflow_cast-align c = let p = integer_parts c.args.size c.args.align c.args.signed c.args.base c.requires in let small = divisor_small c.args.align p.power_of_two in omega (arith, small)

pub unwrap-requires : goal.unwrap-requires
unwrap-requires c =
    let p = integer_parts c.args.size c.args.align c.args.signed c.args.base c.requires in
    c.new.ensures.accepted.1 (p.not_empty, p.at_most_64, (p.positive, p.power_of_two))

pub returns : goal.returns
returns c =
    let e = c.new.ensures in
    let is = c.unwrap.ensures in
    integer_made c.unwrap.result c.args.size c.args.align c.args.signed c.args.base (here _ _ _ is e.size) (here _ _ _ is e.align) (here _ _ _ is e.signed) (here _ _ _ is e.base) (here _ _ _ is e.no_clock)
