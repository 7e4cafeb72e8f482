use Rattle.tsdl_parser.proofs.Steps.{err_from_is_err_and, shown}
use Rattle.tsdl_parser.proofs.Blocks.{blocks_take, halts_among, unread_blocks}
use Rattle.tsdl_parser.proofs.block.parse.Goals as goal

pub returns-in_err-found : goal.returns-in_err-found
returns-in_err-found c =
    let p = err_from_is_err_and c.from_residual.result c.from_residual.ensures.1 in
    rw (p.1, p.2) (record { found = tt; none = unread_blocks c.in_err-found.field-0.0 (shown c.args.atoms) c.in_err-found.ensures; halts = halts_among c.in_err-found.field-0.0 (shown c.args.atoms) c.in_err-found.ensures })

pub returns : goal.returns
returns c = record { found = rw c.into_vec.ensures (blocks_take (shown c.args.atoms) (c.in_ok-found.found, shown c.in_ok-found.field-0-1) c.in_ok-found.ensures); none = tt; halts = tt }
