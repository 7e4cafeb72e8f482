use Rattle.tsdl_writer.proofs.Printing.{ap, drop, drop_all, drop_more, flat_map, token_toks, ◌+◌, one_more, all_printed}
use Rattle.tsdl_writer.proofs.printer.Printer.print.Goals as goal

pub loop-token-preserved : goal.loop-token-preserved
loop-token-preserved c =
    let xs = c.args.tokens.now in let i = c.loop-token.token-index in
    one_more _ (flat_map token_toks (drop (i + 1) xs)) c.loop-token.invariant (ap (flat_map token_toks) (drop_more xs i _ c.loop-token-test.true)) c.in_ok-token.ensures

pub returns : goal.returns
returns c = all_printed c.loop-token.invariant (ap (flat_map token_toks) (drop_all c.loop-token.token-index c.args.tokens.now c.loop-token-test.false))
