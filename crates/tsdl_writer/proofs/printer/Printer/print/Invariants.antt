use Rattle.tsdl_writer.proofs.Printing.{drop, flat_map, token_toks, Leaves}
use Rattle.tsdl_writer.proofs.printer.Printer.print.Given as goal

abbrev pub invariant-loop-token : goal.invariant-loop-token
invariant-loop-token l = Leaves l.initial.self l.self (flat_map token_toks l.tokens) (flat_map token_toks (drop l.token-index l.tokens))
