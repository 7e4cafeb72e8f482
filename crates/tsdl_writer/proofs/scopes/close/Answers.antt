use Rattle.tsdl_writer.proofs.Printing.{last}
use Rattle.tsdl_writer.proofs.scopes.close.Goals as goal

pub returns : goal.returns
returns c = last c.token.result c.token.ensures (λ one rest text e.
    rw c.from.ensures at
    (c.in_ok-print.ensures _ text (c.in_ok-print-2.ensures _ text (one rest text e))))
