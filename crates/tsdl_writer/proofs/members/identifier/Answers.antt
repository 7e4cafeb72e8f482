use Rattle.tsdl_writer.proofs.Printing.{regroup, last}
use Rattle.tsdl_writer.proofs.members.identifier.Goals as goal

pub returns : goal.returns
returns c =
    rw c.in-Some.is (last c.print-2.result c.print-2.ensures (λ one. search (regroup, c.in_ok-integer.ensures, c.in_ok-print.ensures, one) depth 30))
