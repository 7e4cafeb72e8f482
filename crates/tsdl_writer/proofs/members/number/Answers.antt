use Rattle.tsdl_writer.proofs.Printing.{regroup, last}
use Rattle.tsdl_writer.proofs.members.number.Goals as goal

pub returns : goal.returns
returns c = last c.print.result c.print.ensures (λ one. search (regroup, c.in_ok-integer.ensures, one) depth 20)
