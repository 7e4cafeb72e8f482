use Rattle.tsdl_writer.proofs.Printing.{last}
use Rattle.tsdl_writer.proofs.members.+lengths.Goals as goal

pub returns-in_ok-print-in-Static : goal.returns-in_ok-print-in-Static
returns-in_ok-print-in-Static t c =
    last c.lengths.result (rw c.field_type.ensures at c.lengths.ensures) (λ one rest text e. rw c.in-Static.is (rw c.from.ensures at (c.in_ok-print-in-Static.ensures _ text (one rest text e))))
