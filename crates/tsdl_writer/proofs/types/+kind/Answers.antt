use Rattle.tsdl_writer.proofs.Printing.{last, regroup}
use Rattle.tsdl_writer.proofs.types.+kind.Goals as goal

pub returns-in_ok-entries-in-Enum : goal.returns-in_ok-entries-in-Enum
returns-in_ok-entries-in-Enum t c =
    let labels = rw c.as_slice.ensures at c.in_ok-entries-in-Enum.ensures in
    rw c.in-Enum.is (last c.token-in-Enum.result c.token-in-Enum.ensures (λ one. search (regroup, c.in_ok-print-in-Enum.ensures, c.in_ok-integer-in-Enum.ensures, c.in_ok-token-in-Enum.ensures, labels, one) depth 20))

pub returns-in_ok-attribute-in-Str : goal.returns-in_ok-attribute-in-Str
returns-in_ok-attribute-in-Str t c =
    rw c.in-Str.is (last c.token-in-Str.result c.token-in-Str.ensures (λ one rest text e. c.in_ok-print-in-Str.ensures _ text (c.in_ok-attribute-in-Str.ensures _ text (one rest text e))))

pub returns-in-Static : goal.returns-in-Static
returns-in-Static t c = rw c.in-Static.is (rw c.field_type.ensures at c.kind.ensures)
