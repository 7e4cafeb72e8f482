use Rattle.tsdl_writer.proofs.Printing.{last}
use Rattle.tsdl_writer.proofs.types.mapping.Goals as goal

pub returns : goal.returns
returns c =
    let last_words = rw c.as_str.ensures at c.in_ok-print-2.ensures in
    rw c.in-Some.is (last c.token.result c.token.ensures (λ one. search (c.in_ok-print.ensures, last_words, one) depth 20))
