use Rattle.tsdl_writer.proofs.Printing.{codes, refl, two_words, last, block}
use Rattle.tsdl_writer.proofs.blocks.stream.Goals as goal

pub returns : goal.returns
returns c = last c.print-2.result c.print-2.ensures (λ one rest text e.
    let behind = c.in_ok-event_header.ensures _ text (c.in_ok-structure.ensures (two_words (codes "event") (codes "context")) refl _ text (one rest text e)) in
    let all = c.in_ok-print.ensures _ text (c.in_ok-attribute.ensures _ text (c.in_ok-context.ensures _ text behind)) in
    search (block, all))
