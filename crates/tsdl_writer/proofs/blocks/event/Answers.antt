use Rattle.tsdl_writer.proofs.Printing.{codes, one_word, refl, last, block}
use Rattle.tsdl_writer.proofs.blocks.event.Goals as goal

pub returns : goal.returns
returns c = last c.print-2.result c.print-2.ensures (λ one rest text e.
    let items = rw c.as_str.ensures at (c.in_ok-attribute.ensures _ text (c.in_ok-attribute-2.ensures _ text (c.in_ok-attribute-3.ensures _ text (c.in_ok-log_level.ensures _ text (c.in_ok-structure.ensures (one_word (codes "context")) refl _ text (c.in_ok-structure-2.ensures (one_word (codes "fields")) refl _ text (one rest text e))))))) in
    let all = c.in_ok-print.ensures _ text items in
    search (block, all))
