use Rattle.tsdl_writer.proofs.Printing.{last, groups}
use Rattle.tsdl_writer.proofs.types.integer.Goals as goal

pub returns : goal.returns
returns c = last c.token.result c.token.ensures (λ one rest text e.
    let map = rw c.clock.ensures at (c.in_ok-mapping.ensures _ text (one rest text e)) in
    let base = rw (c.base_number.ensures, c.base.ensures) at (c.in_ok-attribute-4.ensures _ text map) in
    let sign = rw (c.flag_word.ensures, c.is_signed.ensures) at (c.in_ok-attribute-3.ensures _ text base) in
    let align = rw (c.from-2.ensures, c.align.ensures.is) at (c.in_ok-attribute-2.ensures _ text sign) in
    simp groups (c.in_ok-print.ensures _ text (rw (c.from.ensures, c.size.ensures.is) at (c.in_ok-attribute.ensures _ text align))))
