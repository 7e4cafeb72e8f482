use Rattle.tsdl_writer.proofs.Printing.{codes, header_members, natural_item, optional_items, order_word, scope_items, two_words, uuid_item, word_item, ◌∷◌, [], last, block}
use Rattle.tsdl_writer.proofs.blocks.trace.Goals as goal

pub returns : goal.returns
returns c = record {
  prints = last c.print-2.result c.print-2.ensures (λ one rest text e.
      let config = c.args.config.now in
      let front = natural_item (codes "major") 1 ∷ natural_item (codes "minor") 8 ∷ optional_items uuid_item config.uuid in
      let order = word_item (codes "byte_order") (order_word config.order) in let header = scope_items (two_words (codes "packet") (codes "header")) (header_members config.header) 8 in
      let behind = rw c.order_word.ensures at (c.in_ok-attribute-3.ensures _ text (c.in_ok-header.ensures _ text (one rest text e))) in
      block (codes "trace") [] front (order ∷ header) rest (c.in_ok-print.ensures _ text (c.in_ok-attribute.ensures _ text (c.in_ok-attribute-2.ensures _ text (c.in_ok-uuid.ensures.prints _ text behind)))));
  held = last c.print-2.result c.print-2.ensures (λ one. c.in_ok-uuid.ensures.held);
}
