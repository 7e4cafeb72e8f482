use Rattle.tsdl_writer.proofs.Printing.{SFits, [], clock_numbers, codes, flag_word, item_toks, natural_item, optional_items, rules, sym, text_item, to_z-of_z, uuid_item, w128, w64, whole_item, word_item, ◌++◌, ◌∷◌, last, regroup, pair, block}
use Rattle.tsdl_writer.proofs.blocks.clock.Goals as goal

pub returns : goal.returns
returns c = record {
  prints = last c.print-2.result c.print-2.ensures (λ one rest text e.
      let k = c.args.clock.now in
      let front = word_item (codes "name") k.name ∷ optional_items uuid_item k.uuid in let about = optional_items (text_item (codes "description")) k.description in
      let absolute = word_item (codes "absolute") (flag_word k.absolute) in
      let fits : SFits w64 k.offset_seconds = search rules in let wide : SFits w128 c.from.result = search rules in
      let behind = rw c.flag_word.ensures at (c.in_ok-attribute-3.ensures _ text (one rest text e)) in
      let seconds = rw (to_z-of_z wide, c.from.ensures, to_z-of_z fits) at (c.in_ok-attribute-2.ensures _ text (c.in_ok-natural-3.ensures.prints _ text behind)) in
      let whole = regroup (item_toks (whole_item (codes "offset_s") k.offset_seconds)) (item_toks (natural_item (codes "offset") k.offset_cycles) ++ []) _ seconds in
      let described = c.in_ok-uuid.ensures.prints _ text (c.in_ok-description.ensures _ text (c.in_ok-natural.ensures.prints _ text (c.in_ok-natural-2.ensures.prints _ text whole))) in
      block (codes "clock") (front ++ about) (clock_numbers k) (absolute ∷ []) rest
      (c.in_ok-print.ensures _ text (pair item_toks front about _ (rw (sym c.as_str.ensures) (c.in_ok-attribute.ensures _ text described)))));
  held = last c.print-2.result c.print-2.ensures (λ one. record {
    uuid = c.in_ok-uuid.ensures.held;
    frequency = c.in_ok-natural.ensures.fits;
    precision = c.in_ok-natural-2.ensures.fits;
    offset_seconds = search rules;
    offset_cycles = c.in_ok-natural-3.ensures.fits;
  });
}
