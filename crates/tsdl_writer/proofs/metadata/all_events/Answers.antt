use Rattle.tsdl_writer.proofs.Printing.{EventType, List, Prints, StreamType, all_event_blocks, ap, block_and_semicolon, drop, drop_all, event_blocks, flat_map-append, subst, text_toks, ◌+◌, ◌∙◌, one_more, all_printed, item}
use Rattle.tsdl_writer.proofs.metadata.all_events.Goals as goal

pub loop-id-preserved : goal.loop-id-preserved
loop-id-preserved c =
    let x = c.index-streams-id.result in let xs = c.args.streams.now in let id = c.loop-id.id in
    one_more (text_toks (event_blocks id 0 x.events)) (text_toks (all_event_blocks (id + 1) (drop (id + 1) xs))) c.loop-id.invariant
    (ap (λ (ys : List StreamType). text_toks (all_event_blocks id ys)) (item xs id x c.loop-id-test.true c.index-streams-id.is) ∙ flat_map-append block_and_semicolon (event_blocks id 0 x.events) (all_event_blocks (id + 1) (drop (id + 1) xs)))
    (subst (λ (es : List EventType). Prints c.loop-id.out c.events.new.out (text_toks (event_blocks id 0 es))) c.as_slice.ensures c.in_ok-events.ensures)

pub returns : goal.returns
returns c = all_printed c.loop-id.invariant (ap (λ (ys : List StreamType). text_toks (all_event_blocks c.loop-id.id ys)) (drop_all c.loop-id.id c.args.streams.now c.loop-id-test.false))
