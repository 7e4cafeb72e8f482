use Rattle.tsdl_writer.proofs.Printing.{EventType, List, ap, block_and_semicolon, drop, drop_all, event_block, event_blocks, text_toks, ◌+◌, one_more, all_printed, item}
use Rattle.tsdl_writer.proofs.metadata.events.Goals as goal

pub loop-id-preserved : goal.loop-id-preserved
loop-id-preserved c =
    let x = c.index-events-id.result in let xs = c.args.events.now in let id = c.loop-id.id in
    one_more (block_and_semicolon (event_block c.args.stream_id id x)) (text_toks (event_blocks c.args.stream_id (id + 1) (drop (id + 1) xs))) c.loop-id.invariant
    (ap (λ (ys : List EventType). text_toks (event_blocks c.args.stream_id id ys)) (item xs id x c.loop-id-test.true c.index-events-id.is)) c.in_ok-event.ensures

pub returns : goal.returns
returns c = all_printed c.loop-id.invariant (ap (λ (ys : List EventType). text_toks (event_blocks c.args.stream_id c.loop-id.id ys)) (drop_all c.loop-id.id c.args.events.now c.loop-id-test.false))
