use Rattle.tsdl_writer.proofs.Printing.{List, StreamType, ap, block_and_semicolon, drop, drop_all, stream_block, stream_blocks, text_toks, ◌+◌, one_more, all_printed, item}
use Rattle.tsdl_writer.proofs.metadata.streams.Goals as goal

pub loop-id-preserved : goal.loop-id-preserved
loop-id-preserved c =
    let x = c.index-streams-id.result in let xs = c.args.streams.now in let id = c.loop-id.id in
    one_more (block_and_semicolon (stream_block id x)) (text_toks (stream_blocks (id + 1) (drop (id + 1) xs))) c.loop-id.invariant
    (ap (λ (ys : List StreamType). text_toks (stream_blocks id ys)) (item xs id x c.loop-id-test.true c.index-streams-id.is)) c.in_ok-stream.ensures

pub returns : goal.returns
returns c = all_printed c.loop-id.invariant (ap (λ (ys : List StreamType). text_toks (stream_blocks c.loop-id.id ys)) (drop_all c.loop-id.id c.args.streams.now c.loop-id-test.false))
