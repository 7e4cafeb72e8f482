use Rattle.std.proofs.Common.{◌∙◌, ap, length}
use Rattle.trace_text.specs.PrintedStreams.{counted_line, last_discarded, record_count, stream_line}
use Rattle.trace_text.proofs.Saying.{said}
use Rattle.trace_text.proofs.printing_streams.say_stream.Goals as goal

pub returns : goal.returns
unfolding stream_line
returns g c =
    let s = c.args.stream.now in
    let packets = c.as_slice-packets.ensures in
    let records = c.record_count.ensures ∙ ap record_count packets in
    let discarded = c.last_discarded.ensures ∙ ap last_discarded packets in
    said (stream_line c.args.metadata.now s)
    (λ i. counted_line s.name (record { packets = length (packets i); records = records i; discarded = discarded i; gaps = c.gaps.ensures i }) s.end)
    c.say_line.ensures
