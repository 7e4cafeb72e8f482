use Rattle.std.proofs.Common.{sym, ◌∙◌}
use Rattle.tsdl_meaning.proofs.TextWords.{each, with_group}
use Rattle.tsdl_meaning.proofs.NumberOrder.{all_left, one_more_stream}
use Rattle.tsdl_meaning.proofs.text_streams.streams_with.Goals as goal

pub loop-stream-init : goal.loop-stream-init
loop-stream-init c =
    all_left c.args.groups c.args.streams c.into_vec-left.result.items c.reverse.new.self.items c.in_ok-made.made c.into_vec-left.ensures c.reverse.ensures.items c.in_ok-made.ensures c.requires

pub loop-stream-preserved : goal.loop-stream-preserved
loop-stream-preserved c =
    rw c.shrink_to_fit.ensures.items
    (one_more_stream c.args.groups c.loop-stream.left_groups c.with_group.new.groups c.loop-stream.left.items c.pop.new.self.items c.in-Some.stream c.in-Some-with_group.meaning c.loop-stream.made c.push.new.self
    (each (with_group c.args.groups) c.args.streams) c.in-Some.ensures.items (sym c.in-Some-with_group.is ∙ c.with_group.ensures.made) c.with_group.ensures.others c.in_ok-push.ensures.ok
    c.loop-stream.invariant)
