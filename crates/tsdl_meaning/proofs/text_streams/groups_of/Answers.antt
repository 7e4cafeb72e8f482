use Rattle.tsdl_meaning.proofs.TextWords.{events_of}
use Rattle.tsdl_meaning.proofs.NumberOrder.{one_more_event}
use Rattle.tsdl_meaning.proofs.text_streams.groups_of.Goals as goal

pub loop-event-preserved : goal.loop-event-preserved
loop-event-preserved c =
    rw c.shrink_to_fit.ensures.items
    (λ id. one_more_event c.loop-event.groups c.add_event.new.groups c.loop-event.left.items c.pop.new.self.items c.in-Some.event (events_of id c.args.events) id c.in-Some.ensures.items c.in_ok-add_event.ensures (c.loop-event.invariant id))
