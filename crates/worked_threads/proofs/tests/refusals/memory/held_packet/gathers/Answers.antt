-- What the stream left belongs to the end of its ring, before the first collection and so after it.
use Rattle.worked_threads.proofs.tests.refusals.memory.held_packet.gathers.Goals as goal

pub gathered-answer-requires : goal.gathered-answer-requires
gathered-answer-requires g c =
    let e = c.args.lane.now.ring_end in
    c.holds_until_collected.ensures.lane c.ended-end.result.done (c.ended-end.ensures e (c.holds_until_collected.ensures.stream e c.requires.ends) c.requires.open)
