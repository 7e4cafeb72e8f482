use Rattle.std.proofs.Common.{sym, subst}
use Rattle.packet_ring.specs.declared.ring_back_end.RingBackEnd.{RingBackEnd}
use Rattle.packet_ring.specs.Opening.{AreEnds}
use Rattle.worked_threads.proofs.tests.ring_stream.begun.Goals as goal

pub returns-in-Ok : goal.returns-in-Ok
returns-in-Ok c e ends =
    let made = c.in-Ok.ensures in
    (_, _, made.stands, subst (λ (b : RingBackEnd). AreEnds b e) (sym made.back_end_is) ends)
