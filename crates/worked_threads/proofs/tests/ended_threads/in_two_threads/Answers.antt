-- What the stream's thread left belongs to the end of its ring that the other thread had, which stays that end.
use Rattle.std.proofs.Common.{◌≡◌, Bool, false, Option, IfSome, subst}
use Rattle.packet_ring.specs.declared.ring_done.RingDone.{RingDone}
use Rattle.packet_ring.specs.declared.ring_end.RingEnd.{RingEnd}
use Rattle.packet_ring.specs.Opening.{AreEnds}
use Rattle.packet_ring.specs.Taking.{IsOwn}
use Rattle.thread_stream.specs.declared.finishing.StreamEnd.{StreamEnd}
use Rattle.worked_threads.proofs.tests.ended_threads.in_two_threads.Goals as goal

pub gathered-answer-requires : goal.gathered-answer-requires
gathered-answer-requires g c =
    let ends = c.in-Ok.ensures.unused in
    let own = subst (λ (o : Option (Bool × StreamEnd RingDone)). IfSome o (λ r. (e : RingEnd) → AreEnds c.in-Ok.back_end e → e.settled ≡ false → IsOwn e r.1.done))
    c.in_ok-as_wanted.was c.join-traced.ensures.first in
    c.join-traced.ensures.second c.in_ok-as_wanted.end.done (own c.in-Ok.ring_end ends.0 ends.4)
