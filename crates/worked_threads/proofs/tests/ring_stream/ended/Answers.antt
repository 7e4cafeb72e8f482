use Rattle.packet_ring.proofs.Pairs.{own_end}
use Rattle.thread_stream.specs.Verdicts.{place}
use Rattle.thread_stream.proofs.Walking.{slot_in_turn, finishes_walk, finishes_at_end}
use Rattle.trace_platform.specs.Readings.{Reads}
use Rattle.trace_stack.specs.OverRings.{ring_platform}
use Rattle.trace_stack.proofs.RingRuns.{through_ends}
use Rattle.worked_threads.proofs.tests.ring_stream.ended.Goals as goal

pub returns : goal.returns
returns c e (s, h, stands, ends) open_still =
    let z = c.finish-end.ensures s h stands in
    let w = place c.args.stream h in
    let left = c.finish-end.result.0.left in
    let done = c.finish-end.result.0.done in
    let turn = slot_in_turn s h stands.slot stands.in_hand in
    let walk = finishes_walk (ring_platform Reads) s w z.0 left done turn z.1 in
    own_end z.0.back_end done e (through_ends Reads s e walk.0 w z.0 walk.1 ends) open_still (finishes_at_end (ring_platform Reads) s w z.0 left done z.1)
