use Rattle.thread_stream.specs.Verdicts.{place}
use Rattle.thread_stream.proofs.Walking.{slot_in_turn, closes_walk}
use Rattle.trace_platform.specs.Readings.{Reads}
use Rattle.trace_stack.specs.OverRings.{ring_platform}
use Rattle.trace_stack.proofs.RingRuns.{through_ends}
use Rattle.worked_threads.proofs.tests.ring_stream.closed.Goals as goal

pub returns : goal.returns
returns c e (s, h, stands, ends) =
    let after = c.close_packet.ensures.goes s h stands in
    let turn = slot_in_turn s h stands.slot stands.in_hand in
    let w = place c.args.stream.now h in
    let v = place c.close_packet.new.self after.0 in
    let walk = closes_walk (ring_platform Reads) s w v c.close_packet.result turn after.1 in
    (s, after.0, after.2, through_ends Reads s e walk.0 w v walk.1 ends)
