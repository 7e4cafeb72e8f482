use Rattle.thread_stream.specs.Verdicts.{place}
use Rattle.thread_stream.proofs.Walking.{slot_in_turn, traces_walk}
use Rattle.trace_platform.specs.Readings.{Reads}
use Rattle.trace_stack.specs.OverRings.{ring_platform}
use Rattle.trace_stack.proofs.RingRuns.{through_ends}
use Rattle.worked_threads.proofs.tests.ring_stream.traced.Goals as goal

pub returns : goal.returns
returns c e (s, h, stands, ends) =
    let after = c.trace.ensures.goes s h stands in
    let turn = slot_in_turn s h stands.slot stands.in_hand in
    let w = place c.args.stream.now h in
    let v = place c.trace.new.self after.0 in
    let walk = traces_walk (ring_platform Reads) s w v (record { event = 0; args = c.args.args.now }) c.trace.result turn after.1 in
    (s, after.0, after.2, through_ends Reads s e walk.0 w v walk.1 ends)
