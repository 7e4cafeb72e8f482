-- The call is a walk, along which the seat stays at its clock.
use Rattle.thread_stream.specs.History.{Call}
use Rattle.thread_stream.specs.Verdicts.{place}
use Rattle.worked_threads.proofs.tests.telling.traced.Goals as goal

pub returns : goal.returns
returns g c =
    let call : Call = record { event = 0; args = c.args.args.now } in
    let s = c.requires.0 in
    let h = c.requires.1 in
    let after = c.trace.ensures.goes s h c.requires.2 in
    let turn = c.packets_in_turn.ensures.stands s h c.args.stream.now c.requires.2 in
    let walk = c.calls_are_walks.ensures.traces call c.trace.result s (place c.args.stream.now h) (place c.trace.new.self after.0) turn after.1 in
    (c.seats_stay_at_their_clock.ensures s (place c.args.stream.now h) (place c.trace.new.self after.0) walk).0
