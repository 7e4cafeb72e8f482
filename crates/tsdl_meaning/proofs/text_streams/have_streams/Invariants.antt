use Rattle.std.proofs.Common.{◌≡◌, drop}
use Rattle.tsdl_meaning.proofs.TextWords.{have_streams}
use Rattle.tsdl_meaning.proofs.text_streams.have_streams.Given as goal

abbrev pub invariant-loop-event : goal.invariant-loop-event
invariant-loop-event l = have_streams l.streams (drop l.event-index l.events) ≡ have_streams l.streams l.events
