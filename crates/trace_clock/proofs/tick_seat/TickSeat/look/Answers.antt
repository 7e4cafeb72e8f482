use Rattle.trace_clock.proofs.Histories.{each_once}
use Rattle.trace_clock.proofs.tick_seat.TickSeat.look.Goals as goal

pub returns-clause-once : goal.returns-clause-once
returns-clause-once c = each_once _ _ c.look.ensures.shown
