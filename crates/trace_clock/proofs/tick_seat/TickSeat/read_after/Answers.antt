use Rattle.trace_clock.proofs.Histories.{above_told}
use Rattle.trace_clock.proofs.tick_seat.TickSeat.read_after.Goals as goal

pub returns-clause-above : goal.returns-clause-above
returns-clause-above c = above_told _ _ _ _ c.hear.ensures.heard c.read.ensures.above
