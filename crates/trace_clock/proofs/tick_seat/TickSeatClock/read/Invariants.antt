use Rattle.trace_clock.proofs.tick_seat.TickSeatClock.read.Given as goal

abbrev pub ghosts-draw : goal.ghosts-draw
ghosts-draw a = record { bounds = a.table.now.shared.key }
