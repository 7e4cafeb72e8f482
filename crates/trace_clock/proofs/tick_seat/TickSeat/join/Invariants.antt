use Rattle.trace_clock.proofs.tick_seat.TickSeat.join.Given as goal

abbrev pub ghosts-look : goal.ghosts-look
ghosts-look a = record { bounds = a.table.now.shared.key }
