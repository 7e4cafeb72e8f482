use Rattle.trace_clock.proofs.tick_seat.TickSeat.tell.Given as goal

abbrev pub ghosts-cut : goal.ghosts-cut
ghosts-cut a = record { quota = a.quota }
