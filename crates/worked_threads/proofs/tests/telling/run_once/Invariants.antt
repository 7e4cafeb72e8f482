use Rattle.trace_clock.specs.Seats.{clock_of}
use Rattle.worked_threads.proofs.tests.telling.run_once.Given as goal

abbrev pub ghosts-in_two_threads : goal.ghosts-in_two_threads
ghosts-in_two_threads g a = record { clock = clock_of a.first }
