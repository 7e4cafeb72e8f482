use Rattle.std.proofs.Common.{◌≡◌, None}
use Rattle.std.specs.List.{All}
use Rattle.trace_clock.specs.Seats.{clock_of, rest}
use Rattle.trace_stack.specs.Workers.{IsWorker}
use Rattle.trace_bench.proofs.made.workers.Given as goal

-- so far each is a worker, at the one clock, and its stream begins anew
abbrev pub invariant-loop : goal.invariant-loop
invariant-loop l = record {
  workers : All IsWorker l.workers.items;
  anew : All (λ w. w.start ≡ None) l.workers.items;
  clock : clock_of (rest l.clock) ≡ clock_of (rest l.initial.clock);
  seats : All (λ w. clock_of w.seat ≡ clock_of (rest l.initial.clock)) l.workers.items;
}
