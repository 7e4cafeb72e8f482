use Rattle.std.proofs.Common.{◌≡◌, None, ◌∙◌}
use Rattle.std.specs.Result.{is_ok}
use Rattle.trace_clock.specs.Seats.{clock_of, rest}
use Rattle.trace_stack.specs.Workers.{IsWorker}
use Rattle.trace_stack.proofs.OneClock.{at_one_clock}
use Rattle.trace_bench.proofs.Workers.{one_more}
use Rattle.trace_bench.proofs.made.workers.Goals as goal

pub loop-preserved : goal.loop-preserved
loop-preserved c =
    let one = c.in_ok-worker.worker in
    let i = c.loop.invariant in
    record {
      workers = one_more IsWorker (is_ok c.push.result) c.loop.workers.items c.push.new.self.items one c.push.ensures.items i.workers c.in_ok-worker.ensures.worker;
      anew = one_more (λ w. w.start ≡ None) (is_ok c.push.result) c.loop.workers.items c.push.new.self.items one c.push.ensures.items i.anew c.in_ok-worker.ensures.anew;
      clock = c.seat_at.ensures.same ∙ i.clock;
      seats = one_more (λ w. clock_of w.seat ≡ clock_of (rest c.in_ok-clock.clock)) (is_ok c.push.result) c.loop.workers.items c.push.new.self.items one c.push.ensures.items i.seats
          (c.in_ok-worker.ensures.clock ∙ c.in_ok-seat.ensures.seat ∙ i.clock);
    }

pub returns-clause-clock : goal.returns-clause-clock
returns-clause-clock c = at_one_clock (rest c.in_ok-clock.clock) c.loop.workers.items c.loop.invariant.seats
