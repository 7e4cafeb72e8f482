use Rattle.std.proofs.Common.{ap, arith, subst}
use Rattle.trace_clock.specs.declared.known.Known.{Known}
use Rattle.trace_clock.specs.History.{EachOnce}
use Rattle.trace_clock.specs.Seats.{drawn}
use Rattle.trace_clock.proofs.Histories.{both_once, each_once, quota_fits}
use Rattle.trace_clock.proofs.tick_seat.TickSeat.join.Goals as goal

pub overflow_add-self : goal.overflow_add-self
overflow_add-self c =
    let fits = quota_fits _ _ c.look.ensures.shown in
    let sum = ap (λ (k : Known). k.view.quota) c.take_in.ensures.joined in
    omega (arith, fits, sum, c.args.self.now.quota_is, c.args.other.quota_is)

pub returns-clause-distinct : goal.returns-clause-distinct
returns-clause-distinct c =
    both_once (drawn c.args.self.now) (drawn c.args.other)
    (subst EachOnce (ap (λ (k : Known). k.view.drawn) c.take_in.ensures.joined) (each_once _ _ c.look.ensures.shown))
