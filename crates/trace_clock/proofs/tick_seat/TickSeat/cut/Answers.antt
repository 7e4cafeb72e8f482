use Rattle.std.proofs.Common.{rules, arith}
use Rattle.trace_clock.proofs.Histories.{cuts}
use Rattle.trace_clock.proofs.tick_seat.TickSeat.cut.Goals as goal

pub split_seat-seat-requires : goal.split_seat-seat-requires
split_seat-seat-requires g c = (search rules, search rules, cuts _ _ _ _ (omega (arith, c.requires.quota.0, c.requires.quota.1, c.args.self.now.quota_is)))
