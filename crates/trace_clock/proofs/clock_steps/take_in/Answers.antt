use Rattle.std.proofs.Common.{rules}
use Rattle.trace_clock.proofs.Histories.{joins}
use Rattle.trace_clock.proofs.clock_steps.take_in.Goals as goal

pub join_seat-requires : goal.join_seat-requires
join_seat-requires c = (search rules, search rules, search rules, search rules, joins _ _ _ _ _)
