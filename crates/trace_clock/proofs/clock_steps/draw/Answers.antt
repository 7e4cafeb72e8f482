use Rattle.std.proofs.Common.{rules}
use Rattle.trace_clock.proofs.Histories.{draws}
use Rattle.trace_clock.proofs.clock_steps.draw.Goals as goal

pub fetch_add-requires : goal.fetch_add-requires
fetch_add-requires g c = (c.requires.table.0, search rules, draws _ _ _ _ c.args.seat.now.me c.requires.clock c.requires.seat.0 c.requires.seat.1)
