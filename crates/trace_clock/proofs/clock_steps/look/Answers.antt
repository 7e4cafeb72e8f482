use Rattle.std.proofs.Common.{rules}
use Rattle.trace_clock.proofs.Histories.{looks}
use Rattle.trace_clock.proofs.clock_steps.look.Goals as goal

pub load-word-requires : goal.load-word-requires
load-word-requires g c = (c.requires.table.0, search rules, looks _ _ _ _ c.args.seat.now.me c.requires.clock)
