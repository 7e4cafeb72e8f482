use Rattle.std.proofs.Common.{◌≡◌, ◌++◌, drop}
use Rattle.trace_commands.specs.Workers.{acts_of}
use Rattle.trace_commands.proofs.script_workers.acts_of.Given as goal

-- the acts of the events before, and those of the others behind them, are those of all
abbrev pub invariant-loop-event : goal.invariant-loop-event
invariant-loop-event l = l.acts.items ++ acts_of l.number (drop l.event-index l.events) ≡ acts_of l.number l.events
