use Rattle.std.proofs.Common.{◌≡◌, take}
use Rattle.trace_commands.specs.Checking.{events_in}
use Rattle.trace_commands.proofs.check_command.event_count.Given as goal

abbrev pub invariant-loop-stream : goal.invariant-loop-stream
invariant-loop-stream l = l.count ≡ events_in (take l.stream-index l.streams)
