use Rattle.std.proofs.Common.{◌≡◌, ◌+◌, length}
use Rattle.trace_clock.specs.Seats.{left, rest}
use Rattle.trace_commands.proofs.WorkerLaws.{Standing}
use Rattle.trace_commands.proofs.script_workers.script_workers.Given as goal

-- the streams before have their workers, and a file is there for each that is to come
abbrev pub invariant-loop-number : goal.invariant-loop-number
invariant-loop-number g l = record {
  files : length l.files.items + l.number ≡ length l.script.streams;
  events : l.events ≡ l.script.events;
  standing : Standing (rest l.initial.clock) (rest l.clock) (left l.clock) l.quota.readings l.sizes l.script.events l.script.streams l.points l.number l.workers.items;
}
