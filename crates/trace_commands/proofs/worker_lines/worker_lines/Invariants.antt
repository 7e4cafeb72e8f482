use Rattle.std.proofs.Common.{◌≡◌, take, string_bytes}
use Rattle.trace_commands.specs.Workers.{stream_lines}
use Rattle.trace_commands.proofs.worker_lines.worker_lines.Given as goal

-- the lines of the streams before
abbrev pub invariant-loop-number : goal.invariant-loop-number
invariant-loop-number l = string_bytes l.output ≡ stream_lines (take l.number l.streams) l.answers
