use Rattle.std.proofs.Common.{◌≡◌, ◌++◌, take, string_bytes}
use Rattle.trace_commands.specs.Workers.{named_lines}
use Rattle.trace_commands.proofs.worker_lines.push_lines.Given as goal

-- the lines of the answers before
abbrev pub invariant-loop-number : goal.invariant-loop-number
invariant-loop-number l = string_bytes l.output ≡ string_bytes l.initial.output ++ named_lines l.name 0 (take l.number l.answers)
