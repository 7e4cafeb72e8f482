use Rattle.std.proofs.Common.{◌≡◌, take, string_bytes}
use Rattle.trace_commands.specs.AnswerLines.{answer_lines}
use Rattle.trace_commands.proofs.answer_lines.answer_lines.Given as goal

-- the lines of the answers before
abbrev pub invariant-loop-number : goal.invariant-loop-number
invariant-loop-number l = string_bytes l.output ≡ answer_lines 0 (take l.number l.answers)
