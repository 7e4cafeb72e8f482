use Rattle.std.proofs.Common.{take}
use Rattle.trace_commands.specs.Ends.{AreLines, file_line}
use Rattle.trace_commands.proofs.end_lines.end_lines.Given as goal

abbrev pub invariant-loop-file : goal.invariant-loop-file
invariant-loop-file l = AreLines (file_line l.folder) (take l.file-index l.files) l.lines.items
