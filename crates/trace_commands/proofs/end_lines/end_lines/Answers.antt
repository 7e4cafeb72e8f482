use Rattle.std.proofs.Common.{◌∙◌, ◌++◌, ℕ, List, ap}
use Rattle.trace_commands.specs.Ends.{file_line}
use Rattle.trace_commands.proofs.ReadingLaws.{lines_step}
use Rattle.trace_commands.proofs.end_lines.end_lines.Goals as goal

pub loop-file-preserved : goal.loop-file-preserved
loop-file-preserved c =
    let grown = c.in_ok-extend_from_slice.ensures.items ∙ ap (λ (line : List ℕ). c.loop-file.lines.items ++ line) c.as_slice.ensures.value in
    lines_step (file_line c.args.folder.now) c.args.files.now c.loop-file.file-index c.file-item.result c.loop-file.lines.items c.in_ok-line.line.items c.extend_from_slice.new.self.items
    c.loop-file-test.true c.file-item.is grown c.loop-file.invariant (rw c.as_str.ensures at c.in_ok-line.ensures)
