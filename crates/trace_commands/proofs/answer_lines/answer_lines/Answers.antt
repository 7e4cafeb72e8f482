use Rattle.std.proofs.Common.{◌++◌, ℕ, List, take_all, sym, ap, ◌∙◌}
use Rattle.trace_stack.specs.declared.answer.Answer.{Answer}
use Rattle.trace_commands.specs.AnswerLines.{answer_line, answer_lines}
use Rattle.trace_commands.proofs.TracingLaws.{lines_more}
use Rattle.trace_commands.proofs.answer_lines.answer_lines.Goals as goal

pub loop-number-preserved : goal.loop-number-preserved
loop-number-preserved c =
    let answer = c.answer_at.result in
    c.in_ok-push_line.ensures ∙ ap (λ (l : List ℕ). l ++ answer_line c.loop-number.number answer) c.loop-number.invariant
    ∙ sym (lines_more c.args.answers.now c.loop-number.number answer c.answer_at.ensures)

pub returns : goal.returns
returns c = c.loop-number.invariant ∙ ap (λ (l : List Answer). answer_lines 0 l) (take_all c.loop-number.number c.args.answers.now c.loop-number-test.false)
