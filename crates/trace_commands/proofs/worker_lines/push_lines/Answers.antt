use Rattle.std.proofs.Common.{◌∙◌, ◌++◌, List, ℕ, append_assoc, ap, sym, take, string_bytes}
use Rattle.trace_commands.specs.Workers.{named_line, named_lines}
use Rattle.trace_commands.proofs.WorkerLaws.{named_more}
use Rattle.trace_commands.proofs.worker_lines.push_lines.Goals as goal

pub loop-number-preserved : goal.loop-number-preserved
loop-number-preserved c =
    let i = c.loop-number.number in
    let name = c.args.name.now in
    let answer = c.answer_at.result in
    let old = string_bytes c.args.output.now in
    c.in_ok-push_named.ensures ∙ ap (λ (l : List ℕ). l ++ named_line name i answer) c.loop-number.invariant
    ∙ append_assoc old (named_lines name 0 (take i c.args.answers.now)) (named_line name i answer)
    ∙ ap (λ (l : List ℕ). old ++ l) (sym (named_more name c.args.answers.now i answer c.answer_at.ensures))
