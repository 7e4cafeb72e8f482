use Rattle.std.proofs.Common.{◌≡◌, ◌∙◌, ◌++◌, List, ℕ, Some, length, ap₂, refl, sym}
use Rattle.std.specs.Prelude.{slice_get}
use Rattle.std.proofs.lemmas.Option.{slice_get_read}
use Rattle.trace_stack.specs.declared.answer.Answer.{Answer}
use Rattle.trace_commands.specs.Workers.{named_lines}
use Rattle.trace_commands.proofs.WorkerLaws.{streams_more}
use Rattle.trace_commands.proofs.worker_lines.worker_lines.Goals as goal

pub loop-number-preserved : goal.loop-number-preserved
loop-number-preserved c =
    let i = c.loop-number.number in
    let streams = c.args.streams.now in
    let stream = c.index-streams-number.result in
    let at : slice_get streams i ≡ Some stream = slice_get_read streams (length streams) i stream refl c.loop-number-test.true c.index-streams-number.is in
    c.in_ok-push_lines.ensures
    ∙ ap₂ (λ (l m : List ℕ). l ++ m) c.loop-number.invariant (ap₂ (λ (n : List ℕ) (a : List Answer). named_lines n 0 a) c.as_str.ensures c.answers_of.ensures)
    ∙ sym (streams_more streams c.args.answers.now i stream at)
