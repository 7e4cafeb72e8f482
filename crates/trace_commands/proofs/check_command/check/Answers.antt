use Rattle.std.proofs.Common.{inl, ℕ, List, subst, sym}
use Rattle.trace_commands.specs.Checking.{IsChecked}
use Rattle.trace_commands.specs.Telling.{WasGiven}
use Rattle.trace_commands.proofs.TellingLaws.{told_answer}
use Rattle.trace_commands.proofs.check_command.check.Goals as goal

pub returns-in-Ok-check_text : goal.returns-in-Ok-check_text
returns-in-Ok-check_text g c =
    let text = c.as_slice.result.now in
    inl (
      text,
      subst (λ (bytes : List ℕ). WasGiven g.X.File.Read.remaining bytes) (sym c.as_slice.ensures.value) c.in-Ok.ensures,
      told_answer (IsChecked c.args.path.now text) c.in-Ok-check_text.answer (g.W.Write.contents c.args.output.now) (g.W.Write.contents c.tell.new.output)
          (g.E.Write.contents c.args.errors.now) (g.E.Write.contents c.tell.new.errors) c.tell.result c.in-Ok-check_text.ensures c.tell.ensures,
    )
