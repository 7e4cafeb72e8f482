use Rattle.std.proofs.Common.{inl, ℕ, List, subst, sym}
use Rattle.trace_commands.specs.Checking.{IsMetadataAnswer}
use Rattle.trace_commands.specs.Telling.{WasGiven}
use Rattle.trace_commands.proofs.TellingLaws.{told_answer}
use Rattle.trace_commands.proofs.metadata_command.metadata.Goals as goal

pub returns-in-Ok-metadata_text : goal.returns-in-Ok-metadata_text
returns-in-Ok-metadata_text g c =
    let text = c.as_slice.result.now in
    inl (
      text,
      subst (λ (bytes : List ℕ). WasGiven g.X.File.Read.remaining bytes) (sym c.as_slice.ensures.value) c.in-Ok.ensures,
      told_answer (IsMetadataAnswer c.args.asked.now.config.now text c.args.asked.now.uuid) c.in-Ok-metadata_text.answer (g.W.Write.contents c.args.output.now) (g.W.Write.contents c.tell.new.output)
          (g.E.Write.contents c.args.errors.now) (g.E.Write.contents c.tell.new.errors) c.tell.result c.in-Ok-metadata_text.ensures c.tell.ensures,
    )
