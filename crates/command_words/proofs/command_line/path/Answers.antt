use Rattle.std.proofs.Common.{◌≡◌, ◌∙◌, [], Option, inr, subst, sym}
use Rattle.std.proofs.lemmas.Option.{same_Some}
use Rattle.clap.specs.Words.{Text}
use Rattle.command_words.specs.LineFaults.{TellsPart}
use Rattle.command_words.proofs.command_line.path.Goals as goal

pub returns-in-empty-clause-blamed : goal.returns-in-empty-clause-blamed
returns-in-empty-clause-blamed c =
    let found = c.in_ok-word.ensures.has in
    let empty : c.in_ok-word.word.now ≡ [] = c.in-empty.is in
    inr (
      c.args.id.now,
      (λ others path alike has. has.1 (same_Some _ _ (sym has.0 ∙ alike.0 ∙ found) ∙ empty)),
      subst (λ (o : Option Text). TellsPart c.args.id.now o c.incomplete.result) (sym found) (inr (c.requires, empty, c.incomplete.ensures)),
    )
