use Rattle.std.proofs.Common.{◌∙◌, sym, inr, subst, Option}
use Rattle.std.proofs.lemmas.Option.{none-some}
use Rattle.clap.specs.Words.{found_of, Text}
use Rattle.clap.proofs.WalkLemmas.{first_value-rows}
use Rattle.command_words.specs.LineFaults.{TellsPart}
use Rattle.command_words.proofs.command_line.needed.Goals as goal

pub returns-in-Some-clause-has : goal.returns-in-Some-clause-has
returns-in-Some-clause-has c = sym (first_value-rows (found_of c.args.found.now) c.args.id.now) ∙ sym c.in-Some.ensures

pub returns-in-None-clause-blamed : goal.returns-in-None-clause-blamed
returns-in-None-clause-blamed c =
    let none = c.in-None.ensures ∙ first_value-rows (found_of c.args.found.now) c.args.id.now in
    inr (
      c.args.id.now,
      (λ others word alike has. none-some word.now (none ∙ sym alike.0 ∙ has)),
      subst (λ (o : Option Text). TellsPart c.args.id.now o c.incomplete.result) none c.incomplete.ensures,
    )
