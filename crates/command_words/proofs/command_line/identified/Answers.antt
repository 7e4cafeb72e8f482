use Rattle.std.proofs.Common.{◌∙◌, ap, sym, codes}
use Rattle.std.proofs.lemmas.Result.{IfOk-weaker}
use Rattle.clap.specs.Words.{found_of, rows_of}
use Rattle.clap.proofs.WalkLemmas.{first_value-rows}
use Rattle.command_words.specs.CommandLine.{HasUuid, uuid_said}
use Rattle.command_words.proofs.CommandLineLaws.{blamed_value, of_refusal}
use Rattle.command_words.proofs.command_line.identified.Goals as goal

pub returns-clause-has : goal.returns-clause-has
returns-clause-has c =
    let found = c.get_str.ensures ∙ first_value-rows (found_of c.args.found.now) (codes "uuid") in
    IfOk-weaker c.identifier.result _ _ (λ u says. sym (ap uuid_said found) ∙ says) c.identifier.ensures.says

pub returns-clause-blamed : goal.returns-clause-blamed
returns-clause-blamed c =
    let found = c.get_str.ensures ∙ first_value-rows (found_of c.args.found.now) (codes "uuid") in
    of_refusal c.identifier.result (λ fault refused told.
    blamed_value fault (rows_of (found_of c.args.found.now)) (codes "uuid") told.0 _ HasUuid (sym found ∙ told.1) told.2 refused
    (λ others u alike has. (u, ap uuid_said (found ∙ sym alike.0) ∙ has))) c.identifier.ensures.refused c.identifier.ensures.told
