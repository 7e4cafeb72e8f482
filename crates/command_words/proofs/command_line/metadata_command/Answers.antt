use Rattle.std.proofs.Common.{List, codes}
use Rattle.clap.specs.Words.{found_of, rows_of, Row}
use Rattle.command_words.specs.CommandLine.{HasPath, HasUuid, AsksMetadata}
use Rattle.command_words.proofs.CommandLineLaws.{blame_on}
use Rattle.command_words.proofs.command_line.metadata_command.Goals as goal

pub returns-in_err-config-clause-blamed : goal.returns-in_err-config-clause-blamed
returns-in_err-config-clause-blamed c =
    blame_on c.from_residual.result c.in_err-config.field-0.0 (λ (rows : List Row) path. HasPath rows (codes "config") path) AsksMetadata (rows_of (found_of c.args.found.now))
    c.from_residual.ensures.1 c.in_err-config.ensures.blamed (λ others x a. (x.config, a.config))

pub returns-in_err-uuid-clause-blamed : goal.returns-in_err-uuid-clause-blamed
returns-in_err-uuid-clause-blamed c =
    blame_on c.from_residual-in_err-uuid.result c.in_err-uuid.field-0.0 HasUuid AsksMetadata (rows_of (found_of c.args.found.now))
    c.from_residual-in_err-uuid.ensures.1 c.in_err-uuid.ensures.blamed (λ others x a. (x.uuid, a.uuid))
