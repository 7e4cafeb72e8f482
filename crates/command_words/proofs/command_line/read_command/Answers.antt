use Rattle.std.proofs.Common.{Bool, List, codes, refl, arith}
use Rattle.clap.specs.Words.{found_of, rows_of, Row}
use Rattle.command_words.specs.CommandLine.{HasPath, HasFlag, AsksRead}
use Rattle.command_words.proofs.CommandLineLaws.{blame_on}
use Rattle.command_words.proofs.command_line.read_command.Goals as goal

pub returns-in_err-folder-clause-blamed : goal.returns-in_err-folder-clause-blamed
returns-in_err-folder-clause-blamed c =
    blame_on c.from_residual.result c.in_err-folder.field-0.0 (λ (rows : List Row) path. HasPath rows (codes "folder") path) AsksRead (rows_of (found_of c.args.found.now))
    c.from_residual.ensures.1 c.in_err-folder.ensures.blamed (λ others x a. (x.folder, a.folder))

pub returns-in_err-is_quiet-clause-blamed : goal.returns-in_err-is_quiet-clause-blamed
returns-in_err-is_quiet-clause-blamed c =
    blame_on c.from_residual-in_err-is_quiet.result c.in_err-is_quiet.field-0.0 (λ (rows : List Row) (b : Bool). HasFlag rows (codes "quiet") b) AsksRead (rows_of (found_of c.args.found.now))
    c.from_residual-in_err-is_quiet.ensures.1 c.in_err-is_quiet.ensures.blamed (λ others x a. (x.is_quiet, a.quiet))

pub flag-requires : goal.flag-requires
flag-requires c = (3, omega arith, refl)
