use Rattle.std.proofs.Common.{Bool, List, subst, codes}
use Rattle.clap.specs.Words.{found_of, rows_of, Row}
use Rattle.command_words.specs.CommandLine.{HasFlag, HasResuming}
use Rattle.command_words.proofs.CommandLineLaws.{blame_on, resuming_flag}
use Rattle.command_words.proofs.command_line.resuming.Goals as goal

pub returns-in_err-flag-clause-blamed : goal.returns-in_err-flag-clause-blamed
returns-in_err-flag-clause-blamed c =
    blame_on c.from_residual.result c.in_err-flag.field-0.0 (λ (rows : List Row) (b : Bool). HasFlag rows (codes "resume") b) HasResuming (rows_of (found_of c.args.found.now))
    c.from_residual.ensures.1 c.in_err-flag.ensures.blamed resuming_flag

pub returns-then-branch-clause-has : goal.returns-then-branch-clause-has
returns-then-branch-clause-has c = subst (λ (b : Bool). HasFlag (rows_of (found_of c.args.found.now)) (codes "resume") b) c.if-branch.true c.in_ok-flag.ensures.has

pub returns-clause-has : goal.returns-clause-has
returns-clause-has c = subst (λ (b : Bool). HasFlag (rows_of (found_of c.args.found.now)) (codes "resume") b) c.if-branch.false c.in_ok-flag.ensures.has
