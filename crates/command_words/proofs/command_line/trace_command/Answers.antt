use Rattle.std.proofs.Common.{◌^◌, ℕ, Bool, List, codes}
use Rattle.clap.specs.Words.{found_of, rows_of, Row}
use Rattle.command_words.specs.CommandLine.{HasPath, HasNumber, HasUuid, HasFlag, HasResuming, HasWorkers, AsksTrace}
use Rattle.command_words.proofs.CommandLineLaws.{blame_on}
use Rattle.command_words.proofs.command_line.trace_command.Goals as goal

pub returns-in_err-config-clause-blamed : goal.returns-in_err-config-clause-blamed
returns-in_err-config-clause-blamed c =
    blame_on c.from_residual.result c.in_err-config.field-0.0 (λ (rows : List Row) path. HasPath rows (codes "config") path) AsksTrace (rows_of (found_of c.args.found.now))
    c.from_residual.ensures.1 c.in_err-config.ensures.blamed (λ others x a. (x.config, a.config))

pub returns-in_err-script-clause-blamed : goal.returns-in_err-script-clause-blamed
returns-in_err-script-clause-blamed c =
    blame_on c.from_residual-in_err-script.result c.in_err-script.field-0.0 (λ (rows : List Row) path. HasPath rows (codes "script") path) AsksTrace (rows_of (found_of c.args.found.now))
    c.from_residual-in_err-script.ensures.1 c.in_err-script.ensures.blamed (λ others x a. (x.script, a.script))

pub returns-in_err-folder-clause-blamed : goal.returns-in_err-folder-clause-blamed
returns-in_err-folder-clause-blamed c =
    blame_on c.from_residual-in_err-folder.result c.in_err-folder.field-0.0 (λ (rows : List Row) path. HasPath rows (codes "folder") path) AsksTrace (rows_of (found_of c.args.found.now))
    c.from_residual-in_err-folder.ensures.1 c.in_err-folder.ensures.blamed (λ others x a. (x.folder, a.folder))

pub returns-in_err-packet_bytes-clause-blamed : goal.returns-in_err-packet_bytes-clause-blamed
returns-in_err-packet_bytes-clause-blamed c =
    blame_on c.from_residual-in_err-packet_bytes.result c.in_err-packet_bytes.field-0.0 (λ (rows : List Row) (n : ℕ). HasNumber rows (codes "packet") (2 ^ 20) n) AsksTrace (rows_of (found_of c.args.found.now))
    c.from_residual-in_err-packet_bytes.ensures.1 c.in_err-packet_bytes.ensures.blamed (λ others x a. (x.packet_bytes, a.packet))

pub returns-in_err-buffers-clause-blamed : goal.returns-in_err-buffers-clause-blamed
returns-in_err-buffers-clause-blamed c =
    blame_on c.from_residual-in_err-buffers.result c.in_err-buffers.field-0.0 (λ (rows : List Row) (n : ℕ). HasNumber rows (codes "buffers") 1024 n) AsksTrace (rows_of (found_of c.args.found.now))
    c.from_residual-in_err-buffers.ensures.1 c.in_err-buffers.ensures.blamed (λ others x a. (x.buffers, a.buffers))

pub returns-in_err-uuid-clause-blamed : goal.returns-in_err-uuid-clause-blamed
returns-in_err-uuid-clause-blamed c =
    blame_on c.from_residual-in_err-uuid.result c.in_err-uuid.field-0.0 HasUuid AsksTrace (rows_of (found_of c.args.found.now))
    c.from_residual-in_err-uuid.ensures.1 c.in_err-uuid.ensures.blamed (λ others x a. (x.uuid, a.uuid))

pub returns-in_err-is_quiet-clause-blamed : goal.returns-in_err-is_quiet-clause-blamed
returns-in_err-is_quiet-clause-blamed c =
    blame_on c.from_residual-in_err-is_quiet.result c.in_err-is_quiet.field-0.0 (λ (rows : List Row) (b : Bool). HasFlag rows (codes "quiet") b) AsksTrace (rows_of (found_of c.args.found.now))
    c.from_residual-in_err-is_quiet.ensures.1 c.in_err-is_quiet.ensures.blamed (λ others x a. (x.is_quiet, a.quiet))

pub returns-in_err-workers-clause-blamed : goal.returns-in_err-workers-clause-blamed
returns-in_err-workers-clause-blamed c =
    blame_on c.from_residual-in_err-workers.result c.in_err-workers.field-0.0 HasWorkers AsksTrace (rows_of (found_of c.args.found.now))
    c.from_residual-in_err-workers.ensures.1 c.in_err-workers.ensures.blamed (λ others x a. (x.workers, a.workers))

pub returns-in_err-resume-clause-blamed : goal.returns-in_err-resume-clause-blamed
returns-in_err-resume-clause-blamed c =
    blame_on c.from_residual-in_err-resume.result c.in_err-resume.field-0.0 HasResuming AsksTrace (rows_of (found_of c.args.found.now))
    c.from_residual-in_err-resume.ensures.1 c.in_err-resume.ensures.blamed (λ others x a. (x.resume, a.resume))
