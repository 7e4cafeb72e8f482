use Rattle.std.proofs.Common.{◌≡◌, drop}
use Rattle.clap.specs.Words.{app_of}
use Rattle.command_words.specs.ProgramWords.{with_commands}
use Rattle.command_words.proofs.program_words.with_commands.Given as goal

abbrev pub invariant-loop-command : goal.invariant-loop-command
invariant-loop-command l = with_commands (app_of l.program) (drop l.command-index l.commands) ≡ with_commands (app_of l.initial.program) l.commands
