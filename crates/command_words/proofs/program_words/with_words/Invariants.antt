use Rattle.std.proofs.Common.{◌≡◌, false, drop}
use Rattle.clap.specs.Words.{app_of}
use Rattle.clap.specs.declared.builder.command.Command.TheViews.{out-Command as fields_of}
use Rattle.command_words.specs.ProgramWords.{with_words}
use Rattle.command_words.proofs.program_words.with_words.Given as goal

abbrev pub invariant-loop-word : goal.invariant-loop-word
invariant-loop-word l =
    (with_words (app_of l.command) (drop l.word-index l.words) ≡ with_words (app_of l.initial.command) l.words)
    × ((fields_of l.initial.command).has_globals ≡ false → (fields_of l.command).has_globals ≡ false)
