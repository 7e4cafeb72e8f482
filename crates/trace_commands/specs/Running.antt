-- What the program does for the words of its command line, by what the readers had to give and what the writers took.
use Rattle.std.specs.Prelude.{◌≡◌, ◌⊎◌, ℕ, List, Option, Some, codes}
use Rattle.command_words.specs.declared.commands.Command.{Command}
use Rattle.command_words.specs.declared.commands.Command.TheVariants.{FirstPath, Check, Metadata, Trace, Read}
use Rattle.command_words.specs.CommandLine.{Asks, HasNoCommand}
use Rattle.command_words.specs.LineFaults.{IsFaultOfWords}
use Rattle.number_packets.specs.FirstPath.{IsAnswer}
use Rattle.trace_commands.specs.Checking.{IsChecked, IsMetadataAnswer}
use Rattle.trace_commands.specs.ListSessions.{AreSizes}
use Rattle.trace_commands.specs.Reading.{ReadsFolder}
use Rattle.trace_commands.specs.Telling.{AnswersFile, IsFileLine, IsLineOf, IsMemoryLine, SaysFailure, TellsNoCommand, ToldOrFails}
use Rattle.trace_commands.specs.Tracing.{IsTracePath, TellsTrace, sizes_of}

-- a command to trace has sizes that a session can have
abbrev pub HasSizes : Command → Type 0
HasSizes FirstPath = Unit {0}
HasSizes (Check path) = Unit {0}
HasSizes (Metadata m) = Unit {0}
HasSizes (Trace t) = AreSizes (sizes_of t)
HasSizes (Read r) = Unit {0}

abbrev pub Does : {File : Type 0} → (File → Option (List ℕ)) → (File → Option (List ℕ)) → Command → Option (List ℕ) → Option (List ℕ) → Option (List ℕ) → Option (List ℕ) → Option (List ℕ) → ℕ → Type 0
Does contents remaining FirstPath input old new old_errors new_errors status =
    (text : List ℕ) → input ≡ Some text → ToldOrFails (IsFileLine (codes "standard input")) (IsAnswer text) old new old_errors new_errors status
Does contents remaining (Check path) input old new old_errors new_errors status =
    AnswersFile remaining path.now (IsChecked path.now) old new old_errors new_errors status
Does contents remaining (Metadata m) input old new old_errors new_errors status =
    AnswersFile remaining m.config.now (λ text. IsMetadataAnswer m.config.now text m.uuid) old new old_errors new_errors status
Does contents remaining (Trace t) input old new old_errors new_errors status =
    ToldOrFails (IsLineOf (IsTracePath t)) (TellsTrace contents remaining t) old new old_errors new_errors status
Does contents remaining (Read r) input old new old_errors new_errors status =
    ReadsFolder remaining r.folder.now old new old_errors new_errors status

-- the command that the words ask for is done; or they ask for none, and it is said; or memory was wanting to read them.
-- `remaining` is what a reader of an opened file has left, and `contents` what the writer of one took
abbrev pub Runs : {File : Type 0} → (File → Option (List ℕ)) → (File → Option (List ℕ)) → List (List ℕ) → Option (List ℕ) → Option (List ℕ) → Option (List ℕ) → Option (List ℕ) → Option (List ℕ) → ℕ → Type 0
Runs contents remaining words input old new old_errors new_errors status =
    ((c : Command) × Asks words c × Does contents remaining c input old new old_errors new_errors status)
    ⊎ (HasNoCommand words × TellsNoCommand (IsFaultOfWords words) old new old_errors new_errors status)
    ⊎ ((status ≡ 3) × SaysFailure IsMemoryLine old new old_errors new_errors)
