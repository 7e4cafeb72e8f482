-- How an answer is told: all of it is written, with its status; or a write failed, and at status 3 less than all of the output or of the errors is written. And how it is told
-- that there is none: nothing is printed, and at status 3 a line says what failed, or a front of that line, as far as it was taken.
use Rattle.std.specs.Prelude.{◌≡◌, ◌⊎◌, ℕ, List, [], ◌∷◌, ◌++◌, Option, None, Some, IfSome, codes, string_bytes}
use Rattle.std.specs.Io.KnownBytes.{Appends}
use Rattle.trace_platform.specs.Fronts.{AppendsFront, AppendsLess}
use Rattle.command_words.specs.declared.line_fault.LineFault.{LineFault}
use Rattle.command_words.specs.declared.line_fault.LineFault.TheVariants.{Help, Bad, OutOfMemory}
use Rattle.number_packets.specs.declared.numbers.Answer.{Answer}
use Rattle.trace_commands.specs.declared.failure.Failure.{Failure}
use Rattle.trace_commands.specs.declared.failure.Failure.TheVariants.{File as FileFailed, OutOfMemory as NoMemory}
use Rattle.trace_commands.specs.FaultLines.{IsFaultLine}

-- ---- the lines of what failed

-- the line that memory was wanting
abbrev pub IsMemoryLine : List ℕ → Type 0
IsMemoryLine line = line ≡ codes "ctftrace: out of memory" ++ 10 ∷ []

-- the line that the output took no more
abbrev pub IsOutputLine : List ℕ → Type 0
IsOutputLine line = line ≡ codes "ctftrace: standard output: a write failed" ++ 10 ∷ []

-- a line of a fault in this file, or the line that memory was wanting
abbrev pub IsFileLine : List ℕ → List ℕ → Type 0
IsFileLine path line = IsFaultLine path line ⊎ IsMemoryLine line

-- a line that says what failed
abbrev pub IsFailureLine : Failure → List ℕ → Type 0
IsFailureLine (FileFailed path fault) line = IsFileLine (string_bytes path) line
IsFailureLine NoMemory line = IsMemoryLine line

-- a line of a file of one of these paths, or the line that memory was wanting
abbrev pub IsLineOf : (List ℕ → Type 0) → List ℕ → Type 0
IsLineOf IsPath line = ((path : List ℕ) × IsPath path × IsFaultLine path line) ⊎ IsMemoryLine line

-- what failed is a file of one of these paths, or memory was wanting
abbrev pub FailsAt : (List ℕ → Type 0) → Failure → Type 0
FailsAt IsPath (FileFailed path fault) = IsPath (string_bytes path)
FailsAt IsPath NoMemory = Unit {0}

-- such a line is said, or a front of it
abbrev pub SaysLine : (List ℕ → Type 0) → Option (List ℕ) → Option (List ℕ) → Type 0
SaysLine Is old new = (line : List ℕ) × Is line × AppendsFront old new line

-- ---- an answer

-- what may be answered, by its output, its errors and its status
abbrev pub Answering : Type 1
Answering = List ℕ → List ℕ → ℕ → Type 0

-- a line of what failed, with status 3, or nothing, with status 0
abbrev pub IsToldWith : Option (List ℕ) → List ℕ → ℕ → Type 0
IsToldWith None errors status = (errors ≡ []) × (status ≡ 0)
IsToldWith (Some line) errors status = (errors ≡ line) × (status ≡ 3)

-- this answer alone
abbrev pub IsAnswerAlone : Answer → Answering
IsAnswerAlone answer output errors status = (output ≡ string_bytes answer.output) × (errors ≡ answer.errors.items) × (status ≡ answer.status)

pub record ToldWhole (P : Answering) (old new old_errors new_errors : Option (List ℕ)) (status : ℕ) : Type 0 where
  pub output : List ℕ
  pub errors : List ℕ
  pub answer : P output errors status
  pub printed : Appends old new output
  pub said : Appends old_errors new_errors errors

-- the output took a front and not all, and this is said in place of the errors
pub record OutputStopped (P : Answering) (old new old_errors new_errors : Option (List ℕ)) : Type 0 where
  pub output : List ℕ
  pub errors : List ℕ
  pub due : ℕ
  pub answer : P output errors due
  pub printed : AppendsLess old new output
  pub said : SaysLine IsOutputLine old_errors new_errors

-- the output took all, and the errors a front and not all
pub record ErrorsStopped (P : Answering) (old new old_errors new_errors : Option (List ℕ)) : Type 0 where
  pub output : List ℕ
  pub errors : List ℕ
  pub due : ℕ
  pub answer : P output errors due
  pub printed : Appends old new output
  pub said : AppendsLess old_errors new_errors errors

abbrev pub Told : Answering → Option (List ℕ) → Option (List ℕ) → Option (List ℕ) → Option (List ℕ) → ℕ → Type 0
Told P old new old_errors new_errors status =
    ToldWhole P old new old_errors new_errors status
    ⊎ ((status ≡ 3) × (OutputStopped P old new old_errors new_errors ⊎ ErrorsStopped P old new old_errors new_errors))

-- ---- no answer

-- nothing is printed, and such a line says what failed
pub record SaysFailure (Is : List ℕ → Type 0) (old new old_errors new_errors : Option (List ℕ)) : Type 0 where
  pub nothing : Appends old new []
  pub said : SaysLine Is old_errors new_errors

-- an answer, or status 3 without one
abbrev pub ToldOrFails : (List ℕ → Type 0) → Answering → Option (List ℕ) → Option (List ℕ) → Option (List ℕ) → Option (List ℕ) → ℕ → Type 0
ToldOrFails Is P old new old_errors new_errors status =
    Told P old new old_errors new_errors status ⊎ ((status ≡ 3) × SaysFailure Is old new old_errors new_errors)

-- the text is all that a file that was opened had to give, by what its reader has left
abbrev pub WasGiven : {File : Type 0} → (File → Option (List ℕ)) → List ℕ → Type 0
WasGiven {File} remaining text = (file : File) × IfSome (remaining file) (λ bytes. text ≡ bytes)

-- an answer to what the file of a command had to give; or the file was not read, or memory was wanting
abbrev pub AnswersFile : {File : Type 0} → (File → Option (List ℕ)) → List ℕ → (List ℕ → Answering) → Option (List ℕ) → Option (List ℕ) → Option (List ℕ) → Option (List ℕ) → ℕ → Type 0
AnswersFile remaining path P old new old_errors new_errors status =
    ((text : List ℕ) × WasGiven remaining text × Told (P text) old new old_errors new_errors status)
    ⊎ ((status ≡ 3) × SaysFailure (IsFileLine path) old new old_errors new_errors)

-- help goes to standard output with status 0, what is wrong with the words to standard error with status 2
abbrev pub TellsLineFault : LineFault → Option (List ℕ) → Option (List ℕ) → Option (List ℕ) → Option (List ℕ) → ℕ → Type 0
TellsLineFault (Help text) old new old_errors new_errors status =
    Told (λ output errors s. (output ≡ string_bytes text) × (errors ≡ []) × (s ≡ 0)) old new old_errors new_errors status
TellsLineFault (Bad text) old new old_errors new_errors status =
    Told (λ output errors s. (output ≡ []) × (errors ≡ string_bytes text) × (s ≡ 2)) old new old_errors new_errors status
TellsLineFault OutOfMemory old new old_errors new_errors status = (status ≡ 3) × SaysFailure IsMemoryLine old new old_errors new_errors

-- one of the faults that fit the words is told
abbrev pub TellsNoCommand : (LineFault → Type 0) → Option (List ℕ) → Option (List ℕ) → Option (List ℕ) → Option (List ℕ) → ℕ → Type 0
TellsNoCommand Fits old new old_errors new_errors status =
    (fault : LineFault) × Fits fault × TellsLineFault fault old new old_errors new_errors status
