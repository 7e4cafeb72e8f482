-- How words that ask for no command are answered: with help where help or the version is asked for, as a bad line elsewhere.
use Rattle.std.specs.Prelude.{◌≡◌, ◌≢◌, ◌⊎◌, ℕ, ◌-◌, ◌^◌, List, [], ◌∷◌, ◌++◌, Contains, Option, None, Some, ⊤, codes, decimal, string_bytes}
use Rattle.clap.specs.Words.{Row, Text, first_of, fault_of, subcommand_of, Kinds, IsAmong}
use Rattle.clap.specs.declared.error.kind.ErrorKind.{ErrorKind}
use Rattle.clap.specs.declared.error.kind.ErrorKind.TheVariants as kind
use Rattle.command_words.specs.declared.line_fault.LineFault.{LineFault}
use Rattle.command_words.specs.declared.line_fault.LineFault.TheVariants.{Help, Bad, OutOfMemory}
use Rattle.command_words.specs.CommandLine.{IsMemory, AsksBy}
use Rattle.command_words.specs.ProgramWords.{program}

-- help or the version is asked for
abbrev pub AsksForHelp : ErrorKind → Type 0
AsksForHelp k = (k ≡ kind.DisplayHelp) ⊎ (k ≡ kind.DisplayVersion)

-- help is given exactly where it is asked for
abbrev pub FitsKind : ErrorKind → LineFault → Type 0
FitsKind k (Help text) = AsksForHelp k
FitsKind k (Bad text) = AsksForHelp k → ⊥
FitsKind k OutOfMemory = ⊤

-- ---- a value that is wrong, or a word that is missing

abbrev pub help_hint : Text
help_hint = codes "\n\nFor more information, try '--help'.\n"

abbrev pub value_line : Text → Text → Text → Text
value_line option value expected =
    codes "error: invalid value '" ++ (value ++ (codes "' for '--" ++ (option ++ (codes "': expected " ++ (expected ++ help_hint)))))

abbrev pub missing_line : Text → Text
missing_line word = codes "error: nothing is given for " ++ (word ++ help_hint)

abbrev pub range_words : ℕ → ℕ → Text
range_words least most = codes "a whole number from " ++ (decimal least ++ (codes " to " ++ decimal most))

abbrev pub flag_words : Text
flag_words = codes "`true` or `false`"

abbrev pub uuid_words : Text
uuid_words = codes "an identifier, as `urn:uuid:` or 32 hexadecimal digits in groups of 8, 4, 4, 4 and 12"

-- the options, and what is expected of each: of a quota that there are workers, and then a number
abbrev pub expectations : List (Text × Text)
expectations =
    (codes "packet", range_words 1 (2 ^ 20)) ∷ (codes "buffers", range_words 1 1024) ∷ (codes "uuid", uuid_words) ∷ (codes "quiet", flag_words)
    ∷ (codes "workers", flag_words) ∷ (codes "quota", codes "no quota without --workers") ∷ (codes "quota", range_words 0 (2 ^ 58 - 1)) ∷ (codes "resume", flag_words) ∷ []

abbrev pub Expects : Text → Text → Type 0
Expects option expected = Contains expectations (option, expected)

-- this value of this option is told, and what was expected in its place
abbrev pub TellsValue : Text → Text → LineFault → Type 0
TellsValue option value (Help text) = ⊥
TellsValue option value (Bad text) = (expected : Text) × Expects option expected × (string_bytes text ≡ value_line option value expected)
TellsValue option value OutOfMemory = ⊤

-- that nothing is given for this word
abbrev pub TellsMissing : Text → LineFault → Type 0
TellsMissing word (Help text) = ⊥
TellsMissing word (Bad text) = string_bytes text ≡ missing_line word
TellsMissing word OutOfMemory = ⊤

-- the parts of commands that are paths
abbrev pub paths : List Text
paths = codes "config" ∷ codes "script" ∷ codes "folder" ∷ []

-- of an empty path it is told that nothing is given
abbrev pub TellsEmpty : Text → Text → LineFault → Type 0
TellsEmpty part value fault = Contains paths part × (value ≡ []) × TellsMissing part fault

-- what was found for this part of a command is told: its value, or that there is none
abbrev pub TellsPart : Text → Option Text → LineFault → Type 0
TellsPart part None fault = TellsMissing part fault
TellsPart part (Some value) fault = TellsValue part value fault ⊎ TellsEmpty part value fault

-- the same was found for this part, and workers are asked for in both or in neither
abbrev pub AreAlike : Text → List Row → List Row → Type 0
AreAlike part rows others = (first_of part others ≡ first_of part rows) × (first_of (codes "workers") others ≡ first_of (codes "workers") rows)

-- with what was found for this part nothing of the kind is asked for, whatever was found for the others
abbrev pub IsUnfit : {A : Type 0} → (List Row → A → Type 0) → List Row → Text → Type 0
IsUnfit {A} Asks rows part = (others : List Row) (x : A) → AreAlike part rows others → Asks others x → ⊥

-- a part that is wrong is told, or memory ran out
abbrev pub IsBlamed : {A : Type 0} → (List Row → A → Type 0) → List Row → LineFault → Type 0
IsBlamed Asks rows fault = IsMemory fault ⊎ ((part : Text) × IsUnfit Asks rows part × TellsPart part (first_of part rows) fault)

-- no command has this name
abbrev pub IsNoCommand : Text → Type 0
IsNoCommand name = (name ≢ codes "check") × (name ≢ codes "metadata") × (name ≢ codes "trace") × (name ≢ codes "read")

-- the same of the command that was found, and of one that is none, or of none, that the command is missing
abbrev pub IsBlamedOf : Text → List Row → LineFault → Type 0
IsBlamedOf name rows fault = IsBlamed (AsksBy name) rows fault ⊎ (IsNoCommand name × TellsMissing (codes "COMMAND") fault)

abbrev pub IsBlamedBy : Option (Text × List Row) → LineFault → Type 0
IsBlamedBy None fault = TellsMissing (codes "COMMAND") fault
IsBlamedBy (Some found) fault = IsBlamedOf found.0 found.1 fault

-- ---- the whole

-- one of these kinds of refusal
abbrev pub FitsOneOf : Kinds → LineFault → Type 0
FitsOneOf kinds fault = (k : ErrorKind) × IsAmong k kinds × FitsKind k fault

-- what the program's words refuse of these; where they refuse nothing, a value is wrong or a word is missing
abbrev pub IsFaultOfWords : List Text → LineFault → Type 0
IsFaultOfWords words fault =
    IsMemory fault ⊎ FitsOneOf (fault_of program words) fault ⊎ ((fault_of program words ≡ []) × IsBlamedBy (subcommand_of program words) fault)
