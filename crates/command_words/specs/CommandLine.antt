-- What the words of a command line ask for: the command that they name, with the values that they give for its parts, or the defaults.
use Rattle.std.specs.Prelude.{◌≡◌, ◌≢◌, ◌<◌, ◌≤◌, ◌^◌, if◌then◌else◌, ℕ, Bool, true, false, List, [], ◌∷◌, Option, Some, None, option_map, codes}
use Rattle.std.specs.Str.Parse.{IsNumeral, digits_value, without_leading_plus}
use Rattle.std.specs.Borrow.{Bor}
use Rattle.uuid.specs.Text.{parsed}
use Rattle.clap.specs.Words.{Row, Text, first_of, fault_of, subcommand_of}
use Rattle.command_words.specs.declared.commands.Command.{Command}
use Rattle.command_words.specs.declared.commands.Command.TheVariants.{FirstPath, Check, Metadata, Trace, Read}
use Rattle.command_words.specs.declared.commands.MetadataCommand.{MetadataCommand}
use Rattle.command_words.specs.declared.commands.TraceCommand.{TraceCommand}
use Rattle.command_words.specs.declared.commands.Resuming.{Resuming}
use Rattle.command_words.specs.declared.commands.Resuming.TheVariants.{Anew, Behind}
use Rattle.command_words.specs.declared.commands.ReadCommand.{ReadCommand}
use Rattle.command_words.specs.declared.line_fault.LineFault.{LineFault}
use Rattle.command_words.specs.declared.quota.Quota.{Quota}
use Rattle.command_words.specs.declared.line_fault.LineFault.TheVariants.{OutOfMemory}
use Rattle.command_words.specs.ProgramWords.{program}

abbrev pub IsMemory : LineFault → Type 0
IsMemory fault = fault ≡ OutOfMemory

-- ---- values

-- a text is the number, from 1 to the most: decimal digits, perhaps behind a plus sign
pub record SaysNumber (text : Text) (most n : ℕ) : Type 0 where
  pub numeral : IsNumeral 10 (without_leading_plus text)
  pub value : digits_value 10 (without_leading_plus text) ≡ n
  pub least : 1 ≤ n
  pub within : n ≤ most

-- no identifier is said, or the one that the text reads as; no case where it reads as none
abbrev pub uuid_said : Option Text → Option (Option (List ℕ))
uuid_said None = Some None
uuid_said (Some text) = option_map (λ u. Some u) (parsed text)

-- ---- what was found for the words of a command

abbrev pub HasWord : List Row → Text → Bor Text → Type 0
HasWord rows id word = first_of id rows ≡ Some word.now

-- a path is found: a word with a character
abbrev pub HasPath : List Row → Text → Bor Text → Type 0
HasPath rows id path = HasWord rows id path × (path.now ≢ [])

abbrev pub HasNumber : List Row → Text → ℕ → ℕ → Type 0
HasNumber rows id most n = (text : Text) × (first_of id rows ≡ Some text) × SaysNumber text most n

abbrev pub HasUuid : List Row → Option (List ℕ) → Type 0
HasUuid rows u = uuid_said (first_of (codes "uuid") rows) ≡ Some u

-- the flag is found, or it is not
abbrev pub HasFlag : List Row → Text → Bool → Type 0
HasFlag rows id flag = first_of id rows ≡ Some (if flag then codes "true" else codes "false")

-- a text is the number, from 0 to below the bound
pub record SaysBelow (text : Text) (bound n : ℕ) : Type 0 where
  pub numeral : IsNumeral 10 (without_leading_plus text)
  pub value : digits_value 10 (without_leading_plus text) ≡ n
  pub below : n < bound

-- the quota that is said, or the default
abbrev pub SaysQuota : Option Text → ℕ → Type 0
SaysQuota None n = n ≡ 1000000
SaysQuota (Some text) n = SaysBelow text (2 ^ 58) n

-- workers with a quota each; or none, and no quota
abbrev pub HasWorkers : List Row → Option Quota → Type 0
HasWorkers rows None = HasFlag rows (codes "workers") false × (first_of (codes "quota") rows ≡ None)
HasWorkers rows (Some quota) = HasFlag rows (codes "workers") true × SaysQuota (first_of (codes "quota") rows) quota.readings

-- the trace is to go on, or it is not
abbrev pub HasResuming : List Row → Resuming → Type 0
HasResuming rows Anew = HasFlag rows (codes "resume") false
HasResuming rows Behind = HasFlag rows (codes "resume") true

pub record AsksMetadata (rows : List Row) (m : MetadataCommand) : Type 0 where
  pub config : HasPath rows (codes "config") m.config
  pub uuid : HasUuid rows m.uuid

pub record AsksTrace (rows : List Row) (t : TraceCommand) : Type 0 where
  pub config : HasPath rows (codes "config") t.config
  pub script : HasPath rows (codes "script") t.script
  pub folder : HasPath rows (codes "folder") t.folder
  pub packet : HasNumber rows (codes "packet") (2 ^ 20) t.packet_bytes
  pub buffers : HasNumber rows (codes "buffers") 1024 t.buffers
  pub uuid : HasUuid rows t.uuid
  pub quiet : HasFlag rows (codes "quiet") t.is_quiet
  pub workers : HasWorkers rows t.workers
  pub resume : HasResuming rows t.resume

pub record AsksRead (rows : List Row) (r : ReadCommand) : Type 0 where
  pub folder : HasPath rows (codes "folder") r.folder
  pub quiet : HasFlag rows (codes "quiet") r.is_quiet

-- ---- the command

abbrev pub AsksBy : Text → List Row → Command → Type 0
AsksBy name rows FirstPath = ⊥
AsksBy name rows (Check config) = (name ≡ codes "check") × HasPath rows (codes "config") config
AsksBy name rows (Metadata m) = (name ≡ codes "metadata") × AsksMetadata rows m
AsksBy name rows (Trace t) = (name ≡ codes "trace") × AsksTrace rows t
AsksBy name rows (Read r) = (name ≡ codes "read") × AsksRead rows r

-- words that no step of the parser refuses, and the command with the rows that it finds
pub record AsksCommand (words : List Text) (c : Command) : Type 0 where
  pub taken : fault_of program words ≡ []
  pub name : Text
  pub rows : List Row
  pub found : subcommand_of program words ≡ Some (name, rows)
  pub asks : AsksBy name rows c

-- no words ask for the first path, and others by the parser's matches
abbrev pub Asks : List Text → Command → Type 0
Asks [] c = c ≡ FirstPath
Asks (word ∷ words) c = AsksCommand (word ∷ words) c

-- the words ask for nothing
abbrev pub HasNoCommand : List Text → Type 0
HasNoCommand words = (c : Command) → Asks words c → ⊥
