-- What `check` and `metadata` answer to the text of a configuration's file.
use Rattle.std.specs.Prelude.{◌≡◌, ◌⊎◌, ℕ, List, [], ◌++◌, Option, Some, None, map, sum, length, codes, string_bytes}
use Rattle.std.specs.Fmt.{decimal}
use Rattle.ctf_types.specs.declared.Config.{Config}
use Rattle.ctf_types.specs.declared.StreamType.{StreamType}
use Rattle.ctf_types.specs.declared.IntType.{IntType}
use Rattle.ctf_types.specs.AllowedConfig.{IsConfig}
use Rattle.ctf_types.specs.MetadataOf.{metadata_of}
use Rattle.conf_tree.specs.declared.fault.ConfFault.{ConfFault}
use Rattle.conf_tree.specs.Flaw.{flaw_of}
use Rattle.conf_fault.specs.Explanation.{IsExplanation}
use Rattle.conf_check.specs.Configuration.{Configures, IsRefusal}
use Rattle.tsdl_grammar.specs.Denotes.{Denotes}
use Rattle.tsdl_writer.specs.Written.{written}
use Rattle.trace_commands.specs.declared.judged.Judged.{Judged}
use Rattle.trace_commands.specs.declared.judged.Judged.TheVariants.{Right, Refused}
use Rattle.trace_commands.specs.FaultLines.{fault_line}

-- the text is no configuration, since this fault tells of its first flaw
pub record IsRefused (text : List ℕ) (number : Option (List ℕ)) (fault : ConfFault) : Type 0 where
  pub first : IsRefusal text number (flaw_of fault)
  pub none : (c : Config) → Configures text number c → ⊥

-- the line explains this fault of the file's text
abbrev pub IsExplainedIn : List ℕ → List ℕ → ConfFault → List ℕ → Type 0
IsExplainedIn path text fault line = (said : List ℕ) × IsExplanation text fault said × (line ≡ fault_line path said)

-- nothing is printed, and a line explains the first fault
pub record IsConfigurationFault (path text : List ℕ) (number : Option (List ℕ)) (output errors : List ℕ) (status : ℕ) : Type 0 where
  pub fault : ConfFault
  pub refused : IsRefused text number fault
  pub nothing : output ≡ []
  pub explained : IsExplainedIn path text fault errors
  pub failed : status ≡ 1

-- the text is this configuration, or it is none, which this answers
abbrev pub IsJudged : List ℕ → List ℕ → Option (List ℕ) → Judged → Type 0
IsJudged path text number (Right c) = Configures text number c × IsConfig c
IsJudged path text number (Refused a) = IsConfigurationFault path text number (string_bytes a.output) a.errors.items a.status

-- ---- check

abbrev pub events_in : List StreamType → ℕ
events_in streams = sum (map (λ s. length s.events) streams)

abbrev pub counted_line : Config → List ℕ
counted_line c =
    codes "ok: " ++ decimal (length c.streams) ++ codes " stream types, " ++ decimal (events_in c.streams) ++ codes " event types\n"

abbrev pub hint : List ℕ
hint = codes "hint: trace/type/$features/data-stream-type-id-field-type is off: babeltrace2 does not read such a trace"

-- packets that say no stream's number, where metadata numbers its streams
unfoldable pub hint_by : List ℕ → Option IntType → List ℕ
hint_by path None = fault_line path hint
hint_by path (Some t) = []

abbrev pub hint_line : List ℕ → Config → List ℕ
hint_line path c = hint_by path c.header.stream_id

pub record IsCounted (path text output errors : List ℕ) (status : ℕ) : Type 0 where
  pub config : Config
  pub configures : Configures text None config
  pub output_is : output ≡ counted_line config
  pub errors_are : errors ≡ hint_line path config
  pub fine : status ≡ 0

abbrev pub IsChecked : List ℕ → List ℕ → List ℕ → List ℕ → ℕ → Type 0
IsChecked path text output errors status = IsCounted path text output errors status ⊎ IsConfigurationFault path text None output errors status

-- ---- metadata

pub record IsWritten (text : List ℕ) (number : Option (List ℕ)) (output errors : List ℕ) (status : ℕ) : Type 0 where
  pub config : Config
  pub configures : Configures text number config
  pub output_is : output ≡ written config
  pub denotes : Denotes output (metadata_of config)
  pub errors_are : errors ≡ []
  pub fine : status ≡ 0

abbrev pub IsMetadataAnswer : List ℕ → List ℕ → Option (List ℕ) → List ℕ → List ℕ → ℕ → Type 0
IsMetadataAnswer path text number output errors status =
    IsWritten text number output errors status ⊎ IsConfigurationFault path text number output errors status
