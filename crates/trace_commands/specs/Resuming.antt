-- A folder in which a trace is to go on: what its metadata and the files of a script's streams have to be, by what the readers of the files that were opened
-- had to give. Which path a file was opened under, and that no file is there, no reader tells.
use Rattle.std.specs.Prelude.{◌≡◌, ◌≢◌, ◌⊎◌, ℕ, false, List, Option, None, Some, codes, length, slice_get}
use Rattle.std.specs.List.{All}
use Rattle.ctf_types.specs.declared.Config.{Config}
use Rattle.ctf_types.specs.declared.Metadata.{Metadata}
use Rattle.ctf_types.specs.MetadataOf.{metadata_of}
use Rattle.ctf_types.specs.declared.ReadPacket.{ReadPacket}
use Rattle.packet_reader.specs.declared.earlier_file.EarlierFile.{EarlierFile}
use Rattle.packet_reader.specs.declared.packet_fault.StreamEnding.{StreamEnding}
use Rattle.packet_reader.specs.declared.resuming.ResumePoint.{ResumePoint}
use Rattle.packet_reader.specs.StreamReading.{Reads}
use Rattle.trace_stack.specs.GoneOn.{IsBefore}
use Rattle.trace_text.specs.declared.script.ScriptStream.{ScriptStream}
use Rattle.tsdl_grammar.specs.Denotes.{Denotes}
use Rattle.tsdl_writer.specs.Written.{written}
use Rattle.trace_commands.specs.declared.found_folder.NotResumed.{NotResumed}
use Rattle.trace_commands.specs.declared.found_folder.NotResumed.TheVariants.{Refused, Failed}
use Rattle.trace_commands.specs.Ends.{IsEndLine, is_whole, path_in}
use Rattle.trace_commands.specs.Reading.{IsPathIn, metadata_name}
use Rattle.trace_commands.specs.FaultLines.{fault_line}
use Rattle.trace_commands.specs.Telling.{FailsAt, WasGiven}

-- this is said of the path, or its file failed, or memory was wanting
abbrev pub RefusesAt : List ℕ → List ℕ → NotResumed → Type 0
RefusesAt path said (Refused line) = line.items ≡ fault_line path said
RefusesAt path said (Failed failure) = FailsAt (λ failed. failed ≡ path) failure

-- the file of this name gave no point, and a line says how it ends; or the folder or a file in it failed, or memory was wanting
abbrev pub RefusesEnd : List ℕ → List ℕ → EarlierFile → NotResumed → Type 0
RefusesEnd folder name found (Refused line) = (found.point ≡ None) × IsEndLine folder name found.packets found.end line.items
RefusesEnd folder name found (Failed failure) = FailsAt (IsPathIn folder) failure

-- what is said of metadata that are not there, and of others than the configuration's
abbrev pub no_metadata : List ℕ
no_metadata = codes "no metadata is there"

abbrev pub other_metadata : List ℕ
other_metadata = codes "not the metadata of the configuration"

module _ {File : Type 0} (remaining : File → Option (List ℕ)) where
  -- ---- metadata

  -- the metadata that is there is the configuration's
  abbrev pub HasMetadata : Config → Type 0
  HasMetadata c = WasGiven remaining (written c) × Denotes (written c) (metadata_of c)

  -- no file is there, or another text, which is said
  abbrev pub IsOther : List ℕ → Option (List ℕ) → List ℕ → Type 0
  IsOther wanted None said = said ≡ no_metadata
  IsOther wanted (Some text) said = WasGiven remaining text × (text ≢ wanted) × (said ≡ other_metadata)

  abbrev pub HasOtherMetadata : List ℕ → List ℕ → List ℕ → Type 0
  HasOtherMetadata folder wanted line =
      (text : Option (List ℕ)) × (said : List ℕ) × IsOther wanted text said × (line ≡ fault_line (path_in folder metadata_name) said)

  -- ---- stream files

  -- by what was read of a file that is there, this is the point behind it
  abbrev pub HasPoint : Metadata → Option ResumePoint → Type 0
  HasPoint m None = Unit {0}
  HasPoint m (Some p) = (earlier : List ℕ) × (packets : List ReadPacket) × WasGiven remaining earlier × IsBefore m earlier packets p

  -- by what was read of the file of this name, it does not end whole, and this line says it
  pub record IsBroken (m : Metadata) (name folder line : List ℕ) : Type 0 where
    pub bytes : List ℕ
    pub given : WasGiven remaining bytes
    pub packets : List ReadPacket
    pub end : StreamEnding
    pub reads : Reads m bytes packets end
    pub not_whole : is_whole end ≡ false
    pub said : IsEndLine folder name (length packets) end line

  -- the files of the streams before this one are not there, or have points, and its own is broken
  pub record HasBroken (m : Metadata) (streams : List ScriptStream) (folder line : List ℕ) : Type 0 where
    pub points : List (Option ResumePoint)
    pub before : All (HasPoint m) points
    pub stream : ScriptStream
    pub there : slice_get streams (length points) ≡ Some stream
    pub broken : IsBroken m stream.name folder line

  -- ---- refusals

  abbrev pub RefusesMetadata : List ℕ → List ℕ → NotResumed → Type 0
  RefusesMetadata folder wanted (Refused line) = HasOtherMetadata folder wanted line.items
  RefusesMetadata folder wanted (Failed failure) = FailsAt (IsPathIn folder) failure

  abbrev pub RefusesFile : Metadata → List ℕ → List ℕ → NotResumed → Type 0
  RefusesFile m name folder (Refused line) = IsBroken m name folder line.items
  RefusesFile m name folder (Failed failure) = FailsAt (IsPathIn folder) failure

  abbrev pub RefusesFiles : Metadata → List ScriptStream → List ℕ → NotResumed → Type 0
  RefusesFiles m streams folder (Refused line) = HasBroken m streams folder line.items
  RefusesFiles m streams folder (Failed failure) = FailsAt (IsPathIn folder) failure

  -- the trace does not go on in the folder
  abbrev pub RefusesFolder : Metadata → List ScriptStream → List ℕ → List ℕ → NotResumed → Type 0
  RefusesFolder m streams folder wanted (Refused line) = HasOtherMetadata folder wanted line.items ⊎ HasBroken m streams folder line.items
  RefusesFolder m streams folder wanted (Failed failure) = FailsAt (IsPathIn folder) failure
