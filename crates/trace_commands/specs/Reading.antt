-- What `read` answers to the files of a folder: the text of its metadata, and of each stream file its name and what its reader had to give.
use Rattle.std.specs.Prelude.{◌≡◌, ◌≢◌, ◌⊎◌, ℕ, Bool, not, List, [], ◌∷◌, ◌++◌, Option, Some, map, filter, slice_get, All, IsPermutation, IsSorted, codes, bytes_eq}
use Rattle.std.specs.List.{AllZip}
use Rattle.std.specs.Ordering.{nat_cmp}
use Rattle.std.specs.Cmp.Lexicographic.{slice_cmp}
use Rattle.clock_merge.specs.declared.place.Place.{Place}
use Rattle.ctf_types.specs.declared.Metadata.{Metadata}
use Rattle.packet_reader.specs.declared.read_streams.ReadStream.{ReadStream}
use Rattle.tsdl_grammar.specs.declared.fault.MetaFault.{MetaFault}
use Rattle.tsdl_grammar.specs.declared.fault.MetaFaultKind.TheVariants.{OutOfMemory}
use Rattle.tsdl_grammar.specs.Denotes.{Denotes}
use Rattle.tsdl_reader.specs.Explained.{IsExplained}
use Rattle.tsdl_reader.specs.Reading.{FaultHolds}
use Rattle.trace_stack.specs.declared.trace_fault.TraceFault.{TraceFault}
use Rattle.trace_stack.specs.declared.trace_fault.TraceFault.TheVariants as faults
use Rattle.trace_stack.specs.FromReaders.{ReaderRead}
use Rattle.trace_stack.specs.Reading.{IsOneOrder}
use Rattle.trace_text.specs.PrintedFromReaders.{Source}
use Rattle.trace_text.specs.PrintedTrace.{lines}
use Rattle.trace_text.specs.ReadingFaults.{StopsAt}
use Rattle.trace_text.specs.declared.reading_fault.ReadingFault.{ReadingFault}
use Rattle.trace_text.specs.declared.reading_fault.ReadingFault.TheVariants.{Reader, Writer, TooManyRecords, OutOfMemory as NoMemory}
use Rattle.trace_commands.specs.Ends.{AreLines, path_in, status_of, stream_line}
use Rattle.trace_commands.specs.FaultLines.{fault_line}
use Rattle.trace_commands.specs.Telling.{ErrorsStopped, IsLineOf, IsMemoryLine, IsOutputLine, SaysFailure, SaysLine, Told, ToldWhole, WasGiven}

-- ---- the files of a folder

-- the path of a folder, or of a file in it
abbrev pub IsPathIn : List ℕ → List ℕ → Type 0
IsPathIn folder path = (path ≡ folder) ⊎ ((name : List ℕ) × (path ≡ path_in folder name))

abbrev pub metadata_name : List ℕ
metadata_name = codes "metadata"

-- all but the metadata's
abbrev pub is_stream_name : List ℕ → Bool
is_stream_name name = not (bytes_eq name metadata_name)

-- of the names in a folder those of stream files, each as often as it is listed, in byte order
pub record AreStreamNames (listed names : List (List ℕ)) : Type 0 where
  pub all : IsPermutation (filter is_stream_name listed) names
  pub rise : IsSorted (slice_cmp nat_cmp) names

-- this is what the reader of a file that was opened had to give, where that is known
abbrev pub IsOfFile : {File : Type 0} → (File → Option (List ℕ)) → Source → Type 0
IsOfFile {File} remaining f = (file : File) × (f.known ≡ remaining file)

-- the files that were opened: the metadata's, which had this text to give, and one for each stream name of the folder's names
pub record IsOpened {File : Type 0} (remaining : File → Option (List ℕ)) (text : List ℕ) (sources : List Source) : Type 0 where
  pub metadata : WasGiven remaining text
  pub listed : List (List ℕ)
  pub names : AreStreamNames listed (map (λ f. f.name) sources)
  pub streams : All (IsOfFile remaining) sources

-- ---- a text that denotes no metadata

-- this is its first fault
pub record HasFault (text : List ℕ) (fault : MetaFault) : Type 0 where
  pub blamed : fault.kind ≢ OutOfMemory
  pub holds : FaultHolds text fault.kind fault.place
  pub none : (m : Metadata) → Denotes text m → ⊥

-- nothing is printed, and a line of the file explains this fault of its text
pub record ExplainsFault (folder text : List ℕ) (fault : MetaFault) (output errors : List ℕ) (status : ℕ) : Type 0 where
  pub output_is : output ≡ []
  pub said : List ℕ
  pub explained : IsExplained text fault said
  pub errors_are : errors ≡ fault_line (path_in folder metadata_name) said
  pub status_is : status ≡ 1

pub record IsMetadataFault (folder text output errors : List ℕ) (status : ℕ) : Type 0 where
  pub fault : MetaFault
  pub has : HasFault text fault
  pub refusal : ExplainsFault folder text fault output errors status

-- a metadata text has this fault, or memory was wanting
abbrev pub IsFaultOf : List ℕ → TraceFault → Type 0
IsFaultOf text (faults.Metadata fault) = HasFault text fault
IsFaultOf text (faults.Reader place stop) = ⊥
IsFaultOf text faults.OutOfMemory = Unit {0}

-- ---- a trace

-- what is printed of the trace that is read of these readers: the metadata that the text denotes, each file by it and under its name, and all records in the one
-- order; and what is said of the files' ends
pub record IsShown (folder : List ℕ) (text : List ℕ) (sources : List Source) (output errors : List ℕ) (status : ℕ) : Type 0 where
  pub metadata : Metadata
  pub denotes : Denotes text metadata
  pub streams : List ReadStream
  pub order : List Place
  pub read : AllZip (λ f s. ReaderRead metadata f.name f.known s) sources streams
  pub in_order : IsOneOrder streams order
  pub output_is : output ≡ lines metadata streams order
  pub errors_are : AreLines (stream_line folder) streams errors
  pub status_is : status ≡ status_of (map (λ s. s.end) streams)

-- the path of the file whose reader stands at this place of the list
abbrev pub IsPathAt : List ℕ → List Source → ℕ → List ℕ → Type 0
IsPathAt folder sources place path = (f : Source) × (slice_get sources place ≡ Some f) × (path ≡ path_in folder f.name)

-- the line that says why a trace is not printed to its end: the file of the reader that stopped, the output, more records than are counted, or memory
abbrev pub IsStopLine : List ℕ → List Source → ReadingFault → List ℕ → Type 0
IsStopLine folder sources (Reader place stop) line = IsLineOf (IsPathAt folder sources place) line
IsStopLine folder sources Writer line = IsOutputLine line
IsStopLine folder sources TooManyRecords line = line ≡ codes "ctftrace: no end after 2^64 records" ++ 10 ∷ []
IsStopLine folder sources NoMemory line = IsMemoryLine line

-- what is printed is a front of the text of each trace that goes on from what the readers gave, and a line says why it is no more: of the readers, as they stand at the
-- end, that of the file that it names has stopped, and no other, or the output had not taken all
pub record IsCutShort (folder text : List ℕ) (sources : List Source) (old new old_errors new_errors : Option (List ℕ)) : Type 0 where
  pub metadata : Metadata
  pub denotes : Denotes text metadata
  pub fault : ReadingFault
  pub printed : StopsAt metadata sources old new fault
  pub said : SaysLine (IsStopLine folder sources fault) old_errors new_errors

abbrev pub ShowsTrace : List ℕ → List ℕ → List Source → Option (List ℕ) → Option (List ℕ) → Option (List ℕ) → Option (List ℕ) → ℕ → Type 0
ShowsTrace folder text sources old new old_errors new_errors status =
    ToldWhole (IsShown folder text sources) old new old_errors new_errors status
    ⊎ ((status ≡ 3) × (ErrorsStopped (IsShown folder text sources) old new old_errors new_errors ⊎ IsCutShort folder text sources old new old_errors new_errors))

-- ---- the command

-- the printed trace, or the metadata's fault
abbrev pub TellsOpened : List ℕ → List ℕ → List Source → Option (List ℕ) → Option (List ℕ) → Option (List ℕ) → Option (List ℕ) → ℕ → Type 0
TellsOpened folder text sources old new old_errors new_errors status =
    ShowsTrace folder text sources old new old_errors new_errors status
    ⊎ Told (IsMetadataFault folder text) old new old_errors new_errors status

-- the answer to what the files of the folder had to give; or a file was not opened, the metadata was not read, or memory was wanting
abbrev pub ReadsFolder : {File : Type 0} → (File → Option (List ℕ)) → List ℕ → Option (List ℕ) → Option (List ℕ) → Option (List ℕ) → Option (List ℕ) → ℕ → Type 0
ReadsFolder remaining folder old new old_errors new_errors status =
    ((text : List ℕ) × (sources : List Source) × IsOpened remaining text sources × TellsOpened folder text sources old new old_errors new_errors status)
    ⊎ ((status ≡ 3) × SaysFailure (IsLineOf (IsPathIn folder)) old new old_errors new_errors)
