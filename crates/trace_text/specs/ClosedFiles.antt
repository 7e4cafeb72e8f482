-- The lines of stream files that were read to their ends, each by what was counted of it.
use Rattle.std.specs.Prelude.{◌≡◌, ℕ, List, [], map, slice_get, unwrap_or}
use Rattle.std.specs.Option.{option_map_or}
use Rattle.packet_reader.specs.declared.packet_fault.StreamEnding.{StreamEnding}
use Rattle.packet_reader.specs.declared.packet_fault.StreamEnding.TheVariants.{Whole}
use Rattle.packet_reader.specs.StreamReaders.{ending_of}
use Rattle.trace_text.specs.declared.open_file.OpenFile.{OpenFile}
use Rattle.trace_text.specs.declared.printing_from.PrintedFile.{PrintedFile}
use Rattle.trace_text.specs.FileCounts.{told_of}
use Rattle.trace_text.specs.PrintedStreams.{counted_line}

-- how the file ends, once its reader came there
abbrev pub end_in : {R : Type 0} → OpenFile R → StreamEnding
end_in file = unwrap_or (ending_of file.reader) Whole

abbrev pub closed_line : {R : Type 0} → OpenFile R → List ℕ
closed_line file = counted_line file.stream.name (told_of file.counts) (end_in file)

-- the line of the file at a place of the list
abbrev pub closed_line_at : {R : Type 0} → List (OpenFile R) → ℕ → List ℕ
closed_line_at files i = option_map_or closed_line (slice_get files i) []

-- the files' names
abbrev pub file_names : {R : Type 0} → List (OpenFile R) → List (List ℕ)
file_names files = map (λ file. file.stream.name) files

-- what is answered of a file
pub record IsAnswered {R : Type 0} (file : OpenFile R) (f : PrintedFile) : Type 0 where
  pub name_is : f.name ≡ file.stream.name
  pub packets_are : f.packets ≡ file.counts.packets
  pub end_is : f.end ≡ end_in file
