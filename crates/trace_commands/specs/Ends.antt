-- What is said of how stream files end: a line for each that does not end whole, with its path, the number of the packet that is not there and its place.
use Rattle.std.specs.Prelude.{◌≡◌, ◌⊎◌, ℕ, ◌+◌, Bool, true, false, List, [], ◌∷◌, ◌++◌, Option, map, length, codes, if◌then◌else◌}
use Rattle.std.specs.List.{list_all}
use Rattle.std.specs.Fmt.{decimal}
use Rattle.std.specs.Io.KnownBytes.{Appends}
use Rattle.packet_reader.specs.declared.packet_fault.StreamEnding.{StreamEnding}
use Rattle.packet_reader.specs.declared.packet_fault.StreamEnding.TheVariants.{Whole, Torn, Faulty}
use Rattle.packet_reader.specs.declared.read_streams.ReadStream.{ReadStream}
use Rattle.trace_platform.specs.Fronts.{AppendsLess}
use Rattle.trace_text.specs.declared.printing_from.PrintedFile.{PrintedFile}
use Rattle.trace_commands.specs.FaultLines.{fault_line}
use Rattle.trace_commands.specs.Telling.{IsMemoryLine, SaysLine}

-- the path of a file in a folder
abbrev pub path_in : List ℕ → List ℕ → List ℕ
path_in folder name = folder ++ (codes "/" ++ name)

-- the line of a stream file whose packet behind so many is none, with its number from 1 on and its place in bytes
abbrev pub packet_line : List ℕ → List ℕ → ℕ → ℕ → List ℕ → List ℕ
packet_line folder name packets place said =
    fault_line (path_in folder name) (codes "packet " ++ (decimal (packets + 1) ++ (codes ", byte " ++ (decimal place ++ (codes ": " ++ said)))))

abbrev pub IsPacketLine : List ℕ → List ℕ → ℕ → ℕ → List ℕ → Type 0
IsPacketLine folder name packets place line = (said : List ℕ) × (line ≡ packet_line folder name packets place said)

-- nothing of a file that ends whole
abbrev pub IsEndLine : List ℕ → List ℕ → ℕ → StreamEnding → List ℕ → Type 0
IsEndLine folder name packets Whole line = line ≡ []
IsEndLine folder name packets (Torn place) line = IsPacketLine folder name packets place line
IsEndLine folder name packets (Faulty fault place) line = IsPacketLine folder name packets place line

-- that of a stream file that was read, and of one that was printed
abbrev pub stream_line : List ℕ → ReadStream → List ℕ → Type 0
stream_line folder s line = IsEndLine folder s.name (length s.packets) s.end line

abbrev pub file_line : List ℕ → PrintedFile → List ℕ → Type 0
file_line folder f line = IsEndLine folder f.name f.packets f.end line

-- what is said of each, one after the other
abbrev pub AreLines : {X : Type 0} → (X → List ℕ → Type 0) → List X → List ℕ → Type 0
AreLines Is [] said = said ≡ []
AreLines Is (x ∷ xs) said = (line : List ℕ) × (rest : List ℕ) × (said ≡ line ++ rest) × Is x line × AreLines Is xs rest

abbrev pub is_whole : StreamEnding → Bool
is_whole Whole = true
is_whole (Torn place) = false
is_whole (Faulty fault place) = false

-- 0 where all stream files end whole
abbrev pub status_of : List StreamEnding → ℕ
status_of ends = if list_all is_whole ends then 0 else 1

-- all is said, or at status 3 less than all, or that memory was wanting for it
abbrev pub SaysEnds : List ℕ → List PrintedFile → Option (List ℕ) → Option (List ℕ) → ℕ → Type 0
SaysEnds folder files old new status =
    ((said : List ℕ) × AreLines (file_line folder) files said × Appends old new said × (status ≡ status_of (map (λ f. f.end) files)))
    ⊎ ((status ≡ 3) × (((said : List ℕ) × AreLines (file_line folder) files said × AppendsLess old new said) ⊎ SaysLine IsMemoryLine old new))
