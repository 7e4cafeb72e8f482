-- Stream files that are read side by side, each with one packet in hand: what is known of each, and of all traces that go on from what was read.
use Rattle.std.specs.Prelude.{◌≡◌, ◌≢◌, ℕ, ◌+◌, ◌^◌, ◌<◌, ◌≤◌, ◌-◌, List, [], ◌∷◌, ◌++◌, Bool, true, false, not, ◌&&◌, Option, None, Some, IsSome, nat_eq, nat_lt, if◌then◌else◌, length, slice_get, unwrap_or}
use Rattle.std.specs.List.{AllZip, flat_map}
use Rattle.std.specs.Option.{option_map, option_map_or}
use Rattle.std.specs.Ordering.{is_lt}
use Rattle.clock_merge.specs.declared.place.Place.{Place}
use Rattle.clock_merge.specs.MergedFronts.{Heads, IsMergedFront}
use Rattle.clock_merge.specs.MergedOrder.{IsMerged, record_order}
use Rattle.ctf_types.specs.declared.Metadata.{Metadata}
use Rattle.ctf_types.specs.declared.ReadPacket.{ReadPacket}
use Rattle.packet_reader.specs.declared.packet_fault.StreamEnding.{StreamEnding}
use Rattle.packet_reader.specs.declared.read_stop.ReadStop.{ReadStop}
use Rattle.packet_reader.specs.declared.read_streams.ReadStream.{ReadStream}
use Rattle.packet_reader.specs.declared.stream_reader.StreamReader.{StreamReader}
use Rattle.packet_reader.specs.StreamClock.{stream_clock}
use Rattle.packet_reader.specs.StreamReaders.{HasGiven, ending_of, metadata_of, read_so_far, stop_of}
use Rattle.trace_text.specs.declared.next_step.Step.{Step}
use Rattle.trace_text.specs.declared.next_step.Step.TheVariants.{Over, Read, Tell}
use Rattle.trace_text.specs.declared.open_file.OpenFile.{OpenFile}
use Rattle.trace_text.specs.declared.printing_from.PrintedFile.{PrintedFile}
use Rattle.trace_text.specs.declared.printing_page.Page.{Page}
use Rattle.trace_text.specs.FileCounts.{IsCounted}
use Rattle.trace_text.specs.PrintedFromReaders.{Given, GoesOn, HasStopped, IsPrintedFile, Source, source}
use Rattle.trace_text.specs.PrintedPages.{IsOpen, Says}
use Rattle.trace_text.specs.PrintedTrace.{lines, place_line}

-- ---- one file

-- the record that is told next is in hand
abbrev pub has_head_in : List ReadPacket → ℕ → Bool
has_head_in [] at = false
has_head_in (k ∷ ks) at = nat_lt at (length k.records)

abbrev pub has_head : ReadStream → Place → Bool
has_head s p = has_head_in s.packets p.at

-- a packet is to be read before it is known
abbrev pub is_waiting : {R : Type 0} → OpenFile R → Bool
is_waiting file = not (has_head file.stream file.head) && not file.over

-- these are the packets that its reader gave, of some bytes, and of those that it had to give, where they are known
pub record HasRead {R : Type 0} (remaining : R → Option (List ℕ)) (m : Metadata) (f : Source) (ks : List ReadPacket) (reader : StreamReader R) : Type 0 where
  pub metadata_is : metadata_of reader ≡ m
  pub some_bytes : (bytes : List ℕ) × HasGiven read_so_far bytes ks reader
  pub its_bytes : (bytes : List ℕ) → f.known ≡ Some bytes → HasGiven remaining bytes ks reader

-- in hand is the last of these packets, with some of its records told, or none
abbrev pub IsInHand : List ReadPacket → List ReadPacket → ℕ → Type 0
IsInHand ks [] at = at ≡ 0
IsInHand ks (k ∷ rest) at = (rest ≡ []) × (before : List ReadPacket) × (ks ≡ before ++ k ∷ []) × (at ≤ length k.records)

-- the file at a place of the list, of which these packets were read
pub record IsOpenFile {R : Type 0} (remaining : R → Option (List ℕ)) (m : Metadata) (i : ℕ) (f : Source) (ks : List ReadPacket) (file : OpenFile R) : Type 0 where
  pub read : HasRead remaining m f ks file.reader
  pub name_is : file.stream.name ≡ f.name
  pub clock_is : file.stream.clock ≡ stream_clock m ks
  pub counted : IsCounted m ks file.counts
  pub stream_is : file.head.stream ≡ i
  pub packet_is : file.head.packet ≡ 0
  pub in_hand : IsInHand ks file.stream.packets file.head.at
  pub at_end : file.over ≡ true → (file.stream.packets ≡ []) × IsSome (ending_of file.reader)
  pub no_stop : stop_of file.reader ≡ None

-- more is read of a file; of one that had come to its end, nothing
abbrev pub ReadsOn : {R : Type 0} → List ReadPacket → StreamReader R → StreamReader R → Type 0
ReadsOn more old new = (ending : StreamEnding) → ending_of old ≡ Some ending → (more ≡ []) × (ending_of new ≡ Some ending)

-- these packets are in hand, one or none, and nothing of them is told
pub record HoldsNext {R : Type 0} (more : List ReadPacket) (file : OpenFile R) : Type 0 where
  pub one : file.stream.packets ≡ more
  pub at_first : file.head.at ≡ 0
  pub few : length more ≤ 1

-- the packet that was read next is in hand, or none at the file's end
pub record TakesNext {R : Type 0} (remaining : R → Option (List ℕ)) (m : Metadata) (i : ℕ) (f : Source) (ks : List ReadPacket) (old new : OpenFile R) : Type 0 where
  pub more : List ReadPacket
  pub open_on : IsOpenFile remaining m i f (ks ++ more) new
  pub reads_on : ReadsOn more old.reader new.reader
  pub holds : HoldsNext more new

-- what a file's reader gave
abbrev pub given : {R : Type 0} → Source → List ReadPacket → OpenFile R → Given
given f ks file = record { name = f.name; packets = ks; standing = file.reader.standing }

-- the reader gave a packet more or none, and no more comes, for this
pub record Stops {R : Type 0} (remaining : R → Option (List ℕ)) (m : Metadata) (f : Source) (ks : List ReadPacket) (old new : OpenFile R) (stop : ReadStop) : Type 0 where
  pub more : List ReadPacket
  pub has_read : HasRead remaining m f (ks ++ more) new.reader
  pub reads_on : ReadsOn more old.reader new.reader
  pub stopped : HasStopped (given f (ks ++ more) new) stop

-- the clock of a file, once a packet more is read
abbrev pub KnowsClock : {R : Type 0} → Metadata → ReadPacket → OpenFile R → OpenFile R → Type 0
KnowsClock m k old new =
    (new ≡ record old { stream = record old.stream { clock = new.stream.clock } })
    × (old.counts.packets ≡ 0 → new.stream.clock ≡ stream_clock m (k ∷ []))
    × (old.counts.packets ≢ 0 → new.stream.clock ≡ old.stream.clock)

-- a packet was taken in hand and counted
pub record IsTaken {R : Type 0} (m : Metadata) (k : ReadPacket) (old new : OpenFile R) : Type 0 where
  pub name_is : new.stream.name ≡ old.stream.name
  pub first_clock : old.counts.packets ≡ 0 → new.stream.clock ≡ stream_clock m (k ∷ [])
  pub same_clock : old.counts.packets ≢ 0 → new.stream.clock ≡ old.stream.clock
  pub packets_are : new.stream.packets ≡ k ∷ []
  pub counted : (ks : List ReadPacket) → IsCounted m ks old.counts → IsCounted m (ks ++ k ∷ []) new.counts
  pub stream_is : new.head.stream ≡ old.head.stream
  pub packet_is : new.head.packet ≡ old.head.packet
  pub at_first : new.head.at ≡ 0
  pub same_over : new.over ≡ old.over

-- ---- all files

-- the source at a place of the list
abbrev pub source_at : List Source → ℕ → Source
source_at sources i = unwrap_or (slice_get sources i) (source [] None)

-- of each file the packets that were read of it
abbrev pub Packets : Type 0
Packets = ℕ → List ReadPacket

-- the same with other packets of one file
abbrev pub with_packets : Packets → ℕ → List ReadPacket → Packets
with_packets ks i v j = if nat_eq j i then v else ks j

abbrev pub AreOpen : {R : Type 0} → (R → Option (List ℕ)) → Metadata → (ℕ → Source) → Packets → List (OpenFile R) → Type 0
AreOpen remaining m sources ks files = (i : ℕ) (file : OpenFile _) → slice_get files i ≡ Some file → IsOpenFile remaining m i (sources i) (ks i) file

abbrev pub AreRead : {R : Type 0} → (R → Option (List ℕ)) → Metadata → (ℕ → Source) → Packets → List (OpenFile R) → Type 0
AreRead remaining m sources ks files = (i : ℕ) (file : OpenFile _) → slice_get files i ≡ Some file → HasRead remaining m (sources i) (ks i) file.reader

-- the head of a file: the packet in hand is the last that was read
abbrev pub head_behind : List ReadPacket → List ReadPacket → ℕ → ℕ × ℕ
head_behind ks [] at = (length ks, 0)
head_behind ks (k ∷ rest) at = (length ks - 1, at)

abbrev pub heads_of : {R : Type 0} → Packets → List (OpenFile R) → Heads
heads_of ks files i = option_map_or (λ file. head_behind (ks i) file.stream.packets file.head.at) (slice_get files i) (0, 0)

-- what the reader of the file at each place gave
abbrev pub given_at : {R : Type 0} → (ℕ → Source) → Packets → List (OpenFile R) → ℕ → Option Given
given_at sources ks files i = option_map (given (sources i) (ks i)) (slice_get files i)

-- the streams of a whole trace that goes on from what was read
pub record GoOn {R : Type 0} (m : Metadata) (sources : ℕ → Source) (ks : Packets) (files : List (OpenFile R)) (streams : List ReadStream) : Type 0 where
  pub as_many : length streams ≡ length files
  pub each : (i : ℕ) (file : OpenFile R) → slice_get files i ≡ Some file → (s : ReadStream) × (slice_get streams i ≡ Some s) × GoesOn m (given (sources i) (ks i) file) s

-- ---- which is next

-- the head of the one file stands before that of the other in the merged order of all streams: what is in hand of the two says it
abbrev pub is_before : {R : Type 0} → OpenFile R → OpenFile R → Bool
is_before one other = is_lt (record_order (Some one.stream) one.head (Some other.stream) other.head)

-- of the first n files the one whose head is told first: no other head stands before it. The place behind it is a number of 64 bits
pub record IsFirst {R : Type 0} (files : List (OpenFile R)) (n i : ℕ) : Type 0 where
  pub within : i < n
  pub file : OpenFile R
  pub there : slice_get files i ≡ Some file
  pub has : has_head file.stream file.head ≡ true
  pub room : file.head.at + 1 < 2 ^ 64
  pub none_before : (j : ℕ) (other : OpenFile R) → j < n → j ≢ i → slice_get files j ≡ Some other → has_head other.stream other.head ≡ true
      → is_before other file ≡ false

abbrev pub IsFirstOf : {R : Type 0} → List (OpenFile R) → ℕ → Option ℕ → Type 0
IsFirstOf {R} files n None = (j : ℕ) (other : OpenFile R) → j < n → slice_get files j ≡ Some other → has_head other.stream other.head ≡ false
IsFirstOf {R} files n (Some i) = IsFirst files n i

-- the first file that waits for a packet
abbrev pub IsWaitingFile : {R : Type 0} → List (OpenFile R) → Option ℕ → Type 0
IsWaitingFile files None = (j : ℕ) (other : OpenFile _) → slice_get files j ≡ Some other → is_waiting other ≡ false
IsWaitingFile files (Some i) = (i < length files) × ((file : OpenFile _) → slice_get files i ≡ Some file → is_waiting file ≡ true)

-- of each file nothing is in hand yet
abbrev pub AllWait : {R : Type 0} → List (OpenFile R) → Type 0
AllWait files = (i : ℕ) (file : OpenFile _) → slice_get files i ≡ Some file → is_waiting file ≡ true

-- ---- what is told

-- some records were told: of all traces that go on they are those before the heads, and their lines were said
pub record Tells {R : Type 0} (remaining : R → Option (List ℕ)) (m : Metadata) (sources : ℕ → Source) (files : List (OpenFile R))
    (held : Option (List ℕ)) (page : Page) (later : Option (List ℕ)) (next : Page) : Type 0 where
  pub ks : Packets
  pub are_open : AreOpen remaining m sources ks files
  pub places : List Place
  pub front : (streams : List ReadStream) → GoOn m sources ks files streams → IsMergedFront streams (heads_of ks files) places
  pub said : (streams : List ReadStream) → GoOn m sources ks files streams → Says held page later next (flat_map (place_line m streams) places)

-- each file is at its end, and of all traces that go on these are all records, in the merged order
pub record AllTold {R : Type 0} (remaining : R → Option (List ℕ)) (m : Metadata) (sources : ℕ → Source) (files : List (OpenFile R)) : Type 0 where
  pub ks : Packets
  pub are_open : AreOpen remaining m sources ks files
  pub over : (i : ℕ) (file : OpenFile R) → slice_get files i ≡ Some file → IsSome (ending_of file.reader)
  pub places : List Place
  pub merged : (streams : List ReadStream) → GoOn m sources ks files streams → IsMerged streams places

-- all records were told, and their lines were said
pub record TellsAll {R : Type 0} (remaining : R → Option (List ℕ)) (m : Metadata) (sources : ℕ → Source) (files : List (OpenFile R))
    (held : Option (List ℕ)) (page : Page) (later : Option (List ℕ)) (next : Page) : Type 0 where
  pub all : AllTold remaining m sources files
  pub said : (streams : List ReadStream) → GoOn m sources all.ks files streams → Says held page later next (flat_map (place_line m streams) all.places)

-- what is done next: a packet is read of a file that waits, or, where none waits, the first of the heads is told, or all is told
abbrev pub IsNextStep : {R : Type 0} → List (OpenFile R) → Step → Type 0
IsNextStep files (Read i) = IsWaitingFile files (Some i)
IsNextStep files (Tell i) = IsWaitingFile files None × IsFirstOf files (length files) (Some i)
IsNextStep files Over = IsWaitingFile files None × IsFirstOf files (length files) None

-- all was said, and nothing is left on the page
pub record SaysAll {R : Type 0} (remaining : R → Option (List ℕ)) (m : Metadata) (sources : ℕ → Source) (files : List (OpenFile R)) (answered : List PrintedFile)
    (held : Option (List ℕ)) (page : Page) (later : Option (List ℕ)) (next : Page) : Type 0 where
  pub all : AllTold remaining m sources files
  pub said : (streams : List ReadStream) → GoOn m sources all.ks files streams → Says held page later next (lines m streams all.places)
  pub answers : (streams : List ReadStream) → GoOn m sources all.ks files streams → AllZip IsPrintedFile streams answered
  pub is_open : IsOpen next
  pub empty : next.bytes ≡ []

-- whether all was told or not: what was said is a front of the text of each trace that goes on
pub record SaysFront {R : Type 0} (remaining : R → Option (List ℕ)) (m : Metadata) (sources : ℕ → Source) (files : List (OpenFile R))
    (held : Option (List ℕ)) (page : Page) (later : Option (List ℕ)) (next : Page) : Type 0 where
  pub ks : Packets
  pub read : AreRead remaining m sources ks files
  pub said : (streams : List ReadStream) (order : List Place) → GoOn m sources ks files streams → IsMerged streams order
      → (text : List ℕ) × (rest : List ℕ) × (lines m streams order ≡ text ++ rest) × Says held page later next text
