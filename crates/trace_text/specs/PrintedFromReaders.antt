-- A trace that is printed while it is read: what each reader has given so far, and how the whole trace goes on from there. Where no reader fails, the text is
-- that of a trace that is read of the readers. Whatever happens, what is written is a front of the text of each trace that goes on from what the readers gave.
use Rattle.std.specs.Prelude.{◌≡◌, ◌⊎◌, ℕ, List, ◌++◌, Option, Some, All, IsSome, length}
use Rattle.std.specs.List.{AllZip}
use Rattle.std.specs.Io.KnownBytes.{Appends}
use Rattle.clock_merge.specs.declared.place.Place.{Place}
use Rattle.clock_merge.specs.MergedOrder.{IsMerged}
use Rattle.ctf_types.specs.declared.Metadata.{Metadata}
use Rattle.ctf_types.specs.declared.ReadPacket.{ReadPacket}
use Rattle.ctf_types.specs.Packets.{StreamLies}
use Rattle.packet_reader.specs.declared.packet_fault.StreamEnding.{StreamEnding}
use Rattle.packet_reader.specs.declared.read_stop.ReadStop.{ReadStop}
use Rattle.packet_reader.specs.declared.read_stop.ReadStop.TheVariants.{ReaderFault, TooManyReads, OutOfMemory}
use Rattle.packet_reader.specs.declared.read_streams.ReadStream.{ReadStream}
use Rattle.packet_reader.specs.declared.standing.Standing.{Standing}
use Rattle.packet_reader.specs.declared.standing.Standing.TheVariants.{Reading, Stopped}
use Rattle.packet_reader.specs.StreamReaders.{ending_in}
use Rattle.packet_reader.specs.StreamReading.{Reads}
use Rattle.trace_platform.specs.Fronts.{AppendsFront}
use Rattle.trace_stack.specs.declared.reading.ReadTrace.{ReadTrace}
use Rattle.trace_stack.specs.FromReaders.{ReaderRead}
use Rattle.trace_stack.specs.Reading.{FileRead, IsOneOrder}
use Rattle.trace_text.specs.declared.printing_from.PrintedFile.{PrintedFile}
use Rattle.trace_text.specs.FileCounts.{ArePastCounting}
use Rattle.trace_text.specs.PrintedTrace.{lines, printed}

-- a reader as it is handed in: its file's name, and the bytes that it has to give, where they are known
pub record Source : Type 0 where
  pub name : List ℕ
  pub known : Option (List ℕ)

abbrev pub source : List ℕ → Option (List ℕ) → Source
source name known = record { name = name; known = known }

-- ---- where no reader fails

-- what is answered of a stream file
pub record IsPrintedFile (s : ReadStream) (f : PrintedFile) : Type 0 where
  pub name_is : f.name ≡ s.name
  pub packets_are : f.packets ≡ length s.packets
  pub end_is : f.end ≡ s.end

-- this trace is read of these readers
pub record IsReadOf (m : Metadata) (sources : List Source) (t : ReadTrace) : Type 0 where
  pub by : t.metadata ≡ m
  pub reads : AllZip (λ f s. ReaderRead m f.name f.known s) sources t.streams
  pub in_order : IsOneOrder t.streams t.order.items

-- the text of a trace that is read of these readers was written behind what was there, and what is answered of its files stands in their order; where all
-- bytes are known, this is the text of every trace that is read of them
pub record PrintsWhole (m : Metadata) (sources : List Source) (old new : Option (List ℕ)) (files : List PrintedFile) : Type 0 where
  pub streams : List ReadStream
  pub order : List Place
  pub reads : AllZip (λ f s. ReaderRead m f.name f.known s) sources streams
  pub in_order : IsOneOrder streams order
  pub written : Appends old new (lines m streams order)
  pub answered : AllZip IsPrintedFile streams files
  pub one_text : (t : ReadTrace) → All (λ f. IsSome f.known) sources → IsReadOf m sources t → Appends old new (printed t)

-- ---- whatever happens

-- what a reader gave of its file: the packets, and how it stands behind them. It reads on, or it has come to the file's end, or it has stopped
pub record Given : Type 0 where
  pub name : List ℕ
  pub packets : List ReadPacket
  pub standing : Standing

-- they lie in a front of these bytes, and with the ending they are all that is read of them
pub record IsGivenOf (m : Metadata) (bytes : List ℕ) (g : Given) : Type 0 where
  pub front : (rest : List ℕ) × StreamLies m bytes g.packets rest
  pub all : (ending : StreamEnding) → ending_in g.standing ≡ Some ending → Reads m bytes g.packets ending

-- they are of some bytes, and of those that the reader had to give, where they are known
pub record IsGiven (m : Metadata) (f : Source) (g : Given) : Type 0 where
  pub name_is : g.name ≡ f.name
  pub some_bytes : (bytes : List ℕ) × IsGivenOf m bytes g
  pub its_bytes : (bytes : List ℕ) → f.known ≡ Some bytes → IsGivenOf m bytes g

-- the reader has stopped with just this stop, or what it gave is more than is counted; memory may have been wanting elsewhere
abbrev pub HasStopped : Given → ReadStop → Type 0
HasStopped g ReaderFault = g.standing ≡ Stopped ReaderFault
HasStopped g TooManyReads = (g.standing ≡ Stopped TooManyReads) ⊎ ((g.standing ≡ Reading) × ArePastCounting g.packets)
HasStopped g OutOfMemory = Unit {0}

-- what is read of a whole file goes on from what was given of it; where the file's end was reached, nothing more is read
pub record GoesOn (m : Metadata) (g : Given) (s : ReadStream) : Type 0 where
  pub read : (bytes : List ℕ) × FileRead m g.name bytes s
  pub more : (more : List ReadPacket) × (s.packets ≡ g.packets ++ more)
  pub ended : (ending : StreamEnding) → ending_in g.standing ≡ Some ending → (s.packets ≡ g.packets) × (s.end ≡ ending)

-- what is written is a front of the text of each trace that goes on from what the readers gave
pub record PrintsFront (m : Metadata) (sources : List Source) (old new : Option (List ℕ)) : Type 0 where
  pub given : List Given
  pub is_given : AllZip (IsGiven m) sources given
  pub written : (streams : List ReadStream) (order : List Place) → AllZip (GoesOn m) given streams → IsMerged streams order
      → AppendsFront old new (lines m streams order)
