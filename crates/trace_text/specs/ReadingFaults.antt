-- Why a trace is not printed to its end while it is read: one of its readers stopped, the writer failed, memory was wanting, or there was no end.
use Rattle.std.specs.Prelude.{◌≡◌, ◌≢◌, ℕ, ◌<◌, List, Option, None, Some, slice_get}
use Rattle.std.specs.List.{AllZip}
use Rattle.clock_merge.specs.declared.place.Place.{Place}
use Rattle.clock_merge.specs.MergedOrder.{IsMerged}
use Rattle.ctf_types.specs.declared.Metadata.{Metadata}
use Rattle.packet_reader.specs.declared.read_stop.ReadStop.{ReadStop}
use Rattle.packet_reader.specs.declared.read_stop.ReadStop.TheVariants as stops
use Rattle.packet_reader.specs.declared.read_streams.ReadStream.{ReadStream}
use Rattle.packet_reader.specs.StreamReaders.{stop_in}
use Rattle.trace_platform.specs.Fronts.{AppendsLess}
use Rattle.trace_text.specs.declared.open_file.OpenFile.{OpenFile}
use Rattle.trace_text.specs.declared.printing_fault.PrintFault.{PrintFault}
use Rattle.trace_text.specs.declared.printing_page.Page.{Page}
use Rattle.trace_text.specs.declared.printing_fault.PrintFault.TheVariants as prints
use Rattle.trace_text.specs.declared.reading_fault.ReadingFault.{ReadingFault}
use Rattle.trace_text.specs.declared.reading_fault.ReadingFault.TheVariants.{Reader, Writer, TooManyRecords, OutOfMemory}
use Rattle.trace_text.specs.OpenFiles.{SaysFront, given_at}
use Rattle.trace_text.specs.PrintedFromReaders.{Given, GoesOn, HasStopped, PrintsFront, Source}
use Rattle.trace_text.specs.PrintedTrace.{lines}

-- what a fault says of so many readers: the one that it names is one of them, and did not stop for want of memory
abbrev pub ReadingFaultHolds : ℕ → ReadingFault → Type 0
ReadingFaultHolds readers (Reader place stop) = (place < readers) × (stop ≢ stops.OutOfMemory)
ReadingFaultHolds readers Writer = Unit {0}
ReadingFaultHolds readers TooManyRecords = Unit {0}
ReadingFaultHolds readers OutOfMemory = Unit {0}

-- what stops a reader is a fault of the reader at just this place, and want of memory is one of none
abbrev pub of_stop : ℕ → ReadStop → ReadingFault
of_stop place stops.ReaderFault = Reader place stops.ReaderFault
of_stop place stops.TooManyReads = Reader place stops.TooManyReads
of_stop place stops.OutOfMemory = OutOfMemory

-- a fault of the printing is the same here
abbrev pub of_print_fault : PrintFault → ReadingFault
of_print_fault prints.Writer = Writer
of_print_fault prints.OutOfMemory = OutOfMemory

-- ---- the reader that is named

-- of what the readers gave, each at its place: none has stopped
abbrev pub NoneStopped : (ℕ → Option Given) → Type 0
NoneStopped given_of = (i : ℕ) (g : Given) → given_of i ≡ Some g → stop_in g.standing ≡ None

-- the one at this place has stopped with just this stop, and no other has
pub record IsStopped (given_of : ℕ → Option Given) (place : ℕ) (stop : ReadStop) : Type 0 where
  pub given : Given
  pub there : given_of place ≡ Some given
  pub stopped : HasStopped given stop
  pub no_other : (i : ℕ) (g : Given) → i ≢ place → given_of i ≡ Some g → stop_in g.standing ≡ None

-- a fault names the reader that stopped, and where it names none, none has, but for want of memory
abbrev pub NamesStopped : (ℕ → Option Given) → ReadingFault → Type 0
NamesStopped given_of (Reader place stop) = IsStopped given_of place stop
NamesStopped given_of Writer = NoneStopped given_of
NamesStopped given_of TooManyRecords = NoneStopped given_of
NamesStopped given_of OutOfMemory = Unit {0}

-- a fault of none of the readers
abbrev pub NamesNoReader : ReadingFault → Type 0
NamesNoReader (Reader place stop) = ⊥
NamesNoReader Writer = Unit {0}
NamesNoReader TooManyRecords = Unit {0}
NamesNoReader OutOfMemory = Unit {0}

-- behind a fault, of files that are read side by side: what was said is a front of the text of each trace that goes on, and the fault names the reader that stopped
pub record SaysToFault {R : Type 0} (remaining : R → Option (List ℕ)) (m : Metadata) (sources : ℕ → Source) (files : List (OpenFile R))
    (held : Option (List ℕ)) (page : Page) (later : Option (List ℕ)) (next : Page) (fault : ReadingFault) : Type 0 where
  pub front : SaysFront remaining m sources files held page later next
  pub names : NamesStopped (given_at sources front.ks files) fault

-- ---- the writer that is blamed

-- a fault of the writer is the one that the page has
abbrev pub IsWritersOn : Page → ReadingFault → Type 0
IsWritersOn page (Reader place stop) = Unit {0}
IsWritersOn page Writer = page.fault ≡ Some prints.Writer
IsWritersOn page TooManyRecords = Unit {0}
IsWritersOn page OutOfMemory = Unit {0}

-- where the writer is blamed, it has not taken all of the text of any trace that goes on from what the readers gave
abbrev pub WritesLess : Metadata → List Given → Option (List ℕ) → Option (List ℕ) → ReadingFault → Type 0
WritesLess m given old new (Reader place stop) = Unit {0}
WritesLess m given old new Writer = (streams : List ReadStream) (order : List Place) → AllZip (GoesOn m) given streams → IsMerged streams order
    → AppendsLess old new (lines m streams order)
WritesLess m given old new TooManyRecords = Unit {0}
WritesLess m given old new OutOfMemory = Unit {0}

-- behind a fault: a front is written of the text of each trace that goes on from what the readers gave. The reader that it names has, as it stands at the end, stopped with
-- just this stop, and no other has
pub record StopsAt (m : Metadata) (sources : List Source) (old new : Option (List ℕ)) (fault : ReadingFault) : Type 0 where
  pub front : PrintsFront m sources old new
  pub reader : NamesStopped (slice_get front.given) fault
  pub writer : WritesLess m front.given old new fault
