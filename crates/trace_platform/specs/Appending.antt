-- What is appended to a sink: all bytes, or a prefix of them and a fault.
use Rattle.std.specs.Prelude.{◌≡◌, ℕ, List, Option, Result, Ok, Err, ◌++◌}
use Rattle.std.specs.Io.KnownBytes.{Appends}
use Rattle.trace_platform.specs.declared.sink.SinkFault.{SinkFault}
use Rattle.trace_platform.specs.Count.{next_count}
use Rattle.trace_platform.specs.Fronts.{AppendsFront}

-- the bytes in memory and how many faults there were
pub record Memory : Type 0 where
  pub bytes : List ℕ
  pub faults : ℕ

-- want of memory is a fault, and then nothing is appended
abbrev pub Fills : Memory → List ℕ → Result (Unit {0}) SinkFault → Memory → Type 0
Fills a xs (Ok u) b = b ≡ record a { bytes = a.bytes ++ xs }
Fills a xs (Err e) b = b ≡ record a { faults = next_count a.faults }

-- a writer took all bytes, or a prefix of them and then a fault: what it holds before and after, and the counts
abbrev pub Writes : Option (List ℕ) → ℕ → List ℕ → Result (Unit {0}) SinkFault → Option (List ℕ) → ℕ → Type 0
Writes held faults xs (Ok u) later count = Appends held later xs × (count ≡ faults)
Writes held faults xs (Err e) later count = AppendsFront held later xs × (count ≡ next_count faults)
