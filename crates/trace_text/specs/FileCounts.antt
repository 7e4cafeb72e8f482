-- What is counted of a stream file, packet by packet.
use Rattle.std.specs.Prelude.{◌≡◌, ◌⊎◌, ◌^◌, ◌≤◌, List, length}
use Rattle.ctf_types.specs.declared.Metadata.{Metadata}
use Rattle.ctf_types.specs.declared.ReadPacket.{ReadPacket}
use Rattle.packet_reader.specs.declared.read_stop.ReadStop.{ReadStop}
use Rattle.packet_reader.specs.declared.read_stop.ReadStop.TheVariants.{ReaderFault, TooManyReads, OutOfMemory}
use Rattle.packet_reader.specs.SequenceGaps.{gaps_behind, gaps_of}
use Rattle.trace_text.specs.declared.file_counts.FileCounts.{FileCounts}
use Rattle.trace_text.specs.declared.stream_counts.StreamCounts.{StreamCounts}
use Rattle.trace_text.specs.PrintedStreams.{last_discarded, record_count}

-- the counts are of these packets
pub record IsCounted (m : Metadata) (ks : List ReadPacket) (c : FileCounts) : Type 0 where
  pub packets_are : c.packets ≡ length ks
  pub records_are : c.records ≡ record_count ks
  pub discarded_is : c.discarded ≡ last_discarded ks
  pub gaps_are : c.gaps ≡ gaps_behind m ks

-- what is told of them
abbrev pub told_of : FileCounts → StreamCounts
told_of c = record { packets = c.packets; records = c.records; discarded = c.discarded; gaps = gaps_of c.gaps }

-- more than is counted: 2^64 packets, or 2^128 records
abbrev pub ArePastCounting : List ReadPacket → Type 0
ArePastCounting ks = (2 ^ 64 ≤ length ks) ⊎ (2 ^ 128 ≤ record_count ks)

-- why packets are not counted: they are more than that, or memory was wanting
abbrev pub IsCountFault : List ReadPacket → ReadStop → Type 0
IsCountFault ks ReaderFault = ⊥
IsCountFault ks TooManyReads = ArePastCounting ks
IsCountFault ks OutOfMemory = Unit {0}
