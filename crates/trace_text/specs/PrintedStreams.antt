-- The line of a stream file: how many packets and records it has, how many records its tracer had discarded when the last packet was closed, how many
-- packets are missing between the others as far as their numbers tell, and how the file ends. These lines stand in byte order of the names, those of
-- one name in the order of the files.
use Rattle.std.specs.Prelude.{ℕ, List, [], ◌++◌, ◌-◌, Option, option_and_then, length, map, slice_get, codes}
use Rattle.std.specs.Option.{option_map_or}
use Rattle.std.specs.List.{flat_map}
use Rattle.std.specs.Fmt.{decimal}
use Rattle.ctf_types.specs.declared.Metadata.{Metadata}
use Rattle.ctf_types.specs.declared.ReadPacket.{ReadPacket}
use Rattle.packet_reader.specs.declared.packet_fault.PacketFault.{PacketFault}
use Rattle.packet_reader.specs.declared.packet_fault.PacketFault.TheVariants.{Magic, Identity, Stream, UnknownEvent, Sizes, Record, Clock}
use Rattle.packet_reader.specs.declared.packet_fault.StreamEnding.{StreamEnding}
use Rattle.packet_reader.specs.declared.packet_fault.StreamEnding.TheVariants.{Whole, Torn, Faulty}
use Rattle.packet_reader.specs.declared.read_streams.ReadStream.{ReadStream}
use Rattle.packet_reader.specs.SequenceGaps.{gaps_in}
use Rattle.trace_text.specs.declared.stream_counts.StreamCounts.{StreamCounts}
use Rattle.trace_text.specs.NameOrder.{name_order}
use Rattle.trace_text.specs.PrintedNumbers.{count_text}
use Rattle.trace_text.specs.PrintedTexts.{name_text}

-- the word for a packet's fault
abbrev pub fault_word : PacketFault → List ℕ
fault_word Magic = codes "P1"
fault_word Identity = codes "P2"
fault_word Stream = codes "P3"
fault_word UnknownEvent = codes "P4"
fault_word Sizes = codes "P5"
fault_word Record = codes "P6"
fault_word Clock = codes "P7"

-- how a file ends, with the place in bytes of what is no packet
abbrev pub end_text : StreamEnding → List ℕ
end_text Whole = codes "Whole"
end_text (Torn place) = codes "Torn" ++ codes "(" ++ decimal place ++ codes ")"
end_text (Faulty fault place) = fault_word fault ++ codes "(" ++ decimal place ++ codes ")"

abbrev pub record_count : List ReadPacket → ℕ
record_count ks = length (flat_map (λ k. k.records) ks)

-- the snapshot of the last packet
abbrev pub last_discarded : List ReadPacket → Option ℕ
last_discarded ks = option_and_then (λ k. k.discarded) (slice_get ks (length ks - 1))

-- what is told of a stream file with these packets
abbrev pub counts_of : Metadata → List ReadPacket → StreamCounts
counts_of m ks = record { packets = length ks; records = record_count ks; discarded = last_discarded ks; gaps = gaps_in m ks }

-- the line of a stream file of this name, of which this is told, and which ends in this way
abbrev pub counted_line : List ℕ → StreamCounts → StreamEnding → List ℕ
counted_line name c end =
    codes "stream " ++ name_text name
    ++ codes ": packets " ++ decimal c.packets
    ++ codes ", records " ++ decimal c.records
    ++ codes ", discarded " ++ count_text c.discarded
    ++ codes ", gaps " ++ count_text c.gaps
    ++ codes ", end " ++ end_text end ++ codes "\n"

unfoldable pub stream_line : Metadata → ReadStream → List ℕ
stream_line m s = counted_line s.name (counts_of m s.packets) s.end

-- ---- in which order the lines stand

-- the places of the streams in the list, in the order of their lines
abbrev pub line_order : List ReadStream → List ℕ
line_order streams = name_order (map (λ s. s.name) streams)

-- the line of the stream at a place of the list
abbrev pub line_at : Metadata → List ReadStream → ℕ → List ℕ
line_at m streams i = option_map_or (stream_line m) (slice_get streams i) []
