-- The printed trace: a line for each record, in the merged order of all records, and then a line for each stream file.
-- A record's line says its clock and the clock's value, the stream file, the event, and what the record holds.
use Rattle.std.specs.Prelude.{◌≡◌, ℕ, List, [], ◌++◌, Option, None, Some, slice_get, codes}
use Rattle.std.specs.Option.{option_map_or}
use Rattle.std.specs.List.{flat_map}
use Rattle.std.specs.Fmt.{decimal}
use Rattle.ctf_types.specs.declared.Event.{Event}
use Rattle.ctf_types.specs.declared.Metadata.{Metadata}
use Rattle.ctf_types.specs.declared.ReadPacket.{ReadPacket}
use Rattle.ctf_types.specs.declared.Record.{Record}
use Rattle.ctf_types.specs.declared.Stream.{Stream}
use Rattle.packet_reader.specs.declared.read_streams.ReadStream.{ReadStream}
use Rattle.clock_merge.specs.declared.place.Place.{Place}
use Rattle.clock_merge.specs.MergedOrder.{IsMerged}
use Rattle.trace_stack.specs.declared.reading.ReadTrace.{ReadTrace}
use Rattle.trace_text.specs.PrintedTexts.{name_text}
use Rattle.trace_text.specs.PrintedValues.{structure_text}
use Rattle.trace_text.specs.PrintedStreams.{line_at, line_order}

-- ---- a record's line

-- `CLOCK:VALUE`, or `-` without a clock
abbrev pub time_text : Option (List ℕ) → Option ℕ → List ℕ
time_text None value = codes "-"
time_text (Some clock) None = codes "-"
time_text (Some clock) (Some value) = clock ++ codes ":" ++ decimal value

-- a record of this event, in this stream file, by the metadata of the stream
abbrev pub event_line : ReadStream → Stream → Record → Event → List ℕ
event_line file stream r event =
    time_text file.clock r.clock ++ codes " " ++ name_text file.name ++ codes " " ++ name_text event.name
    ++ structure_text (codes "common") stream.common.members r.common
    ++ structure_text (codes "context") event.specific.members r.specific
    ++ structure_text (codes "fields") event.fields.members r.payload ++ codes "\n"

-- a record has the line of its event; an event that the metadata has not is never read, and has none
abbrev pub typed_line : ReadStream → Record → Stream → List ℕ
typed_line file r stream = option_map_or (event_line file stream r) (slice_get stream.events r.event) []

abbrev pub record_line : Metadata → ReadStream → ReadPacket → Record → List ℕ
record_line m file k r = option_map_or (typed_line file r) (slice_get m.streams k.stream) []

-- the line of the record that stands at a place
abbrev pub packet_line : Metadata → ReadStream → ℕ → ReadPacket → List ℕ
packet_line m file at k = option_map_or (record_line m file k) (slice_get k.records at) []

abbrev pub file_line : Metadata → Place → ReadStream → List ℕ
file_line m p file = option_map_or (packet_line m file p.at) (slice_get file.packets p.packet) []

unfoldable pub place_line : Metadata → List ReadStream → Place → List ℕ
place_line m streams p = option_map_or (file_line m p) (slice_get streams p.stream) []

-- ---- the text

-- the lines of the records at these places, and of the streams
abbrev pub lines : Metadata → List ReadStream → List Place → List ℕ
lines m streams places = flat_map (place_line m streams) places ++ flat_map (line_at m streams) (line_order streams)

abbrev pub printed : ReadTrace → List ℕ
printed t = lines t.metadata t.streams t.order.items

-- the text is the printed trace: its records stand in the merged order, of which there is one
pub record IsPrinted (m : Metadata) (streams : List ReadStream) (text : List ℕ) : Type 0 where
  pub order : List Place
  pub merged : IsMerged streams order
  pub lines_are : text ≡ lines m streams order
