-- A worked trace: two records of one stream file with a clock, each with its line, and the line of the file.
use Rattle.std.specs.Prelude.{◌≡◌, ℕ, negsuc, List, [], ◌∷◌, None, Some, false, true, codes, refl}
use Rattle.std.proofs.Common.{ap, ◌∙◌, ◌++◌, lit<, lit≤}
use Rattle.std.specs.List.{flat_map}
use Rattle.std.specs.Fmt.{digits}
use Rattle.ctf_types.specs.declared.Base.TheVariants.{Dec}
use Rattle.ctf_types.specs.declared.ByteOrder.TheVariants.{Big}
use Rattle.ctf_types.specs.declared.IntType.{IntType}
use Rattle.ctf_types.specs.declared.FieldType.TheVariants.{Int, Str}
use Rattle.ctf_types.specs.declared.MemberType.{MemberType}
use Rattle.ctf_types.specs.declared.MemberType.TheVariants.{Plain}
use Rattle.ctf_types.specs.declared.StructType.{StructType}
use Rattle.ctf_types.specs.declared.Event.{Event}
use Rattle.ctf_types.specs.declared.Metadata.{Metadata}
use Rattle.ctf_types.specs.declared.Stream.{Stream}
use Rattle.ctf_types.specs.declared.Record.{Record}
use Rattle.ctf_types.specs.declared.ReadPacket.{ReadPacket}
use Rattle.ctf_types.specs.Datum.{Signed, Text}
use Rattle.packet_reader.specs.declared.packet_fault.StreamEnding.TheVariants.{Whole}
use Rattle.packet_reader.specs.declared.read_streams.ReadStream.{ReadStream}
use Rattle.packet_reader.specs.SequenceGaps.{number_size, sequence_size}
use Rattle.clock_merge.specs.declared.place.Place.{Place}
use Rattle.trace_text.specs.PrintedNumbers.{label_in}
use Rattle.trace_text.specs.PrintedStreams.{line_at, stream_line}
use Rattle.trace_text.specs.PrintedTexts.{string_byte, name_byte}
use Rattle.trace_text.specs.PrintedTrace.{place_line, lines}
use Rattle.trace_text.specs.PrintedValues.{value_text, member_texts}
use Rattle.trace_text.proofs.NameOrders.{one_name}

-- ---- the metadata

abbrev number : IntType
number = record { size = 16; align = 8; signed = true; base = Dec; clock = None; not_empty = lit< tt; at_most_64 = lit≤ tt; positive = lit< tt; power_of_two = refl }

abbrev byte : IntType
byte = record { size = 8; align = 8; signed = false; base = Dec; clock = None; not_empty = lit< tt; at_most_64 = lit≤ tt; positive = lit< tt; power_of_two = refl }

abbrev structure : List (List ℕ × MemberType) → StructType
structure ms = record { members = ms; min_align = 1; positive = lit< tt; power_of_two = refl }

abbrev event : ℕ → List ℕ → List (List ℕ × MemberType) → Event
event id name ms = record { id = id; name = name; log_level = None; specific = structure []; fields = structure ms }

abbrev stream : Stream
stream = record {
  id = 0;
  context = structure ((codes "packet_seq_num", Plain (Int byte)) ∷ []);
  event_header = structure [];
  common = structure [];
  events = event 0 (codes "a") ((codes "n", Plain (Int number)) ∷ []) ∷ event 1 (codes "b") ((codes "s", Plain Str) ∷ []) ∷ [];
}

abbrev metadata : Metadata
metadata = record { order = Big; uuid = None; environment = []; clocks = []; header = structure []; streams = stream ∷ [] }

-- ---- the stream file

abbrev first : Record
first = record { event = 0; clock = Some 10; common = []; specific = []; payload = Signed (negsuc 1) ∷ [] }

abbrev second : Record
second = record { event = 1; clock = Some 11; common = []; specific = []; payload = Text (codes "ok") ∷ [] }

abbrev packet : ReadPacket
packet = record { stream = 0; begin = Some 10; end = Some 12; sequence = Some 0; discarded = Some 0; extras = []; records = first ∷ second ∷ [] }

abbrev file : ReadStream
file = record { name = codes "t0"; clock = Some (codes "clk"); packets = packet ∷ []; end = Whole }

abbrev at : ℕ → Place
at n = record { stream = 0; packet = 0; at = n }

-- ---- the text

pub first_line : place_line metadata (file ∷ []) (at 0) ≡ codes "clk:10 t0 a fields{n=-2}\n"
unfolding place_line name_byte member_texts value_text label_in digits
first_line = refl

pub second_line : place_line metadata (file ∷ []) (at 1) ≡ codes "clk:11 t0 b fields{s=\"ok\"}\n"
unfolding place_line name_byte string_byte member_texts value_text digits
second_line = refl

-- those of the records, and behind them the line of the file
said : flat_map (place_line metadata (file ∷ [])) (at 0 ∷ at 1 ∷ []) ++ flat_map (line_at metadata (file ∷ [])) (0 ∷ [])
    ≡ codes "clk:10 t0 a fields{n=-2}\nclk:11 t0 b fields{s=\"ok\"}\nstream t0: packets 1, records 2, discarded 0, gaps 0, end Whole\n"
unfolding place_line name_byte string_byte member_texts value_text label_in digits stream_line number_size sequence_size
said = refl

pub all_lines : lines metadata (file ∷ []) (at 0 ∷ at 1 ∷ []) ≡ codes "clk:10 t0 a fields{n=-2}\nclk:11 t0 b fields{s=\"ok\"}\nstream t0: packets 1, records 2, discarded 0, gaps 0, end Whole\n"
all_lines =
    ap (λ (order : List ℕ). flat_map (place_line metadata (file ∷ [])) (at 0 ∷ at 1 ∷ []) ++ flat_map (line_at metadata (file ∷ [])) order) (one_name (codes "t0")) ∙ said
