-- Packets that a tracer writes: from a header, a context and records that lie under a configuration's structures to a packet that lies under its metadata.
use Rattle.std.proofs.Common.{◌≡◌, ℕ, ◌%◌, ◌≤◌, List, ◌++◌, length, slice_get, Some, codes}
use Rattle.data_types.specs.declared.byte_order.ByteOrder.{ByteOrder}
use Rattle.data_types.specs.declared.config.Config.{Config}
use Rattle.data_types.specs.declared.config.StreamType.{StreamType}
use Rattle.data_types.specs.declared.struct_type.StructType.{StructType}
use Rattle.data_types.specs.declared.packet.Record.{Record}
use Rattle.data_types.specs.declared.packet.ReadPacket.{ReadPacket}
use Rattle.data_types.specs.Datum.{Datum}
use Rattle.ctf_types.specs.Layout.{struct_end, StructLies}
use Rattle.ctf_types.specs.MetadataOf.{context_numbers, struct_with, header_of, stream_of, metadata_of}
use Rattle.ctf_types.specs.Packets.{number_named, number_or_zero, at_begin, short_timestamp, HeaderMeans, RecordsLie}
use Rattle.ctf_types.specs.Shown.{shown}

-- the packet context as a configuration lists it: the tracer's own numbers, then the extra members
abbrev pub written_context : StreamType → StructType
written_context s = struct_with (context_numbers s.context ++ s.extras.members)

-- where a packet's records begin
abbrev pub written_start : Config → StreamType → List Datum → List Datum → ℕ
written_start c s header context = struct_end (written_context s) (struct_end (header_of c) 0 header) context

-- the packet that these values are: `ns` are the values of the context's numbers, `xs` those of its extra members
abbrev pub packet_of : StreamType → ℕ → List Datum → List Datum → List Record → ReadPacket
packet_of s i ns xs rs = record {
  stream = i;
  begin = number_named (codes "timestamp_begin") (context_numbers s.context) ns;
  end = number_named (codes "timestamp_end") (context_numbers s.context) ns;
  sequence = number_named (codes "packet_seq_num") (context_numbers s.context) ns;
  discarded = number_named (codes "events_discarded") (context_numbers s.context) ns;
  extras = shown s.extras.members xs;
  records = rs;
}

-- what lies, written under the configuration
pub record PartsLie (o : ByteOrder) (b : ℕ → ℕ) (pad : ℕ → ℕ → Type 0) (c : Config) (s : StreamType) (i size content : ℕ) (header ns xs : List Datum) (rs : List Record) : Type 0 where
  pub stream : slice_get c.streams i ≡ Some s
  pub header_lies : StructLies o b pad (header_of c) 0 header
  pub header_means : HeaderMeans (metadata_of c) header
  pub stream_id : number_or_zero (codes "stream_id") (header_of c).members header ≡ i
  pub context_lies : StructLies o b pad (written_context s) (struct_end (header_of c) 0 header) (ns ++ xs)
  pub as_many_numbers : length ns ≡ length (context_numbers s.context)
  pub as_many_extras : length xs ≡ length s.extras.members
  pub size_is : number_named (codes "packet_size") (context_numbers s.context) ns ≡ Some size
  pub content_is : number_named (codes "content_size") (context_numbers s.context) ns ≡ Some content
  pub whole_bytes : size % 8 ≡ 0
  pub within : content ≤ size
  pub records_lie : RecordsLie o b pad (stream_of i s) (at_begin (short_timestamp (stream_of i s)) (packet_of s i ns xs rs).begin) (written_start c s header (ns ++ xs)) rs content
  pub padding : pad content size
