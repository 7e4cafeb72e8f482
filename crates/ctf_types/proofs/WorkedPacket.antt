-- A worked packet: 16 bytes are one packet with two records, under the metadata of a configuration with no clock and one event record type.
use Rattle.std.specs.Prelude.{◌≡◌, ℕ, ◌/◌, ◌%◌, ◌^◌, ◌⊎◌, List, [], ◌∷◌, None, Some, false, codes, refl}
use Rattle.std.proofs.Common.{lit<, lit≤, arith, inl, inr, sym, ap, ◌∙◌, slice_index}
use Rattle.std.proofs.Math.Nat.{zero-div}
use Rattle.std.proofs.lemmas.Bool.{cases_eq}
use Rattle.std.proofs.lemmas.Option.{none-some, same_Some}
use Rattle.data_types.specs.declared.base.Base.TheVariants.{Dec, Hex}
use Rattle.data_types.specs.declared.byte_order.ByteOrder.TheVariants.{Little}
use Rattle.data_types.specs.declared.int_type.IntType.{IntType}
use Rattle.data_types.specs.declared.field_type.FieldType.TheVariants.{Int}
use Rattle.data_types.specs.declared.member_type.MemberType.TheVariants.{Plain}
use Rattle.data_types.specs.declared.struct_type.StructType.{StructType}
use Rattle.data_types.specs.declared.config.Config.{Config}
use Rattle.data_types.specs.declared.metadata.Event.{Event}
use Rattle.data_types.specs.declared.metadata.Metadata.{Metadata}
use Rattle.data_types.specs.declared.metadata.Stream.{Stream}
use Rattle.data_types.specs.declared.packet.Record.{Record}
use Rattle.data_types.specs.declared.packet.ReadPacket.{ReadPacket}
use Rattle.data_types.specs.Alignment.{up}
use Rattle.ctf_types.specs.Bits.{bit_of, number_of, number_at, AreZero}
use Rattle.data_types.specs.Datum.{Unsigned}
use Rattle.ctf_types.specs.Layout.{largest_align, leaf_end, field_end, member_end, members_end, struct_end, structs_end, IntLies, LeafLies, FieldLies, MemberLies, MembersLie, StructLies, StructsLie}
use Rattle.ctf_types.specs.MetadataOf.{header_of, context_of, event_header_of, event_of, events_of, stream_of, streams_of, metadata_of}
use Rattle.ctf_types.specs.Packets.{value_named, number_named, extras_in, stream_with, event_with, at_begin, short_timestamp, unsigned_named, ClockIs, RecordLies, RecordsLie, PacketLies, PacketsLie, LieClean}
use Rattle.ctf_types.specs.Shown.{shown_members}

-- ---- the configuration and its metadata

abbrev word : IntType
word = record { size = 32; align = 8; signed = false; base = Dec; clock = None; not_empty = lit< tt; at_most_64 = lit≤ tt; positive = lit< tt; power_of_two = refl }

abbrev hex_word : IntType
hex_word = record { size = 32; align = 8; signed = false; base = Hex; clock = None; not_empty = lit< tt; at_most_64 = lit≤ tt; positive = lit< tt; power_of_two = refl }

abbrev byte : IntType
byte = record { size = 8; align = 8; signed = false; base = Dec; clock = None; not_empty = lit< tt; at_most_64 = lit≤ tt; positive = lit< tt; power_of_two = refl }

abbrev no_struct : StructType
no_struct = record { members = []; min_align = 1; positive = lit< tt; power_of_two = refl }

abbrev v_struct : StructType
v_struct = record { members = (codes "v", Plain (Int byte)) ∷ []; min_align = 1; positive = lit< tt; power_of_two = refl }

abbrev config : Config
config = record {
  order = Little;
  uuid = None;
  environment = [];
  clocks = [];
  header = record { magic = Some hex_word; uuid = None; stream_id = None };
  streams =
      record {
        name = codes "s";
        default_clock = None;
        context = record {
          packet_size = word;
          content_size = word;
          timestamp_begin = None;
          timestamp_end = None;
          events_discarded = None;
          packet_seq_num = None;
        };
        extras = no_struct;
        event_header = record { id = None; timestamp = None };
        common = no_struct;
        events = record { name = codes "e"; log_level = None; specific = no_struct; payload = v_struct } ∷ [];
      } ∷ [];
}

abbrev event : Event
event = record { id = 0; name = codes "e"; log_level = None; specific = no_struct; fields = v_struct }

abbrev stream : Stream
stream = record {
  id = 0;
  context = record {
    members = (codes "packet_size", Plain (Int word)) ∷ (codes "content_size", Plain (Int word)) ∷ [];
    min_align = 8;
    positive = lit< tt;
    power_of_two = refl;
  };
  event_header = no_struct;
  common = no_struct;
  events = event ∷ [];
}

abbrev metadata : Metadata
metadata = record {
  order = Little;
  uuid = None;
  environment = [];
  clocks = [];
  header = record { members = (codes "magic", Plain (Int hex_word)) ∷ []; min_align = 8; positive = lit< tt; power_of_two = refl };
  streams = stream ∷ [];
}

metadata_of_config : metadata_of config ≡ metadata
unfolding metadata_of header_of streams_of stream_of context_of event_header_of events_of event_of shown_members
metadata_of_config = refl

-- ---- the packet

abbrev bytes : List ℕ
bytes = 0xc1 ∷ 0x1f ∷ 0xfc ∷ 0xc1 ∷ 0x80 ∷ 0x00 ∷ 0x00 ∷ 0x00 ∷ 0x70 ∷ 0x00 ∷ 0x00 ∷ 0x00 ∷ 0x01 ∷ 0x02 ∷ 0x00 ∷ 0x00 ∷ []

abbrev record_of : ℕ → Record
record_of n = record { event = 0; clock = None; common = []; specific = []; payload = Unsigned n ∷ [] }

abbrev packet : ReadPacket
packet = record { stream = 0; begin = None; end = None; sequence = None; discarded = None; extras = []; records = record_of 1 ∷ record_of 2 ∷ [] }

no_bit : (k : ℕ) → 0 / 2 ^ k % 2 ≡ 0
no_bit k = ap (λ x. x % 2) (zero-div (2 ^ k))

-- bytes 14 and 15 are zero
bits_after_content : AreZero (bit_of Little bytes) 112 128
unfolding AreZero bit_of
bits_after_content p low high = go (cases_eq (p / 8) 14)
  where
    zero_byte : (i : ℕ) → slice_index bytes i ≡ 0 → p / 8 ≡ i → bit_of Little bytes p ≡ 0
    zero_byte i z e = ap (λ x. x / 2 ^ (p % 8) % 2) (ap (slice_index bytes) e ∙ z) ∙ no_bit (p % 8)

    go : (p / 8 ≡ 14) ⊎ (p / 8 ≡ 14 → ⊥) → bit_of Little bytes p ≡ 0
    go (inl e) = zero_byte 14 refl e
    go (inr n) = zero_byte 15 refl (omega arith)

-- no bits, whatever is claimed of them
nothing : (p : ℕ) → AreZero (bit_of Little bytes) p p
unfolding AreZero
nothing p k low high = absurd (omega arith)

first_record : RecordLies Little (bit_of Little bytes) (AreZero (bit_of Little bytes)) stream None 96 (record_of 1) 104
unfolding StructsLie StructLies MembersLie MemberLies FieldLies LeafLies IntLies struct_end structs_end members_end largest_align member_end field_end leaf_end up bit_of number_of number_at event_with number_named ClockIs
first_record = record {
  header = [];
  event = event;
  event_is = refl;
  clock_is = refl;
  lie = ((nothing 96, tt), ((nothing 96, tt), ((nothing 96, tt), ((nothing 96, ((nothing 96, refl), tt)), tt))));
  ends = refl;
  has_bits = lit< tt;
}

second_record : RecordLies Little (bit_of Little bytes) (AreZero (bit_of Little bytes)) stream None 104 (record_of 2) 112
unfolding StructsLie StructLies MembersLie MemberLies FieldLies LeafLies IntLies struct_end structs_end members_end largest_align member_end field_end leaf_end up bit_of number_of number_at event_with number_named ClockIs
second_record = record {
  header = [];
  event = event;
  event_is = refl;
  clock_is = refl;
  lie = ((nothing 104, tt), ((nothing 104, tt), ((nothing 104, tt), ((nothing 104, ((nothing 104, refl), tt)), tt))));
  ends = refl;
  has_bits = lit< tt;
}

packet_lies : PacketLies Little (bit_of Little bytes) (AreZero (bit_of Little bytes)) metadata 128 packet
unfolding StructsLie StructLies MembersLie MemberLies FieldLies LeafLies IntLies RecordsLie struct_end structs_end members_end largest_align member_end field_end leaf_end up bit_of number_of number_at value_named number_named extras_in stream_with at_begin short_timestamp unsigned_named
packet_lies = record {
  header = Unsigned 0xc1fc1fc1 ∷ [];
  context = Unsigned 128 ∷ Unsigned 112 ∷ [];
  stream = stream;
  content = 112;
  lie = ((nothing 0, ((nothing 0, refl), tt)), ((nothing 32, ((nothing 32, refl), ((nothing 64, refl), tt))), tt));
  means = record { magic_is = λ v e. sym (same_Some (Unsigned 0xc1fc1fc1) v e); uuid_is = λ u v e f. absurd (none-some u e) };
  stream_is = refl;
  size_is = refl;
  content_is = refl;
  whole_bytes = refl;
  within = lit≤ tt;
  begin_is = refl;
  end_is = refl;
  discarded_is = refl;
  sequence_is = refl;
  extras_are = refl;
  records = (104, first_record, (112, second_record, refl));
  padding = bits_after_content;
}

-- the 16 bytes are a stream file of this one packet, with every unused bit zero
pub packets_lie : LieClean metadata bytes (packet ∷ []) []
unfolding PacketsLie
packets_lie = (16, lit< tt, lit≤ tt, packet_lies, refl)
