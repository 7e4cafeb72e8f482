-- The configuration of the first path, and its metadata: one stream type with one event record type, whose payload is a number of 8 bits.
-- A packet says its magic number and its two sizes, nothing else; an event record has no header.
use Rattle.std.specs.Prelude.{[], ◌∷◌, None, Some, codes, false, refl}
use Rattle.std.proofs.Common.{lit<, lit≤}
use Rattle.ctf_types.specs.declared.Base.TheVariants.{Dec, Hex}
use Rattle.ctf_types.specs.declared.ByteOrder.TheVariants.{Little}
use Rattle.ctf_types.specs.declared.IntType.{IntType}
use Rattle.ctf_types.specs.declared.FieldType.TheVariants.{Int}
use Rattle.ctf_types.specs.declared.MemberType.TheVariants.{Plain}
use Rattle.ctf_types.specs.declared.StructType.{StructType}
use Rattle.ctf_types.specs.declared.Config.{Config}
use Rattle.ctf_types.specs.declared.StreamType.{StreamType}
use Rattle.ctf_types.specs.declared.EventType.{EventType}
use Rattle.ctf_types.specs.declared.Metadata.{Metadata}
use Rattle.ctf_types.specs.declared.Stream.{Stream}
use Rattle.ctf_types.specs.declared.Event.{Event}

-- unsigned numbers of 32 bits, of 32 bits in base 16, and of 8 bits, each at a multiple of 8 bits
abbrev pub size_type : IntType
size_type = record { size = 32; align = 8; signed = false; base = Dec; clock = None; not_empty = lit< tt; at_most_64 = lit≤ tt; positive = lit< tt; power_of_two = refl }

abbrev pub magic_type : IntType
magic_type = record { size = 32; align = 8; signed = false; base = Hex; clock = None; not_empty = lit< tt; at_most_64 = lit≤ tt; positive = lit< tt; power_of_two = refl }

abbrev pub value_type : IntType
value_type = record { size = 8; align = 8; signed = false; base = Dec; clock = None; not_empty = lit< tt; at_most_64 = lit≤ tt; positive = lit< tt; power_of_two = refl }

-- a structure that is not there
abbrev pub no_struct : StructType
no_struct = record { members = []; min_align = 1; positive = lit< tt; power_of_two = refl }

-- the payload: the number `v`
abbrev pub payload_type : StructType
payload_type = record { members = (codes "v", Plain (Int value_type)) ∷ []; min_align = 1; positive = lit< tt; power_of_two = refl }

-- ---- the configuration

abbrev pub small_event_type : EventType
small_event_type = record { name = codes "e"; log_level = None; specific = no_struct; payload = payload_type }

abbrev pub small_stream_type : StreamType
small_stream_type = record {
  name = codes "s";
  default_clock = None;
  context = record { packet_size = size_type; content_size = size_type; timestamp_begin = None; timestamp_end = None; events_discarded = None; packet_seq_num = None };
  extras = no_struct;
  event_header = record { id = None; timestamp = None };
  common = no_struct;
  events = small_event_type ∷ [];
}

abbrev pub small_config : Config
small_config = record {
  order = Little;
  uuid = None;
  environment = [];
  clocks = [];
  header = record { magic = Some magic_type; uuid = None; stream_id = None };
  streams = small_stream_type ∷ [];
}

-- ---- the metadata

abbrev pub small_event : Event
small_event = record { id = 0; name = codes "e"; log_level = None; specific = no_struct; fields = payload_type }

abbrev pub small_stream : Stream
small_stream = record {
  id = 0;
  context = record { members = (codes "packet_size", Plain (Int size_type)) ∷ (codes "content_size", Plain (Int size_type)) ∷ []; min_align = 8; positive = lit< tt; power_of_two = refl };
  event_header = no_struct;
  common = no_struct;
  events = small_event ∷ [];
}

abbrev pub small_metadata : Metadata
small_metadata = record {
  order = Little;
  uuid = None;
  environment = [];
  clocks = [];
  header = record { members = (codes "magic", Plain (Int magic_type)) ∷ []; min_align = 8; positive = lit< tt; power_of_two = refl };
  streams = small_stream ∷ [];
}
