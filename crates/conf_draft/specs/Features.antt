-- Features: the fields that the tracer fills itself, each on or off, or of a type of its own (barectf 3.1, "Trace type features
-- object", "Data stream type features object").
use Rattle.std.specs.Prelude.{refl, ℕ, Bool, false, List, Option, Some, None, option_map, option_and_then, unwrap_or, codes, if◌then◌else◌}
use Rattle.std.proofs.Common.{lit<, lit≤}
use Rattle.serde_json.specs.Data.{Data, boolean, object, Members}
use Rattle.ctf_types.specs.declared.Base.TheVariants.{Dec, Hex}
use Rattle.ctf_types.specs.declared.IntType.{IntType}
use Rattle.ctf_types.specs.declared.HeaderFeatures.{HeaderFeatures}
use Rattle.ctf_types.specs.declared.ContextFeatures.{ContextFeatures}
use Rattle.ctf_types.specs.declared.EventFeatures.{EventFeatures}
use Rattle.conf_table.specs.declared.place.Place.{Place}
use Rattle.conf_table.specs.declared.place.Place.TheVariants as places
use Rattle.conf_tree.specs.Reading.{optional}
use Rattle.conf_draft.specs.declared.defaults.Given.{Given}
use Rattle.conf_draft.specs.Defaults.{of_trace, of_stream, is_on}
use Rattle.conf_draft.specs.Integers.{integer}
use Rattle.conf_draft.specs.Lookups.{object as object_at}

-- ---- the types of fields that are on

-- most fields: unsigned, 64 bits
abbrev pub number_type : IntType
number_type = record { size = 64; align = 8; signed = false; base = Dec; clock = None; not_empty = lit< tt; at_most_64 = lit≤ tt; positive = lit< tt; power_of_two = refl }

abbrev pub magic_type : IntType
magic_type = record { size = 32; align = 8; signed = false; base = Hex; clock = None; not_empty = lit< tt; at_most_64 = lit≤ tt; positive = lit< tt; power_of_two = refl }

-- each of the 16 elements of an identifier
abbrev pub byte_type : IntType
byte_type = record { size = 8; align = 8; signed = false; base = Dec; clock = None; not_empty = lit< tt; at_most_64 = lit≤ tt; positive = lit< tt; power_of_two = refl }

-- ---- a feature; None where its own type is none

-- on, with this type, or off
abbrev pub if_on : Bool → IntType → Option (Option IntType)
if_on on t = Some (if on then Some t else None)

-- an object is a type of its own, by what an object is there
abbrev pub feature_of : (Members → Option IntType) → Bool → IntType → Option Data → Option (Option IntType)
feature_of own by_default t (Some (boolean b)) = if_on b t
feature_of own by_default t (Some (object ms)) = option_map (λ x. Some x) (own ms)
feature_of own by_default t _ = if_on by_default t

-- of an object at this place, by its row where it is left out
unfoldable pub feature : Place → List ℕ → Given → IntType → Members → Option (Option IntType)
feature place name given t ms = feature_of (integer false) (is_on place name given) t (optional name ms)

-- an identifier is an array, whose elements are bytes
unfoldable pub byte_of : Members → Option IntType
byte_of ms = option_and_then (integer false) (object_at (codes "element-field-type") ms)

unfoldable pub identifier : Place → List ℕ → Given → Members → Option (Option IntType)
identifier place name given ms = feature_of byte_of (is_on place name given) byte_type (optional name ms)

-- a size is always on
unfoldable pub size : Place → List ℕ → Given → Members → Option IntType
size place name given ms = option_map (λ t. unwrap_or t number_type) (feature place name given number_type ms)

-- an integer whose values are those of the clock, where there is one
unfoldable pub mapped : Option (List ℕ) → IntType → IntType
mapped None t = t
mapped (Some name) t = record { size = t.size; align = t.align; signed = t.signed; base = t.base; clock = Some name; not_empty = t.not_empty; at_most_64 = t.at_most_64; positive = t.positive; power_of_two = t.power_of_two }

-- a timestamp has the values of the default clock, where there is one
unfoldable pub timestamp : Place → List ℕ → Option (List ℕ) → Members → Option (Option IntType)
timestamp place name clock ms = option_map (option_map (mapped clock)) (feature place name (of_stream clock) number_type ms)

-- ---- the features of an object

abbrev pub header_with : Option (Option IntType) → Option (Option IntType) → Option (Option IntType) → Option HeaderFeatures
header_with (Some magic) (Some uuid) (Some stream_id) = Some (record { magic = magic; uuid = uuid; stream_id = stream_id })
header_with _ _ _ = None

-- those of a trace type, which may have an identifier
unfoldable pub header : Bool → Members → Option HeaderFeatures
header has_uuid ms =
    header_with (feature places.TraceFeatures (codes "magic-field-type") (of_trace has_uuid) magic_type ms)
    (identifier places.TraceFeatures (codes "uuid-field-type") (of_trace has_uuid) ms)
    (feature places.TraceFeatures (codes "data-stream-type-id-field-type") (of_trace has_uuid) number_type ms)

abbrev pub context_with : Option IntType → Option IntType → Option (Option IntType) → Option (Option IntType) → Option (Option IntType) → Option (Option IntType) → Option ContextFeatures
context_with (Some packet_size) (Some content_size) (Some begin) (Some end) (Some discarded) (Some sequence) =
    Some (record { packet_size = packet_size; content_size = content_size; timestamp_begin = begin; timestamp_end = end; events_discarded = discarded; packet_seq_num = sequence })
context_with _ _ _ _ _ _ = None

-- those of a data stream type, which may have a default clock
unfoldable pub context : Option (List ℕ) → Members → Option ContextFeatures
context clock ms =
    context_with (size places.PacketFeatures (codes "total-size-field-type") (of_stream clock) ms) (size places.PacketFeatures (codes "content-size-field-type") (of_stream clock) ms)
    (timestamp places.PacketFeatures (codes "beginning-timestamp-field-type") clock ms) (timestamp places.PacketFeatures (codes "end-timestamp-field-type") clock ms)
    (feature places.PacketFeatures (codes "discarded-event-records-counter-snapshot-field-type") (of_stream clock) number_type ms)
    (feature places.PacketFeatures (codes "sequence-number-field-type") (of_stream clock) number_type ms)

abbrev pub event_header_with : Option (Option IntType) → Option (Option IntType) → Option EventFeatures
event_header_with (Some id) (Some timestamp) = Some (record { id = id; timestamp = timestamp })
event_header_with _ _ = None

unfoldable pub event_header : Option (List ℕ) → Members → Option EventFeatures
event_header clock ms =
    event_header_with (feature places.EventRecordFeatures (codes "type-id-field-type") (of_stream clock) number_type ms)
    (timestamp places.EventRecordFeatures (codes "timestamp-field-type") clock ms)
