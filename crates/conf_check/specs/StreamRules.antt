-- What the parts of a configuration have to be together, stream type by stream type: numbers fit their fields, records have
-- bits, clocks are there, and timestamps tell the clock values (barectf 3.1, "Data stream type object"; CTF 1.8.3, section 8).
use Rattle.std.specs.Prelude.{ℕ, ◌-◌, ◌^◌, ◌||◌, ◌==◌, nat_le, nat_lt, List, [], ◌∷◌, Bool, true, Option, None, Some, is_some, is_none, length, Result, Ok, Err, codes, if◌then◌else◌, ⊤}
use Rattle.std.specs.List.{list_all, list_any}
use Rattle.std.specs.Option.{option_map_or}
use Rattle.std.specs.Str.{bytes_eq}
use Rattle.ctf_types.specs.declared.ClockType.{ClockType}
use Rattle.ctf_types.specs.declared.Config.{Config}
use Rattle.ctf_types.specs.declared.EventType.{EventType}
use Rattle.ctf_types.specs.declared.StreamType.{StreamType}
use Rattle.ctf_types.specs.declared.IntType.{IntType}
use Rattle.ctf_types.specs.declared.MemberType.{MemberType}
use Rattle.ctf_types.specs.declared.MemberType.TheVariants.{Plain, Dyn}
use Rattle.ctf_types.specs.declared.StructType.{StructType}
use Rattle.ctf_types.specs.FieldTypes.{chain_of}
use Rattle.conf_tree.specs.declared.fault_kind.FaultKind.{FaultKind}
use Rattle.conf_tree.specs.declared.fault_kind.FaultKind.TheVariants.{FieldTooSmall, ZeroSizeRecord, NoClock, TimestampSize}
use Rattle.conf_tree.specs.Flaw.{Flaw, key, here, within}
use Rattle.conf_tree.specs.Reading.{at, ◌>>=◌}
use Rattle.conf_check.specs.declared.stream_rule.StreamRule.{StreamRule}
use Rattle.conf_check.specs.declared.stream_rule.Timestamp.{Timestamp}
use Rattle.conf_check.specs.declared.stream_rule.Timestamp.TheVariants.{Record, Beginning, End}
use Rattle.conf_check.specs.declared.stream_rule.StreamRule.TheVariants.{NumbersFit, RecordsHaveBits, ClocksAreThere, TimestampsAreSized}

-- a flaw of a feature, seen from its data stream type
unfoldable pub feature_flaw : List ℕ → List ℕ → FaultKind → Flaw
feature_flaw group name kind = within (key (codes "$features")) (within (key group) (within (key name) (here kind)))

abbrev pub unless : Bool → Flaw → Result ⊤ Flaw
unless good flaw = if good then Ok tt else Err flaw

-- each of a list keeps a rule, or the first that breaks it says how
abbrev pub each : {A : Type 0} → (A → Result ⊤ Flaw) → List A → Result ⊤ Flaw
each rule [] = Ok tt
each rule (x ∷ xs) = rule x >>= (λ _. each rule xs)

-- a field that is off holds nothing but 0
unfoldable pub holds : ℕ → Option IntType → Bool
holds n None = n == 0
holds n (Some t) = nat_lt n (2 ^ t.size)

unfoldable pub numbers_fit : StreamType → Result ⊤ Flaw
numbers_fit s = unless (holds (length s.events - 1) s.event_header.id) (feature_flaw (codes "event-record") (codes "type-id-field-type") FieldTooSmall)

-- an integer, an enumeration or a string that is in no empty array. A dynamic array has its length
unfoldable pub member_has_bits : MemberType → Bool
member_has_bits (Plain t) = list_all (λ n. nat_lt 0 n) (chain_of t).lengths
member_has_bits (Dyn t l) = true

unfoldable pub struct_has_bits : StructType → Bool
struct_has_bits s = list_any (λ m. member_has_bits m.1) s.members

unfoldable pub header_has_bits : StreamType → Bool
header_has_bits s = is_some s.event_header.id || is_some s.event_header.timestamp || struct_has_bits s.common

abbrev pub record_has_bits : Bool → EventType → Result ⊤ Flaw
record_has_bits header e = at (key e.name) (unless (header || struct_has_bits e.specific || struct_has_bits e.payload) (here ZeroSizeRecord))

unfoldable pub records_have_bits : StreamType → Result ⊤ Flaw
records_have_bits s = at (key (codes "event-record-types")) (each (record_has_bits (header_has_bits s)) s.events)

unfoldable pub clock_is_there : List ClockType → Option (List ℕ) → Bool
clock_is_there clocks None = true
clock_is_there clocks (Some name) = list_any (λ c. bytes_eq c.name name) clocks

-- the field of a timestamp, if it is on
unfoldable pub field_of : StreamType → Timestamp → Option IntType
field_of s Record = s.event_header.timestamp
field_of s Beginning = s.context.timestamp_begin
field_of s End = s.context.timestamp_end

-- a flaw of a timestamp, seen from its data stream type
unfoldable pub timestamp_flaw : Timestamp → FaultKind → Flaw
timestamp_flaw Record kind = feature_flaw (codes "event-record") (codes "timestamp-field-type") kind
timestamp_flaw Beginning kind = feature_flaw (codes "packet") (codes "beginning-timestamp-field-type") kind
timestamp_flaw End kind = feature_flaw (codes "packet") (codes "end-timestamp-field-type") kind

-- the timestamps in the order in which they are judged
abbrev pub timestamps : List Timestamp
timestamps = Record ∷ Beginning ∷ End ∷ []

abbrev pub timestamp_is : (Timestamp → Bool) → FaultKind → Timestamp → Result ⊤ Flaw
timestamp_is good kind timestamp = unless (good timestamp) (timestamp_flaw timestamp kind)

-- one that is on has a clock
unfoldable pub is_clocked : StreamType → Timestamp → Bool
is_clocked s timestamp = is_some s.default_clock || is_none (field_of s timestamp)

unfoldable pub clocks_are_there : List ClockType → StreamType → Result ⊤ Flaw
clocks_are_there clocks s = do
  _ ← unless (clock_is_there clocks s.default_clock) (within (key (codes "$default-clock-type-name")) (here NoClock))
  each (timestamp_is (is_clocked s) NoClock) timestamps

-- a clock value has 64 bits. An event record's timestamp has 8 bits or more where the packet says the clock value at which it begins
abbrev pub tells_clock : StreamType → Timestamp → IntType → Bool
tells_clock s Record t = if is_some s.context.timestamp_begin then nat_le 8 t.size else t.size == 64
tells_clock s _ t = t.size == 64

-- one that is on tells the clock value
unfoldable pub is_sized : StreamType → Timestamp → Bool
is_sized s timestamp = option_map_or (tells_clock s timestamp) (field_of s timestamp) true

unfoldable pub timestamps_sized : StreamType → Result ⊤ Flaw
timestamps_sized s = each (timestamp_is (is_sized s) TimestampSize) timestamps

unfoldable pub judged : StreamRule → List ClockType → StreamType → Result ⊤ Flaw
judged NumbersFit clocks s = numbers_fit s
judged RecordsHaveBits clocks s = records_have_bits s
judged ClocksAreThere clocks s = clocks_are_there clocks s
judged TimestampsAreSized clocks s = timestamps_sized s

-- all data stream types under one rule
unfoldable pub streams_judged : StreamRule → Config → Result ⊤ Flaw
streams_judged rule c =
    at (key (codes "trace")) (at (key (codes "type")) (at (key (codes "data-stream-types")) (each (λ s. at (key s.name) (judged rule c.clocks s)) c.streams)))
