-- How a configuration whose objects are each as they should be breaks a rule over the whole, and the flaw that tells of it. A flaw
-- of a field stands at its feature, one of a clock at the name of the default clock or at the feature, one of an event record type
-- at that type, and one of two byte orders at the trace type.
use Rattle.std.specs.Prelude.{◌≡◌, ◌≢◌, ◌<◌, ◌-◌, ℕ, List, Contains, Option, None, Some, IsSome, length, true, false, codes}
use Rattle.ctf_types.specs.AllowedConfig.{HoldsUpTo}
use Rattle.ctf_types.specs.declared.ClockType.{ClockType}
use Rattle.ctf_types.specs.declared.EventType.{EventType}
use Rattle.ctf_types.specs.declared.StreamType.{StreamType}
use Rattle.ctf_types.specs.declared.IntType.{IntType}
use Rattle.conf_tree.specs.declared.fault_kind.FaultKind.TheVariants.{FieldTooSmall, ZeroSizeRecord, NoClock, NoUuid, TwoOrders, TimestampSize}
use Rattle.conf_tree.specs.Flaw.{Flaw, key, here, within}
use Rattle.conf_draft.specs.declared.draft.Draft.{Draft}
use Rattle.conf_laws.specs.Rules.{RecordHasBits}
use Rattle.conf_check.specs.Judgement.{in_type, header_flaw}
use Rattle.conf_check.specs.StreamRules.{feature_flaw}

-- a flaw of a data stream type, seen from the configuration
abbrev pub in_stream : StreamType → Flaw → Flaw
in_stream s flaw = in_type (within (key (codes "data-stream-types")) (within (key s.name) flaw))

-- the timestamp features of a data stream type: what each is of, its name, and the field that it is
pub data IsTimestampOf (s : StreamType) : List ℕ → List ℕ → Option IntType → Type 0 where
  of_record : IsTimestampOf s (codes "event-record") (codes "timestamp-field-type") s.event_header.timestamp
  of_beginning : IsTimestampOf s (codes "packet") (codes "beginning-timestamp-field-type") s.context.timestamp_begin
  of_end : IsTimestampOf s (codes "packet") (codes "end-timestamp-field-type") s.context.timestamp_end

pub data BreaksRule (draft : Draft) : Flaw → Type 0 where
  -- the field of a data stream type's number does not hold the largest of them
  stream_number : ¬ HoldsUpTo (length draft.config.streams - 1) draft.config.header.stream_id → BreaksRule draft (header_flaw (codes "data-stream-type-id-field-type") FieldTooSmall)
  -- nor does that of an event record type's number in its data stream type
  event_number : (s : StreamType) → Contains draft.config.streams s → ¬ HoldsUpTo (length s.events - 1) s.event_header.id
      → BreaksRule draft (in_stream s (feature_flaw (codes "event-record") (codes "type-id-field-type") FieldTooSmall))
  -- an event record without bits
  no_bits : (s : StreamType) (e : EventType) → Contains draft.config.streams s → Contains s.events e → ¬ RecordHasBits s e
      → BreaksRule draft (in_stream s (within (key (codes "event-record-types")) (within (key e.name) (here ZeroSizeRecord))))
  -- a default clock that is no clock type
  no_such_clock : (s : StreamType) (name : List ℕ) → Contains draft.config.streams s → s.default_clock ≡ Some name → ((c : ClockType) → Contains draft.config.clocks c → c.name ≢ name)
      → BreaksRule draft (in_stream s (within (key (codes "$default-clock-type-name")) (here NoClock)))
  -- a timestamp that is on without a default clock
  no_clock : (s : StreamType) (group name : List ℕ) (field : Option IntType) → Contains draft.config.streams s → IsTimestampOf s group name field → IsSome field → s.default_clock ≡ None
      → BreaksRule draft (in_stream s (feature_flaw group name NoClock))
  -- an identifier is asked for that is handed in, and none is
  no_number : draft.lacks_number ≡ true → BreaksRule draft (in_type (within (key (codes "uuid")) (here NoUuid)))
  -- or, where none is asked for so, the identifier's field is on without an identifier
  no_identifier : draft.lacks_number ≡ false → IsSome draft.config.header.uuid → draft.config.uuid ≡ None → BreaksRule draft (header_flaw (codes "uuid-field-type") NoUuid)
  -- both properties of a byte order are there
  two_orders : draft.two_orders ≡ true → BreaksRule draft (in_type (here TwoOrders))
  -- a timestamp of a packet that has not 64 bits
  packet_timestamp : (s : StreamType) (name : List ℕ) (field : Option IntType) (t : IntType) → Contains draft.config.streams s → IsTimestampOf s (codes "packet") name field → field ≡ Some t → t.size ≢ 64
      → BreaksRule draft (in_stream s (feature_flaw (codes "packet") name TimestampSize))
  -- a timestamp of an event record that has fewer than 8 bits
  record_timestamp : (s : StreamType) (t : IntType) → Contains draft.config.streams s → s.event_header.timestamp ≡ Some t → t.size < 8
      → BreaksRule draft (in_stream s (feature_flaw (codes "event-record") (codes "timestamp-field-type") TimestampSize))
  -- or fewer than 64, where a packet does not say the clock value at which it begins
  no_beginning : (s : StreamType) (t : IntType) → Contains draft.config.streams s → s.event_header.timestamp ≡ Some t → t.size < 64 → s.context.timestamp_begin ≡ None
      → BreaksRule draft (in_stream s (feature_flaw (codes "event-record") (codes "timestamp-field-type") TimestampSize))
