-- The rules over a whole configuration, which none of its objects breaks or keeps by itself: numbers fit their fields, records
-- have bits, clocks are there, timestamps tell the clock values, and an identifier is there where packets say one.
use Rattle.std.specs.Prelude.{◌≡◌, ◌⊎◌, ℕ, ◌-◌, ◌≤◌, List, All, Contains, Option, Some, IsSome, length, map}
use Rattle.ctf_types.specs.AllowedConfig.{HoldsUpTo, OnlyIf, StructHasBits}
use Rattle.ctf_types.specs.declared.Config.{Config}
use Rattle.ctf_types.specs.declared.EventType.{EventType}
use Rattle.ctf_types.specs.declared.IntType.{IntType}
use Rattle.ctf_types.specs.declared.StreamType.{StreamType}

-- a timestamp of a packet has the 64 bits of a clock value, and there is a clock
abbrev pub TellsClock : Option (List ℕ) → IntType → Type 0
TellsClock clock t = (t.size ≡ 64) × IsSome clock

-- that of a record has 8 bits or more, and all 64 where the packet does not say the clock value at which it begins
abbrev pub TellsRecordClock : Option (List ℕ) → Option IntType → IntType → Type 0
TellsRecordClock clock begin t = (8 ≤ t.size) × ((t.size ≡ 64) ⊎ IsSome begin) × IsSome clock

abbrev pub RecordHasBits : StreamType → EventType → Type 0
RecordHasBits s e = IsSome s.event_header.id ⊎ (IsSome s.event_header.timestamp ⊎ (StructHasBits s.common ⊎ (StructHasBits e.specific ⊎ StructHasBits e.payload)))

-- `clocks` are the names of the clock types
pub record KeepsStreamRules (clocks : List (List ℕ)) (s : StreamType) : Type 0 where
  pub default_clock : (c : List ℕ) → s.default_clock ≡ Some c → Contains clocks c
  pub timestamp_begin : OnlyIf s.context.timestamp_begin (TellsClock s.default_clock)
  pub timestamp_end : OnlyIf s.context.timestamp_end (TellsClock s.default_clock)
  pub timestamp : OnlyIf s.event_header.timestamp (TellsRecordClock s.default_clock s.context.timestamp_begin)
  pub id_holds : HoldsUpTo (length s.events - 1) s.event_header.id
  pub has_bits : All (RecordHasBits s) s.events

pub record KeepsRules (c : Config) : Type 0 where
  pub uuid_is_there : IsSome c.header.uuid → IsSome c.uuid
  pub stream_id_holds : HoldsUpTo (length c.streams - 1) c.header.stream_id
  pub streams : All (KeepsStreamRules (map (λ k. k.name) c.clocks)) c.streams
