-- The flaws of a few configurations as a whole: each has the flaw that its case tells of, at the path that is printed.
use Rattle.std.proofs.Common.{◌≡◌, [], ◌∷◌, List, Contains, true, false, Some, None, IsSome, arith}
use Rattle.std.specs.Prelude.{codes}
use Rattle.ctf_types.specs.declared.EventType.{EventType}
use Rattle.ctf_types.specs.declared.StreamType.{StreamType}
use Rattle.ctf_types.specs.declared.IntType.{IntType}
use Rattle.conf_tree.specs.Flaw.{Flaw, Place, key}
use Rattle.conf_tree.specs.declared.fault_kind.FaultKind.{FaultKind}
use Rattle.conf_tree.specs.declared.fault_kind.FaultKind.TheVariants.{ZeroSizeRecord, NoClock, NoUuid, TwoOrders, TimestampSize}
use Rattle.conf_draft.specs.declared.draft.Draft.{Draft}
use Rattle.conf_laws.specs.Rules.{RecordHasBits}
use Rattle.conf_check.specs.Judgement.{header_flaw}
use Rattle.conf_check.specs.StreamRules.{feature_flaw}
use Rattle.conf_check.specs.WholeFlaws.{IsTimestampOf, BreaksRule}

abbrev flaw_at : List Place → FaultKind → Flaw
flaw_at path kind = record { path = path; kind = kind }

-- both properties of a byte order: at the trace type
both_orders : (draft : Draft) → draft.two_orders ≡ true → BreaksRule draft (flaw_at (key (codes "trace") ∷ key (codes "type") ∷ []) TwoOrders)
both_orders draft e = BreaksRule.two_orders e

-- `"uuid": "auto"`, and none is handed in: at `uuid`
not_handed_in : (draft : Draft) → draft.lacks_number ≡ true → BreaksRule draft (flaw_at (key (codes "trace") ∷ key (codes "type") ∷ key (codes "uuid") ∷ []) NoUuid)
not_handed_in draft e = BreaksRule.no_number e

-- the identifier's field without an identifier: at the feature
no_uuid : (draft : Draft) → draft.lacks_number ≡ false → IsSome draft.config.header.uuid → draft.config.uuid ≡ None → BreaksRule draft (flaw_at (key (codes "trace") ∷ key (codes "type") ∷ key (codes "$features") ∷ key (codes "uuid-field-type") ∷ []) NoUuid)
unfolding header_flaw
no_uuid draft given on none = BreaksRule.no_identifier given on none

-- an event record without bits: at its type
no_bits : (draft : Draft) (s : StreamType) (e : EventType) → Contains draft.config.streams s → Contains s.events e → ¬ RecordHasBits s e
    → BreaksRule draft (flaw_at (key (codes "trace") ∷ key (codes "type") ∷ key (codes "data-stream-types") ∷ key s.name ∷ key (codes "event-record-types") ∷ key e.name ∷ []) ZeroSizeRecord)
no_bits draft s e is has none = BreaksRule.no_bits s e is has none

-- the end of a packet has a timestamp, and its data stream type no clock: at the feature
no_clock : (draft : Draft) (s : StreamType) → Contains draft.config.streams s → IsSome s.context.timestamp_end → s.default_clock ≡ None
    → BreaksRule draft (flaw_at (key (codes "trace") ∷ key (codes "type") ∷ key (codes "data-stream-types") ∷ key s.name ∷ key (codes "$features") ∷ key (codes "packet") ∷ key (codes "end-timestamp-field-type") ∷ []) NoClock)
unfolding feature_flaw
no_clock draft s is on none = BreaksRule.no_clock s _ _ s.context.timestamp_end is IsTimestampOf.of_end on none

-- an event record's timestamp of 7 bits: at the feature
seven_bits : (draft : Draft) (s : StreamType) (t : IntType) → Contains draft.config.streams s → s.event_header.timestamp ≡ Some t → t.size ≡ 7
    → BreaksRule draft (flaw_at (key (codes "trace") ∷ key (codes "type") ∷ key (codes "data-stream-types") ∷ key s.name ∷ key (codes "$features") ∷ key (codes "event-record") ∷ key (codes "timestamp-field-type") ∷ []) TimestampSize)
unfolding feature_flaw
seven_bits draft s t is on size = BreaksRule.record_timestamp s t is on (omega (arith, size))

-- one of 8 bits in packets that do not say the clock value at which they begin: there too
no_beginning : (draft : Draft) (s : StreamType) (t : IntType) → Contains draft.config.streams s → s.event_header.timestamp ≡ Some t → t.size ≡ 8 → s.context.timestamp_begin ≡ None
    → BreaksRule draft (flaw_at (key (codes "trace") ∷ key (codes "type") ∷ key (codes "data-stream-types") ∷ key s.name ∷ key (codes "$features") ∷ key (codes "event-record") ∷ key (codes "timestamp-field-type") ∷ []) TimestampSize)
unfolding feature_flaw
no_beginning draft s t is on size none = BreaksRule.no_beginning s t is on (omega (arith, size)) none

-- an end of a packet of 63 bits: at its own feature
an_end_of_63_bits : (draft : Draft) (s : StreamType) (t : IntType) → Contains draft.config.streams s → s.context.timestamp_end ≡ Some t → t.size ≡ 63
    → BreaksRule draft (flaw_at (key (codes "trace") ∷ key (codes "type") ∷ key (codes "data-stream-types") ∷ key s.name ∷ key (codes "$features") ∷ key (codes "packet") ∷ key (codes "end-timestamp-field-type") ∷ []) TimestampSize)
unfolding feature_flaw
an_end_of_63_bits draft s t is on size = BreaksRule.packet_timestamp s _ s.context.timestamp_end t is IsTimestampOf.of_end on (λ e. absurd (omega (arith, size, e)))
