-- Configurations that the rules allow (barectf 3.1, "Configuration object" and the pages below it, with the limits of this tracer).
use Rattle.std.specs.Prelude.{◌≡◌, ◌≢◌, ℕ, ◌-◌, ◌<◌, ◌≤◌, ◌^◌, ◌⊎◌, ℤ, pos, ◌≤ℤ◌, ◌-ℤ◌, List, [], ◌∷◌, All, Contains, Option, None, Some, IsSome, length, map, true, false, Bool}
use Rattle.std.specs.Ordering.{nat_cmp}
use Rattle.std.specs.List.{IsDistinct, list_any}
use Rattle.std.specs.List.Sorted.{IsStrictlySortedBy}
use Rattle.std.specs.Cmp.Lexicographic.{slice_cmp}
use Rattle.std.specs.declared.cmp.Ordering.TheVariants.{Greater}
use Rattle.std.specs.Str.{bytes_eq}
use Rattle.data_types.specs.declared.int_type.IntType.{IntType}
use Rattle.data_types.specs.declared.enum_type.Mapping.{Mapping}
use Rattle.data_types.specs.declared.enum_type.EnumType.{EnumType}
use Rattle.data_types.specs.declared.environment.EnvironmentValue.{EnvironmentValue}
use Rattle.data_types.specs.declared.environment.EnvironmentValue.TheVariants as environment
use Rattle.data_types.specs.declared.clock_type.ClockType.{ClockType}
use Rattle.data_types.specs.declared.field_type.FieldType.{FieldType}
use Rattle.data_types.specs.declared.member_type.Length.TheVariants.{Auto, At}
use Rattle.data_types.specs.declared.member_type.MemberType.{MemberType}
use Rattle.data_types.specs.declared.member_type.MemberType.TheVariants.{Plain, Dyn}
use Rattle.data_types.specs.declared.struct_type.StructType.{StructType}
use Rattle.data_types.specs.declared.config.Config.{Config}
use Rattle.data_types.specs.declared.config.StreamType.{StreamType}
use Rattle.data_types.specs.declared.config.EventType.{EventType}
use Rattle.ctf_types.specs.declared.limits.TheConstants.{MAX_CLOCK_TYPES, MAX_CONFIG_MEMBERS, MAX_CONFIG_RANGES, MAX_ENVIRONMENT, MAX_EVENT_TYPES, MAX_STREAM_TYPES}
use Rattle.ctf_types.specs.Allowed.{IsNest, HasBits}
use Rattle.data_types.specs.Chain.{Leaf, Number, Labelled, ByteString}
use Rattle.data_types.specs.FieldTypes.{chain_of}
use Rattle.data_types.specs.Members.{names_in}
use Rattle.ctf_types.specs.Names.{IsConfigName, IsPlainName, IsConfigText}
use Rattle.ctf_types.specs.Packets.{own_names}
use Rattle.ctf_types.specs.Shown.{shown_members}

-- names stand in byte order, no two equal
abbrev pub InByteOrder : List (List ℕ) → Type 0
InByteOrder names = IsStrictlySortedBy (slice_cmp nat_cmp) names

-- ---- fields

-- the numbers that an integer of n bits can hold
abbrev pub lowest : Bool → ℕ → ℤ
lowest false n = pos 0
lowest true n = pos 0 -ℤ pos (2 ^ (n - 1))

abbrev pub highest : Bool → ℕ → ℤ
highest false n = pos (2 ^ n - 1)
highest true n = pos (2 ^ (n - 1) - 1)

pub record IsRangeOf (t : IntType) (m : Mapping) : Type 0 where
  pub ordered : m.low ≤ℤ m.high
  pub above : lowest t.signed t.size ≤ℤ m.low
  pub below : m.high ≤ℤ highest t.signed t.size

-- labels stand in byte order, each with its ranges one after the other
unfoldable pub LabelsInOrder : List Mapping → Type 0
LabelsInOrder [] = Unit {0}
LabelsInOrder (m ∷ []) = Unit {0}
LabelsInOrder (m ∷ n ∷ ms) = (slice_cmp nat_cmp m.label n.label ≢ Greater) × LabelsInOrder (n ∷ ms)

pub record IsEnumeration (t : EnumType) : Type 0 where
  pub no_clock : t.int.clock ≡ None
  pub ranges : All (IsRangeOf t.int) t.mappings
  pub labels : All (λ m. IsConfigText m.label) t.mappings
  pub in_order : LabelsInOrder t.mappings
  pub some : 0 < length t.mappings
  pub few : length t.mappings ≤ MAX_CONFIG_RANGES

abbrev pub IsConfigLeaf : Leaf → Type 0
IsConfigLeaf (Number t) = t.clock ≡ None
IsConfigLeaf (Labelled t) = IsEnumeration t
IsConfigLeaf ByteString = Unit {0}

abbrev pub IsConfigField : FieldType → Type 0
IsConfigField t = IsConfigLeaf (chain_of t).leaf × IsNest (chain_of t).lengths

abbrev pub IsConfigMember : MemberType → Type 0
IsConfigMember (Plain t) = IsConfigField t
IsConfigMember (Dyn t Auto) = IsConfigField t × HasBits t
IsConfigMember (Dyn t (At i)) = ⊥

-- a members list: the name of a dynamic array's length is taken too
pub record AreConfigMembers (ms : List (List ℕ × MemberType)) : Type 0 where
  pub types : All (λ m. IsConfigMember m.1) ms
  pub names : All IsPlainName (names_in ms)
  pub distinct : IsDistinct bytes_eq (names_in (shown_members 0 ms))
  pub few : length ms ≤ MAX_CONFIG_MEMBERS

pub record IsConfigStruct (s : StructType) : Type 0 where
  pub members : AreConfigMembers s.members
  pub empty : s.members ≡ [] → s.min_align ≡ 1

-- a field whose type is not there has no bits: it holds nothing but 0
abbrev pub HoldsUpTo : ℕ → Option IntType → Type 0
HoldsUpTo n None = n ≡ 0
HoldsUpTo n (Some t) = n < 2 ^ t.size

-- ---- features

abbrev pub OnlyIf : Option IntType → (IntType → Type 0) → Type 0
OnlyIf f P = (t : IntType) → f ≡ Some t → P t

-- an unsigned integer that is no clock's
abbrev pub IsPlainUnsigned : IntType → Type 0
IsPlainUnsigned t = (t.signed ≡ false) × (t.clock ≡ None)

-- an unsigned integer of 64 bits that is mapped to the default clock, which is there
abbrev pub IsTimestamp : Option (List ℕ) → IntType → Type 0
IsTimestamp default_clock t = (t.signed ≡ false) × (t.size ≡ 64) × IsSome default_clock × (t.clock ≡ default_clock)

-- an event record's: of 8 bits or more. Where it has fewer than 64, a packet says the clock value at which it begins, and its records count from there
abbrev pub IsRecordTimestamp : Option (List ℕ) → Option IntType → IntType → Type 0
IsRecordTimestamp default_clock begin t = (t.signed ≡ false) × (8 ≤ t.size) × ((t.size ≡ 64) ⊎ IsSome begin) × IsSome default_clock × (t.clock ≡ default_clock)

-- ---- event record types

-- a field with bits: an integer, an enumeration or a string that is in no empty array. A dynamic array has its length
abbrev pub MemberHasBits : MemberType → Type 0
MemberHasBits (Plain t) = HasBits t
MemberHasBits (Dyn t l) = Unit {0}

abbrev pub StructHasBits : StructType → Type 0
StructHasBits s = (m : List ℕ × MemberType) × Contains s.members m × MemberHasBits m.1

pub record IsEventType (s : StreamType) (e : EventType) : Type 0 where
  pub name : IsConfigName e.name
  pub log_level : (n : ℕ) → e.log_level ≡ Some n → n < 2 ^ 63
  pub specific : IsConfigStruct e.specific
  pub payload : IsConfigStruct e.payload
  -- a record has bits
  pub has_bits : IsSome s.event_header.id ⊎ (IsSome s.event_header.timestamp ⊎ (StructHasBits s.common ⊎ (StructHasBits e.specific ⊎ StructHasBits e.payload)))

-- ---- data stream types

pub record IsStreamType (clocks : List (List ℕ)) (s : StreamType) : Type 0 where
  pub name : IsConfigName s.name
  pub default_clock : (c : List ℕ) → s.default_clock ≡ Some c → Contains clocks c
  pub packet_size : IsPlainUnsigned s.context.packet_size
  pub content_size : IsPlainUnsigned s.context.content_size
  pub timestamp_begin : OnlyIf s.context.timestamp_begin (IsTimestamp s.default_clock)
  pub timestamp_end : OnlyIf s.context.timestamp_end (IsTimestamp s.default_clock)
  pub events_discarded : OnlyIf s.context.events_discarded IsPlainUnsigned
  pub packet_seq_num : OnlyIf s.context.packet_seq_num IsPlainUnsigned
  pub extras : AreConfigMembers s.extras.members
  pub extras_align : s.extras.min_align ≡ 1
  -- a reader would take an extra member of such a name for the tracer's own, also where that is off
  pub no_own_name : All (λ name. list_any (bytes_eq name) own_names ≡ false) (names_in (shown_members 0 s.extras.members))
  pub id : OnlyIf s.event_header.id IsPlainUnsigned
  pub id_holds : HoldsUpTo (length s.events - 1) s.event_header.id
  pub timestamp : OnlyIf s.event_header.timestamp (IsRecordTimestamp s.default_clock s.context.timestamp_begin)
  pub common : IsConfigStruct s.common
  pub events : All (IsEventType s) s.events
  pub events_in_order : InByteOrder (map (λ e. e.name) s.events)
  pub events_few : length s.events ≤ MAX_EVENT_TYPES

-- ---- clock types and the environment

pub record IsClockType (c : ClockType) : Type 0 where
  pub name : IsPlainName c.name
  pub description : (text : List ℕ) → c.description ≡ Some text → IsConfigText text
  pub frequency : 0 < c.frequency

abbrev pub IsEnvironmentValue : EnvironmentValue → Type 0
IsEnvironmentValue (environment.Whole z) = Unit {0}
IsEnvironmentValue (environment.Text text) = IsConfigText text

-- ---- the whole

pub record IsConfig (c : Config) : Type 0 where
  pub environment_names : All IsPlainName (map (λ e. e.name) c.environment)
  pub environment_values : All (λ e. IsEnvironmentValue e.value) c.environment
  pub environment_in_order : InByteOrder (map (λ e. e.name) c.environment)
  pub environment_few : length c.environment ≤ MAX_ENVIRONMENT
  pub clocks : All IsClockType c.clocks
  pub clocks_in_order : InByteOrder (map (λ k. k.name) c.clocks)
  pub clocks_few : length c.clocks ≤ MAX_CLOCK_TYPES
  pub magic : OnlyIf c.header.magic (λ t. IsPlainUnsigned t × (t.size ≡ 32))
  pub uuid : OnlyIf c.header.uuid (λ t. IsPlainUnsigned t × (t.size ≡ 8) × (t.align ≡ 8))
  pub uuid_is_there : IsSome c.header.uuid → IsSome c.uuid
  pub stream_id : OnlyIf c.header.stream_id IsPlainUnsigned
  pub stream_id_holds : HoldsUpTo (length c.streams - 1) c.header.stream_id
  pub streams : All (IsStreamType (map (λ k. k.name) c.clocks)) c.streams
  pub streams_in_order : InByteOrder (map (λ s. s.name) c.streams)
  pub streams_few : length c.streams ≤ MAX_STREAM_TYPES
