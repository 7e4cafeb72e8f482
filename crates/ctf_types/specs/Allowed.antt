-- Metadata that the rules allow: what every reader of a trace may rely on (CTF 1.8.3, section 7, narrowed by the limits of this tracer).
use Rattle.std.specs.Prelude.{◌≡◌, ℕ, ◌*◌, ◌<◌, ◌≤◌, ◌^◌, pos, negsuc, ◌≤ℤ◌, List, [], ◌∷◌, ◌++◌, All, Contains, IsTrue, Option, None, Some, length, map, max, slice_get, codes, true, false, ◌-◌}
use Rattle.std.specs.Ordering.{nat_cmp}
use Rattle.std.specs.List.{IsDistinct}
use Rattle.std.specs.List.Sorted.{IsStrictlySortedBy}
use Rattle.std.specs.Str.{bytes_eq}
use Rattle.data_types.specs.declared.int_type.IntType.{IntType}
use Rattle.data_types.specs.declared.enum_type.Mapping.{Mapping}
use Rattle.data_types.specs.declared.field_type.FieldType.{FieldType}
use Rattle.data_types.specs.declared.field_type.FieldType.TheVariants.{Int, Enum, Str, Static}
use Rattle.data_types.specs.declared.member_type.Length.TheVariants.{Auto, At}
use Rattle.data_types.specs.declared.member_type.MemberType.{MemberType}
use Rattle.data_types.specs.declared.member_type.MemberType.TheVariants.{Plain, Dyn}
use Rattle.data_types.specs.declared.struct_type.StructType.{StructType}
use Rattle.data_types.specs.declared.metadata.Metadata.{Metadata}
use Rattle.data_types.specs.declared.metadata.Stream.{Stream}
use Rattle.data_types.specs.declared.metadata.Event.{Event}
use Rattle.data_types.specs.Chain.{Leaf, Number, Labelled, ByteString}
use Rattle.data_types.specs.FieldTypes.{chain_of}
use Rattle.data_types.specs.Members.{names_in}
use Rattle.ctf_types.specs.declared.limits.TheConstants.{MAX_ARRAYS, MAX_ELEMENTS, MAX_ENVIRONMENT, MAX_MEMBERS, MAX_RANGES}
use Rattle.ctf_types.specs.Names.{IsMetadataName}
use Rattle.ctf_types.specs.Packets.{own_names}
use Rattle.std.specs.List.{list_any}

-- ---- fields

-- a mapped integer names a clock that is there
abbrev pub IsMappedTo : List (List ℕ) → IntType → Type 0
IsMappedTo clocks t = (name : List ℕ) → t.clock ≡ Some name → Contains clocks name

-- a range of numbers that a text can hold: up to 64 bits and a sign
pub record IsRange (m : Mapping) : Type 0 where
  pub ordered : m.low ≤ℤ m.high
  pub above : negsuc (2 ^ 64 - 2) ≤ℤ m.low
  pub below : m.high ≤ℤ pos (2 ^ 64 - 1)

abbrev pub IsLeaf : List (List ℕ) → Leaf → Type 0
IsLeaf clocks (Number t) = IsMappedTo clocks t
IsLeaf clocks (Labelled t) = IsMappedTo clocks t.int × All IsRange t.mappings × (length t.mappings ≤ MAX_RANGES)
IsLeaf clocks ByteString = Unit {0}

-- the product of the lengths of nested arrays, a 0 counted as 1
unfoldable pub elements_of : List ℕ → ℕ
elements_of [] = 1
elements_of (n ∷ ns) = max 1 n * elements_of ns

pub record IsNest (lengths : List ℕ) : Type 0 where
  pub depth : length lengths ≤ MAX_ARRAYS
  pub size : elements_of lengths ≤ MAX_ELEMENTS

abbrev pub IsField : List (List ℕ) → FieldType → Type 0
IsField clocks t = IsLeaf clocks (chain_of t).leaf × IsNest (chain_of t).lengths

-- an element of a dynamic array has bits: no array in it is empty
abbrev pub HasBits : FieldType → Type 0
HasBits t = All (λ n. 0 < n) (chain_of t).lengths

-- a member that may hold the length of a dynamic array after it: an unsigned integer
abbrev pub IsCount : Option (List ℕ × MemberType) → Type 0
IsCount None = ⊥
IsCount (Some (name, Plain (Int t))) = t.signed ≡ false
IsCount (Some (name, Plain (Enum t))) = ⊥
IsCount (Some (name, Plain Str)) = ⊥
IsCount (Some (name, Plain (Static e n))) = ⊥
IsCount (Some (name, Dyn t l)) = ⊥

-- `before` are the members before this one
abbrev pub IsMember : List (List ℕ) → List (List ℕ × MemberType) → MemberType → Type 0
IsMember clocks before (Plain t) = IsField clocks t
IsMember clocks before (Dyn t Auto) = ⊥
IsMember clocks before (Dyn t (At i)) = IsField clocks t × HasBits t × IsCount (slice_get before i)

unfoldable pub AreMembers : List (List ℕ) → List (List ℕ × MemberType) → List (List ℕ × MemberType) → Type 0
AreMembers clocks before [] = Unit {0}
AreMembers clocks before (m ∷ ms) = IsMember clocks before m.1 × AreMembers clocks (before ++ m ∷ []) ms

-- ---- structures

pub record IsStruct (clocks : List (List ℕ)) (s : StructType) : Type 0 where
  pub members : AreMembers clocks [] s.members
  pub names : All IsMetadataName (names_in s.members)
  pub distinct : IsDistinct bytes_eq (names_in s.members)
  pub few : length s.members ≤ MAX_MEMBERS
  pub empty : s.members ≡ [] → s.min_align ≡ 1

-- a member of this name is an unsigned integer
abbrev pub IsUnsigned : MemberType → Type 0
IsUnsigned (Plain (Int t)) = t.signed ≡ false
IsUnsigned (Plain (Enum t)) = ⊥
IsUnsigned (Plain Str) = ⊥
IsUnsigned (Plain (Static e n)) = ⊥
IsUnsigned (Dyn t l) = ⊥

abbrev pub IsMagic : MemberType → Type 0
IsMagic (Plain (Int t)) = (t.signed ≡ false) × (t.size ≡ 32)
IsMagic (Plain (Enum t)) = ⊥
IsMagic (Plain Str) = ⊥
IsMagic (Plain (Static e n)) = ⊥
IsMagic (Dyn t l) = ⊥

-- 16 unsigned integers of 8 bits with alignment 8
abbrev pub IsByteType : Leaf → Type 0
IsByteType (Number t) = (t.signed ≡ false) × (t.size ≡ 8) × (t.align ≡ 8)
IsByteType (Labelled t) = ⊥
IsByteType ByteString = ⊥

abbrev pub IsIdentity : MemberType → Type 0
IsIdentity (Plain (Static e n)) = (n ≡ 16) × (e.lengths ≡ []) × IsByteType e.leaf
IsIdentity (Plain (Int t)) = ⊥
IsIdentity (Plain (Enum t)) = ⊥
IsIdentity (Plain Str) = ⊥
IsIdentity (Dyn t l) = ⊥

-- a member of a name, where it is there, is as it should be
abbrev pub Where : List ℕ → (MemberType → Type 0) → List (List ℕ × MemberType) → Type 0
Where name P ms = All (λ m. bytes_eq m.0 name ≡ true → P m.1) ms

-- ---- the whole

pub record IsEvent (clocks : List (List ℕ)) (e : Event) : Type 0 where
  pub specific : IsStruct clocks e.specific
  pub fields : IsStruct clocks e.fields

pub record IsStream (clocks : List (List ℕ)) (s : Stream) : Type 0 where
  pub context : IsStruct clocks s.context
  pub event_header : IsStruct clocks s.event_header
  pub common : IsStruct clocks s.common
  pub events : All (IsEvent clocks) s.events
  pub event_numbers_rise : IsStrictlySortedBy nat_cmp (map (λ e. e.id) s.events)
  pub own_are_unsigned : All (λ m. IsTrue (list_any (bytes_eq m.0) own_names) → IsUnsigned m.1) s.context.members
  pub packet_size : Contains (names_in s.context.members) (codes "packet_size")
  pub content_size : Contains (names_in s.context.members) (codes "content_size")
  pub id : Where (codes "id") IsUnsigned s.event_header.members

abbrev pub clock_names : Metadata → List (List ℕ)
clock_names m = map (λ c. c.name) m.clocks

pub record IsMetadata (m : Metadata) : Type 0 where
  pub environment_names : All IsMetadataName (map (λ e. e.name) m.environment)
  pub environment_distinct : IsDistinct bytes_eq (map (λ e. e.name) m.environment)
  pub environment_few : length m.environment ≤ MAX_ENVIRONMENT
  pub clocks_distinct : IsDistinct bytes_eq (clock_names m)
  pub header : IsStruct (clock_names m) m.header
  pub magic : Where (codes "magic") IsMagic m.header.members
  pub uuid : Where (codes "uuid") IsIdentity m.header.members
  pub stream_id : Where (codes "stream_id") IsUnsigned m.header.members
  pub streams : All (IsStream (clock_names m)) m.streams
  pub stream_numbers_rise : IsStrictlySortedBy nat_cmp (map (λ s. s.id) m.streams)
