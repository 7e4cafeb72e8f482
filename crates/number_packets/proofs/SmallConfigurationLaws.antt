-- The small configuration and its metadata are such as the rules allow, and belong together.
use Rattle.std.proofs.Common.{◌≡◌, ℕ, ◌<◌, ◌≤◌, List, [], ◌∷◌, Some, None, All, length, refl, sym, ap, ◌∙◌, arith, codes, false, true, IsTrue, subst, lit<, lit≤, inr}
use Rattle.std.specs.List.{IsDistinct, list_any}
use Rattle.std.specs.List.Sorted.{IsStrictlySortedBy}
use Rattle.std.specs.Str.{bytes_eq}
use Rattle.std.proofs.lemmas.List.Elements.{All-nil, All-cons}
use Rattle.std.proofs.lemmas.Bool.{false≢true}
use Rattle.ctf_types.specs.Packets.{own_names}
use Rattle.ctf_types.specs.declared.IntType.{IntType}
use Rattle.ctf_types.specs.declared.FieldType.TheVariants.{Int}
use Rattle.ctf_types.specs.declared.MemberType.{MemberType}
use Rattle.ctf_types.specs.declared.MemberType.TheVariants.{Plain}
use Rattle.ctf_types.specs.declared.ByteOrder.TheVariants.{Little}
use Rattle.ctf_types.specs.declared.EnvironmentEntry.{EnvironmentEntry}
use Rattle.ctf_types.specs.declared.ClockType.{ClockType}
use Rattle.ctf_types.specs.declared.StreamType.{StreamType}
use Rattle.ctf_types.specs.declared.Config.{Config}
use Rattle.ctf_types.specs.declared.Metadata.{Metadata}
use Rattle.ctf_types.specs.Allowed.{IsMappedTo, IsNest, elements_of, IsMember, AreMembers, IsStruct, IsUnsigned, IsMagic, IsIdentity, IsEvent, IsStream, IsMetadata}
use Rattle.ctf_types.specs.AllowedConfig.{IsConfig, IsConfigMember, IsConfigStruct, IsEventType, IsStreamType, OnlyIf, IsPlainUnsigned, IsTimestamp, IsRecordTimestamp, IsClockType, IsEnvironmentValue, StructHasBits}
use Rattle.ctf_types.specs.MetadataOf.{metadata_of, header_of, streams_of, stream_of, context_of, event_header_of, events_of, event_of}
use Rattle.ctf_types.specs.Names.{IsMetadataName, IsConfigName, IsPlainName, is_identifier}
use Rattle.ctf_types.specs.Shown.{shown_members}
use Rattle.number_packets.specs.SmallConfiguration.{size_type, magic_type, value_type, no_struct, payload_type, small_event_type, small_stream_type, small_config, small_event, small_stream, small_metadata}

pub metadata_of-small_config : metadata_of small_config ≡ small_metadata
unfolding metadata_of header_of streams_of stream_of context_of event_header_of events_of event_of shown_members
metadata_of-small_config = refl

-- ---- metadata

all_one : {X : Type 0} (P : X → Type 0) (x : X) → P x → All P (x ∷ [])
all_one P x h = All-cons P x [] h (All-nil P)

no_clock : (clocks : List (List ℕ)) (t : IntType) → t.clock ≡ None → IsMappedTo clocks t
no_clock clocks t e name is = absurd (none name (sym e ∙ is))
  where
    none : (name : List ℕ) → None ≡ Some name → ⊥
    none name h = cc

no_array : IsNest []
unfolding elements_of
no_array = record { depth = lit≤ tt; size = lit≤ tt }

number_allowed : (before : List (List ℕ × MemberType)) (t : IntType) → t.clock ≡ None → IsMember [] before (Plain (Int t))
number_allowed before t e = (no_clock [] t e, no_array)

no_struct_allowed : IsStruct [] no_struct
unfolding AreMembers IsDistinct
no_struct_allowed = record { members = tt; names = All-nil IsMetadataName; distinct = tt; few = lit≤ tt; empty = λ e. refl }

header_allowed : IsStruct [] small_metadata.header
unfolding AreMembers IsDistinct is_identifier
header_allowed = record {
  members = (number_allowed [] magic_type refl, tt);
  names = all_one IsMetadataName (codes "magic") (record { identifier = refl; no_keyword = refl });
  distinct = (tt, tt);
  few = lit≤ tt;
  empty = λ e. absurd (omega (arith, ap length e));
}

context_allowed : IsStruct [] small_stream.context
unfolding AreMembers IsDistinct is_identifier
context_allowed = record {
  members = (number_allowed [] size_type refl, (number_allowed ((codes "packet_size", Plain (Int size_type)) ∷ []) size_type refl, tt));
  names = All-cons IsMetadataName (codes "packet_size") (codes "content_size" ∷ []) (record { identifier = refl; no_keyword = refl })
      (all_one IsMetadataName (codes "content_size") (record { identifier = refl; no_keyword = refl }));
  distinct = ((refl, tt), (tt, tt));
  few = lit≤ tt;
  empty = λ e. absurd (omega (arith, ap length e));
}

payload_allowed : IsStruct [] payload_type
unfolding AreMembers IsDistinct is_identifier
payload_allowed = record {
  members = (number_allowed [] value_type refl, tt);
  names = all_one IsMetadataName (codes "v") (record { identifier = refl; no_keyword = refl });
  distinct = (tt, tt);
  few = lit≤ tt;
  empty = λ e. absurd (omega (arith, ap length e));
}

event_allowed : IsEvent [] small_event
event_allowed = record { specific = no_struct_allowed; fields = payload_allowed }

stream_allowed : IsStream [] small_stream
unfolding IsStrictlySortedBy
stream_allowed = record {
  context = context_allowed;
  event_header = no_struct_allowed;
  common = no_struct_allowed;
  events = all_one (IsEvent []) small_event event_allowed;
  event_numbers_rise = (tt, tt);
  own_are_unsigned =
      All-cons (λ (m : List ℕ × MemberType). IsTrue (list_any (bytes_eq m.0) own_names) → IsUnsigned m.1) (codes "packet_size", Plain (Int size_type)) ((codes "content_size", Plain (Int size_type)) ∷ []) (λ _. refl)
      (all_one (λ (m : List ℕ × MemberType). IsTrue (list_any (bytes_eq m.0) own_names) → IsUnsigned m.1) (codes "content_size", Plain (Int size_type)) (λ _. refl));
  packet_size = (0, lit< tt, refl);
  content_size = (1, lit< tt, refl);
  id = All-nil (λ (m : List ℕ × MemberType). bytes_eq m.0 (codes "id") ≡ true → IsUnsigned m.1);
}

pub small_metadata_allowed : IsMetadata small_metadata
unfolding IsDistinct IsStrictlySortedBy
small_metadata_allowed = record {
  environment_names = All-nil IsMetadataName;
  environment_distinct = tt;
  environment_few = lit≤ tt;
  clocks_distinct = tt;
  header = header_allowed;
  magic = all_one (λ (m : List ℕ × MemberType). bytes_eq m.0 (codes "magic") ≡ true → IsMagic m.1) (codes "magic", Plain (Int magic_type)) (λ _. (refl, refl));
  uuid = all_one (λ (m : List ℕ × MemberType). bytes_eq m.0 (codes "uuid") ≡ true → IsIdentity m.1) (codes "magic", Plain (Int magic_type)) (λ h. absurd (false≢true h));
  stream_id = all_one (λ (m : List ℕ × MemberType). bytes_eq m.0 (codes "stream_id") ≡ true → IsUnsigned m.1) (codes "magic", Plain (Int magic_type)) (λ h. absurd (false≢true h));
  streams = all_one (IsStream []) small_stream stream_allowed;
  stream_numbers_rise = (tt, tt);
}

pub allowed_metadata : (m : Metadata) → m ≡ small_metadata → IsMetadata m
allowed_metadata m e = subst IsMetadata (sym e) small_metadata_allowed

-- ---- the configuration

number_configured : (t : IntType) → t.clock ≡ None → IsConfigMember (Plain (Int t))
number_configured t e = (e, no_array)

no_struct_configured : IsConfigStruct no_struct
unfolding IsDistinct shown_members
no_struct_configured = record {
  members = record { types = All-nil (λ (m : List ℕ × MemberType). IsConfigMember m.1); names = All-nil IsPlainName; distinct = tt; few = lit≤ tt };
  empty = λ e. refl;
}

short_name : (name : List ℕ) → IsTrue (is_identifier name) → length name ≤ 255 → IsConfigName name
short_name name h l = record { identifier = h; short = l }

plain_v : IsPlainName (codes "v")
unfolding is_identifier
plain_v = record { named = short_name (codes "v") refl (lit≤ tt); no_unused_keyword = refl; no_used_keyword = refl }

payload_configured : IsConfigStruct payload_type
unfolding IsDistinct shown_members
payload_configured = record {
  members = record {
    types = all_one (λ (m : List ℕ × MemberType). IsConfigMember m.1) (codes "v", Plain (Int value_type)) (number_configured value_type refl);
    names = all_one IsPlainName (codes "v") plain_v;
    distinct = (tt, tt);
    few = lit≤ tt;
  };
  empty = λ e. absurd (omega (arith, ap length e));
}

none_some : {X : Type 0} (x : X) → None ≡ Some x → ⊥
none_some x h = cc

payload_has_bits : StructHasBits payload_type
payload_has_bits = ((codes "v", Plain (Int value_type)), (0, lit< tt, refl), All-nil (λ n. 0 < n))

magic_configured : (t : IntType) → Some magic_type ≡ Some t → IsPlainUnsigned t × (t.size ≡ 32)
magic_configured t e =
    let is : magic_type ≡ t = cc in
    subst (λ (t : IntType). IsPlainUnsigned t × (t.size ≡ 32)) is ((refl, refl), refl)

nothing_if : (P : IntType → Type 0) → OnlyIf None P
nothing_if P t e = absurd (none_some t e)

event_configured : IsEventType small_stream_type small_event_type
unfolding is_identifier
event_configured = record {
  name = short_name (codes "e") refl (lit≤ tt);
  log_level = λ n e. absurd (none_some n e);
  specific = no_struct_configured;
  payload = payload_configured;
  has_bits = inr (inr (inr (inr payload_has_bits)));
}

stream_configured : IsStreamType [] small_stream_type
unfolding is_identifier IsStrictlySortedBy shown_members
stream_configured = record {
  name = short_name (codes "s") refl (lit≤ tt);
  default_clock = λ c e. absurd (none_some c e);
  packet_size = (refl, refl);
  content_size = (refl, refl);
  timestamp_begin = nothing_if (IsTimestamp None);
  timestamp_end = nothing_if (IsTimestamp None);
  events_discarded = nothing_if IsPlainUnsigned;
  packet_seq_num = nothing_if IsPlainUnsigned;
  extras = no_struct_configured.members;
  extras_align = refl;
  no_own_name = All-nil (λ (name : List ℕ). list_any (bytes_eq name) own_names ≡ false);
  id = nothing_if IsPlainUnsigned;
  id_holds = refl;
  timestamp = nothing_if (IsRecordTimestamp None None);
  common = no_struct_configured;
  events = all_one (IsEventType small_stream_type) small_event_type event_configured;
  events_in_order = (tt, tt);
  events_few = lit≤ tt;
}

pub small_config_allowed : IsConfig small_config
unfolding IsStrictlySortedBy
small_config_allowed = record {
  environment_names = All-nil IsPlainName;
  environment_values = All-nil (λ (e : EnvironmentEntry). IsEnvironmentValue e.value);
  environment_in_order = tt;
  environment_few = lit≤ tt;
  clocks = All-nil IsClockType;
  clocks_in_order = tt;
  clocks_few = lit≤ tt;
  magic = λ t e. magic_configured t e;
  uuid = nothing_if (λ (t : IntType). IsPlainUnsigned t × (t.size ≡ 8) × (t.align ≡ 8));
  uuid_is_there = λ h. h;
  stream_id = nothing_if IsPlainUnsigned;
  stream_id_holds = refl;
  streams = all_one (IsStreamType []) small_stream_type stream_configured;
  streams_in_order = (tt, tt);
  streams_few = lit≤ tt;
}

-- the configuration from its parts
abbrev pub config_with : List EnvironmentEntry → List ClockType → IntType → List StreamType → Config
config_with environment clocks magic streams = record {
  order = Little;
  uuid = None;
  environment = environment;
  clocks = clocks;
  header = record { magic = Some magic; uuid = None; stream_id = None };
  streams = streams;
}

pub config_is : (environment : List EnvironmentEntry) (clocks : List ClockType) (magic : IntType) (streams : List StreamType) →
    environment ≡ [] → clocks ≡ [] → magic ≡ magic_type → streams ≡ small_stream_type ∷ [] → config_with environment clocks magic streams ≡ small_config
config_is environment clocks magic streams e k m s = λ i. config_with (e i) (k i) (m i) (s i)

pub allowed_config : (c : Config) → c ≡ small_config → IsConfig c
allowed_config c e = subst IsConfig (sym e) small_config_allowed

pub metadata_of-config : (c : Config) → c ≡ small_config → metadata_of c ≡ small_metadata
metadata_of-config c e = ap metadata_of e ∙ metadata_of-small_config
