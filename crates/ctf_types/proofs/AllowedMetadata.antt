-- The metadata of a configuration that the rules allow is metadata that the rules allow: a reader takes whatever a tracer was made from.
use Rattle.std.proofs.Common.{◌≡◌, ℕ, ◌+◌, ◌<◌, ◌≤◌, inl, inr, Bool, true, false, IsTrue, List, [], ◌∷◌, ◌++◌, map, length, All, Contains, Option, Some, None, refl, sym, ap, subst, ◌∙◌, arith, append-nil, append_assoc, length-append, codes, bytes_eq, nat_cmp, Less, Equal, Greater, cond, eqb}
use Rattle.std.proofs.lemmas.Bool.{cases_Bool, false≢true, lt-ltb}
use Rattle.std.proofs.lemmas.Map.Keys.{IsDistinct-from_sorted, IsDistinct-cons}
use Rattle.std.proofs.lemmas.Map.Text.{is_eq-slice_cmp}
use Rattle.std.proofs.lemmas.Slice.Eq.{bytes_eq-Decides}
use Rattle.std.proofs.lemmas.List.Elements.{All-head, All-tail, All-cons, All-nil, All-append, All-weaker, All-map}
use Rattle.std.specs.Cmp.Lexicographic.{slice_cmp}
use Rattle.std.specs.List.{list_any, IsDistinct, AllByRecursion}
use Rattle.std.specs.List.Sorted.{IsStrictlySortedBy}
use Rattle.data_types.specs.declared.int_type.IntType.{IntType}
use Rattle.data_types.specs.declared.field_type.FieldType.TheVariants.{Int, Static}
use Rattle.data_types.specs.declared.member_type.MemberType.{MemberType}
use Rattle.data_types.specs.declared.member_type.MemberType.TheVariants.{Plain}
use Rattle.data_types.specs.declared.features.HeaderFeatures.{HeaderFeatures}
use Rattle.data_types.specs.declared.features.ContextFeatures.{ContextFeatures}
use Rattle.data_types.specs.declared.features.EventFeatures.{EventFeatures}
use Rattle.data_types.specs.declared.config.Config.{Config}
use Rattle.data_types.specs.declared.config.StreamType.{StreamType}
use Rattle.data_types.specs.declared.config.EventType.{EventType}
use Rattle.ctf_types.specs.Allowed.{IsMappedTo, IsNest, elements_of, AreMembers, IsStruct, IsUnsigned, IsMagic, IsIdentity, Where, IsEvent, IsStream, IsMetadata}
use Rattle.ctf_types.specs.AllowedConfig.{InByteOrder, OnlyIf, IsPlainUnsigned, IsTimestamp, IsEventType, IsStreamType, IsConfig}
use Rattle.data_types.specs.FieldTypes.{chain_of}
use Rattle.data_types.specs.Members.{names_in}
use Rattle.ctf_types.specs.MetadataOf.{number_member, uuid_member, header_members, context_numbers, event_header_members, struct_with, header_of, context_of, event_header_of, event_of, events_of, stream_of, streams_of, metadata_of}
use Rattle.ctf_types.specs.Names.{is_identifier, IsMetadataName, IsPlainName}
use Rattle.ctf_types.specs.Packets.{own_names}
use Rattle.ctf_types.specs.Shown.{shown_members}
use Rattle.ctf_types.proofs.AllowedMembers.{mapped_without_clock, int_is_field, metadata_name_of_plain, shown_names, shown_names_anywhere, length-shown_members-le, IsShowable, AreShowable, all_showable_of_config, members_are_allowed, struct_is_allowed}
use Rattle.ctf_types.proofs.ShownLies.{IsPlain, shown_members-plain, shown_members-append}

-- ---- names that differ

-- names in byte order differ
distinct_from_order : (names : List (List ℕ)) → InByteOrder names → IsDistinct bytes_eq names
distinct_from_order names h =
    subst (λ (e : List ℕ → List ℕ → Bool). IsDistinct e names) (λ i x y. is_eq-slice_cmp x y i) (IsDistinct-from_sorted (slice_cmp nat_cmp) names h)

all_apart : (x : List ℕ) (ms : List (List ℕ × MemberType)) → All (λ m. bytes_eq x m.0 ≡ false) ms → AllByRecursion (λ y. bytes_eq x y ≡ false) (names_in ms)
all_apart x [] h = tt
all_apart x (m ∷ ms) h =
    (All-head (λ (k : List ℕ × MemberType). bytes_eq x k.0 ≡ false) m ms h, all_apart x ms (All-tail (λ (k : List ℕ × MemberType). bytes_eq x k.0 ≡ false) m ms h))

-- one more name, which no other is
distinct_more : (m : List ℕ × MemberType) (ms : List (List ℕ × MemberType)) → All (λ k. bytes_eq m.0 k.0 ≡ false) ms → IsDistinct bytes_eq (names_in ms) →
    IsDistinct bytes_eq (names_in (m ∷ ms))
distinct_more m ms h g = IsDistinct-cons bytes_eq m.0 (names_in ms) (all_apart m.0 ms h) g

distinct_number : (name : List ℕ) (o : Option IntType) (ms : List (List ℕ × MemberType)) → All (λ k. bytes_eq name k.0 ≡ false) ms → IsDistinct bytes_eq (names_in ms) →
    IsDistinct bytes_eq (names_in (number_member name o ++ ms))
distinct_number name None ms h g = g
distinct_number name (Some t) ms h g = distinct_more (name, Plain (Int t)) ms h g

distinct_uuid : (o : Option IntType) (ms : List (List ℕ × MemberType)) → All (λ k. bytes_eq (codes "uuid") k.0 ≡ false) ms → IsDistinct bytes_eq (names_in ms) →
    IsDistinct bytes_eq (names_in (uuid_member o ++ ms))
distinct_uuid None ms h g = g
distinct_uuid (Some t) ms h g = distinct_more (codes "uuid", Plain (Static (chain_of (Int t)) 16)) ms h g

distinct_none : IsDistinct bytes_eq []
unfolding IsDistinct
distinct_none = tt

apart_join : (x : List ℕ) (ms ns : List (List ℕ × MemberType)) → AllByRecursion (λ y. bytes_eq x y ≡ false) (names_in ms) →
    AllByRecursion (λ y. bytes_eq x y ≡ false) (names_in ns) → AllByRecursion (λ y. bytes_eq x y ≡ false) (names_in (ms ++ ns))
apart_join x [] ns h g = g
apart_join x (m ∷ ms) ns h g = (h.0, apart_join x ms ns h.1 g)

-- two lists of names, each distinct, of which no name is in the other
distinct_join : (ms ns : List (List ℕ × MemberType)) → All (λ m. All (λ k. bytes_eq m.0 k.0 ≡ false) ns) ms → IsDistinct bytes_eq (names_in ms) → IsDistinct bytes_eq (names_in ns) →
    IsDistinct bytes_eq (names_in (ms ++ ns))
unfolding IsDistinct
distinct_join [] ns h f g = g
distinct_join (m ∷ ms) ns h f g = (
  apart_join m.0 ms ns f.0 (all_apart m.0 ns (All-head (λ (k : List ℕ × MemberType). All (λ l. bytes_eq k.0 l.0 ≡ false) ns) m ms h)),
  distinct_join ms ns (All-tail (λ (k : List ℕ × MemberType). All (λ l. bytes_eq k.0 l.0 ≡ false) ns) m ms h) f.1 g,
)

-- ---- members of the tracer's own

all_number : (P : List ℕ × MemberType → Type 0) (name : List ℕ) (o : Option IntType) → OnlyIf o (λ t. P (name, Plain (Int t))) → All P (number_member name o)
all_number P name None h = All-nil P
all_number P name (Some t) h = All-cons P (name, Plain (Int t)) [] (h t refl) (All-nil P)

all_uuid : (P : List ℕ × MemberType → Type 0) (o : Option IntType) → OnlyIf o (λ t. P (codes "uuid", Plain (Static (chain_of (Int t)) 16))) → All P (uuid_member o)
all_uuid P None h = All-nil P
all_uuid P (Some t) h = All-cons P (codes "uuid", Plain (Static (chain_of (Int t)) 16)) [] (h t refl) (All-nil P)

length-number-le : (name : List ℕ) (o : Option IntType) → length (number_member name o) ≤ 1
length-number-le name None = omega arith
length-number-le name (Some t) = omega arith

length-uuid-le : (o : Option IntType) → length (uuid_member o) ≤ 1
length-uuid-le None = omega arith
length-uuid-le (Some t) = omega arith

-- a structure of the tracer's own is allowed where its members are
own_struct_is_allowed : (clocks : List (List ℕ)) (ms : List (List ℕ × MemberType)) → AreMembers clocks [] ms → All IsMetadataName (names_in ms) →
    IsDistinct bytes_eq (names_in ms) → length ms ≤ 1024 → IsStruct clocks (struct_with ms)
own_struct_is_allowed clocks [] a b c d = record { members = a; names = b; distinct = c; few = d; empty = λ e. refl }
own_struct_is_allowed clocks (m ∷ ms) a b c d = record { members = a; names = b; distinct = c; few = d; empty = λ e. absurd (omega (arith, ap length e)) }

pub struct_with-members : (ms : List (List ℕ × MemberType)) → (struct_with ms).members ≡ ms
struct_with-members [] = refl
struct_with-members (m ∷ ms) = refl

all_in_struct_with : (P : List ℕ × MemberType → Type 0) (ms : List (List ℕ × MemberType)) → All P ms → All P (struct_with ms).members
all_in_struct_with P ms h = subst (All P) (sym (struct_with-members ms)) h

-- what such a member is, whatever its name says of it
record IsOwnMember (clocks : List (List ℕ)) (m : List ℕ × MemberType) : Type 0 where
  named : IsMetadataName m.0
  plain : IsPlain m.1
  showable : IsShowable clocks m.1

own_members_are_allowed : (clocks : List (List ℕ)) (ms : List (List ℕ × MemberType)) → All (IsOwnMember clocks) ms → AreMembers clocks [] ms
own_members_are_allowed clocks ms h =
    subst (AreMembers clocks []) (shown_members-plain 0 ms (All-weaker (IsOwnMember clocks) (λ (m : List ℕ × MemberType). IsPlain m.1) (λ m x. x.plain) ms h))
    (members_are_allowed clocks 0 [] ms refl (All-weaker (IsOwnMember clocks) (λ (m : List ℕ × MemberType). IsShowable clocks m.1) (λ m x. x.showable) ms h))

own_names_are_allowed : (clocks : List (List ℕ)) (ms : List (List ℕ × MemberType)) → All (IsOwnMember clocks) ms → All IsMetadataName (names_in ms)
own_names_are_allowed clocks ms h =
    All-map IsMetadataName (λ (m : List ℕ × MemberType). m.0) ms (All-weaker (IsOwnMember clocks) (λ (m : List ℕ × MemberType). IsMetadataName m.0) (λ m x. x.named) ms h)

number_is_own : (clocks : List (List ℕ)) (name : List ℕ) (t : IntType) → IsMetadataName name → IsMappedTo clocks t → IsOwnMember clocks (name, Plain (Int t))
number_is_own clocks name t n h = record { named = n; plain = tt; showable = int_is_field clocks t h }

-- ---- the packet header

magic_named : IsMetadataName (codes "magic")
unfolding is_identifier
magic_named = record { identifier = refl; no_keyword = refl }

uuid_named : IsMetadataName (codes "uuid")
unfolding is_identifier
uuid_named = record { identifier = refl; no_keyword = refl }

stream_id_named : IsMetadataName (codes "stream_id")
unfolding is_identifier
stream_id_named = record { identifier = refl; no_keyword = refl }

uuid_nest : IsNest (16 ∷ [])
unfolding elements_of
uuid_nest = record { depth = omega arith; size = omega arith }

uuid_is_own : (clocks : List (List ℕ)) (t : IntType) → t.clock ≡ None → IsOwnMember clocks (codes "uuid", Plain (Static (chain_of (Int t)) 16))
uuid_is_own clocks t h = record { named = uuid_named; plain = tt; showable = (mapped_without_clock clocks t h, uuid_nest) }

-- the header's members, bracketed to the right
abbrev header_list : HeaderFeatures → List (List ℕ × MemberType)
header_list f = number_member (codes "magic") f.magic ++ (uuid_member f.uuid ++ number_member (codes "stream_id") f.stream_id)

header_members-list : (f : HeaderFeatures) → header_list f ≡ header_members f
header_members-list f = sym (append_assoc (number_member (codes "magic") f.magic) (uuid_member f.uuid) (number_member (codes "stream_id") f.stream_id))

-- every header member has P, where the member of each name has
all_header : (P : List ℕ × MemberType → Type 0) (f : HeaderFeatures) → OnlyIf f.magic (λ t. P (codes "magic", Plain (Int t))) →
    OnlyIf f.uuid (λ t. P (codes "uuid", Plain (Static (chain_of (Int t)) 16))) → OnlyIf f.stream_id (λ t. P (codes "stream_id", Plain (Int t))) → All P (header_members f)
all_header P f a b c =
    subst (All P) (header_members-list f)
    (All-append P (number_member (codes "magic") f.magic) (uuid_member f.uuid ++ number_member (codes "stream_id") f.stream_id) (all_number P (codes "magic") f.magic a)
    (All-append P (uuid_member f.uuid) (number_member (codes "stream_id") f.stream_id) (all_uuid P f.uuid b) (all_number P (codes "stream_id") f.stream_id c)))

-- one number alone
distinct_one : (name : List ℕ) (o : Option IntType) → IsDistinct bytes_eq (names_in (number_member name o))
distinct_one name o =
    subst (λ (l : List (List ℕ × MemberType)). IsDistinct bytes_eq (names_in l)) (append-nil (number_member name o))
    (distinct_number name o [] (All-nil (λ (k : List ℕ × MemberType). bytes_eq name k.0 ≡ false)) distinct_none)

header_distinct : (f : HeaderFeatures) → IsDistinct bytes_eq (names_in (header_members f))
header_distinct f =
    let apart_uuid : List ℕ × MemberType → Type 0 = λ k. bytes_eq (codes "uuid") k.0 ≡ false in
    let apart_magic : List ℕ × MemberType → Type 0 = λ k. bytes_eq (codes "magic") k.0 ≡ false in
    subst (λ (l : List (List ℕ × MemberType)). IsDistinct bytes_eq (names_in l)) (header_members-list f)
    (distinct_number (codes "magic") f.magic (uuid_member f.uuid ++ number_member (codes "stream_id") f.stream_id)
    (All-append apart_magic (uuid_member f.uuid) (number_member (codes "stream_id") f.stream_id) (all_uuid apart_magic f.uuid (λ t e. refl))
    (all_number apart_magic (codes "stream_id") f.stream_id (λ t e. refl)))
    (distinct_uuid f.uuid (number_member (codes "stream_id") f.stream_id) (all_number apart_uuid (codes "stream_id") f.stream_id (λ t e. refl))
    (distinct_one (codes "stream_id") f.stream_id)))

header_few : (f : HeaderFeatures) → length (header_members f) ≤ 1024
header_few f =
    omega (
      arith,
      ap length (header_members-list f),
      length-number-le (codes "magic") f.magic,
      length-uuid-le f.uuid,
      length-number-le (codes "stream_id") f.stream_id,
      length-append (number_member (codes "magic") f.magic) (uuid_member f.uuid ++ number_member (codes "stream_id") f.stream_id),
      length-append (uuid_member f.uuid) (number_member (codes "stream_id") f.stream_id),
    )

module _ (c : Config) (h : IsConfig c) where
  clocks : List (List ℕ)
  clocks = map (λ k. k.name) c.clocks

  header_own : All (IsOwnMember clocks) (header_members c.header)
  header_own =
      all_header (IsOwnMember clocks) c.header
      (λ t e. number_is_own clocks (codes "magic") t magic_named (mapped_without_clock clocks t ((h.magic t e).0).1))
      (λ t e. uuid_is_own clocks t ((h.uuid t e).0).1)
      (λ t e. number_is_own clocks (codes "stream_id") t stream_id_named (mapped_without_clock clocks t (h.stream_id t e).1))

  header_is_allowed : IsStruct clocks (header_of c)
  unfolding header_of
  header_is_allowed =
      own_struct_is_allowed clocks (header_members c.header) (own_members_are_allowed clocks (header_members c.header) header_own)
      (own_names_are_allowed clocks (header_members c.header) header_own) (header_distinct c.header) (header_few c.header)

  magic_is_allowed : Where (codes "magic") IsMagic (header_of c).members
  unfolding header_of
  magic_is_allowed =
      let P : List ℕ × MemberType → Type 0 = λ m. bytes_eq m.0 (codes "magic") ≡ true → IsMagic m.1 in
      all_in_struct_with P (header_members c.header)
      (all_header P c.header (λ t e n. (((h.magic t e).0).0, (h.magic t e).1)) (λ t e n. absurd (false≢true n)) (λ t e n. absurd (false≢true n)))

  uuid_is_allowed : Where (codes "uuid") IsIdentity (header_of c).members
  unfolding header_of
  uuid_is_allowed =
      let P : List ℕ × MemberType → Type 0 = λ m. bytes_eq m.0 (codes "uuid") ≡ true → IsIdentity m.1 in
      all_in_struct_with P (header_members c.header)
      (all_header P c.header (λ t e n. absurd (false≢true n)) (λ t e n. (refl, refl, (((h.uuid t e).0).0, (h.uuid t e).1, (h.uuid t e).2))) (λ t e n. absurd (false≢true n)))

  stream_id_is_allowed : Where (codes "stream_id") IsUnsigned (header_of c).members
  unfolding header_of
  stream_id_is_allowed =
      let P : List ℕ × MemberType → Type 0 = λ m. bytes_eq m.0 (codes "stream_id") ≡ true → IsUnsigned m.1 in
      all_in_struct_with P (header_members c.header)
      (all_header P c.header (λ t e n. absurd (false≢true n)) (λ t e n. absurd (false≢true n)) (λ t e n. (h.stream_id t e).0))

-- ---- event record headers

id_named : IsMetadataName (codes "id")
unfolding is_identifier
id_named = record { identifier = refl; no_keyword = refl }

timestamp_named : IsMetadataName (codes "timestamp")
unfolding is_identifier
timestamp_named = record { identifier = refl; no_keyword = refl }

all_event_header : (P : List ℕ × MemberType → Type 0) (f : EventFeatures) → OnlyIf f.id (λ t. P (codes "id", Plain (Int t))) →
    OnlyIf f.timestamp (λ t. P (codes "timestamp", Plain (Int t))) → All P (event_header_members f)
all_event_header P f a b =
    All-append P (number_member (codes "id") f.id) (number_member (codes "timestamp") f.timestamp) (all_number P (codes "id") f.id a) (all_number P (codes "timestamp") f.timestamp b)

event_header_distinct : (f : EventFeatures) → IsDistinct bytes_eq (names_in (event_header_members f))
event_header_distinct f =
    distinct_number (codes "id") f.id (number_member (codes "timestamp") f.timestamp)
    (all_number (λ (k : List ℕ × MemberType). bytes_eq (codes "id") k.0 ≡ false) (codes "timestamp") f.timestamp (λ t e. refl)) (distinct_one (codes "timestamp") f.timestamp)

event_header_few : (f : EventFeatures) → length (event_header_members f) ≤ 1024
event_header_few f =
    omega (
      arith,
      length-number-le (codes "id") f.id,
      length-number-le (codes "timestamp") f.timestamp,
      length-append (number_member (codes "id") f.id) (number_member (codes "timestamp") f.timestamp),
    )

-- ---- packet contexts

packet_size_named : IsMetadataName (codes "packet_size")
unfolding is_identifier
packet_size_named = record { identifier = refl; no_keyword = refl }

content_size_named : IsMetadataName (codes "content_size")
unfolding is_identifier
content_size_named = record { identifier = refl; no_keyword = refl }

timestamp_begin_named : IsMetadataName (codes "timestamp_begin")
unfolding is_identifier
timestamp_begin_named = record { identifier = refl; no_keyword = refl }

timestamp_end_named : IsMetadataName (codes "timestamp_end")
unfolding is_identifier
timestamp_end_named = record { identifier = refl; no_keyword = refl }

events_discarded_named : IsMetadataName (codes "events_discarded")
unfolding is_identifier
events_discarded_named = record { identifier = refl; no_keyword = refl }

packet_seq_num_named : IsMetadataName (codes "packet_seq_num")
unfolding is_identifier
packet_seq_num_named = record { identifier = refl; no_keyword = refl }

-- the context's numbers, bracketed to the right: the last two, the last three, the last four
abbrev late_numbers : ContextFeatures → List (List ℕ × MemberType)
late_numbers f = number_member (codes "events_discarded") f.events_discarded ++ number_member (codes "packet_seq_num") f.packet_seq_num

abbrev end_numbers : ContextFeatures → List (List ℕ × MemberType)
end_numbers f = number_member (codes "timestamp_end") f.timestamp_end ++ late_numbers f

abbrev optional_numbers : ContextFeatures → List (List ℕ × MemberType)
optional_numbers f = number_member (codes "timestamp_begin") f.timestamp_begin ++ end_numbers f

abbrev context_list : ContextFeatures → List (List ℕ × MemberType)
context_list f = (codes "packet_size", Plain (Int f.packet_size)) ∷ (codes "content_size", Plain (Int f.content_size)) ∷ optional_numbers f

context_numbers-list : (f : ContextFeatures) → context_list f ≡ context_numbers f
context_numbers-list f = simp append_assoc

all_late : (P : List ℕ × MemberType → Type 0) (f : ContextFeatures) → OnlyIf f.events_discarded (λ t. P (codes "events_discarded", Plain (Int t))) →
    OnlyIf f.packet_seq_num (λ t. P (codes "packet_seq_num", Plain (Int t))) → All P (late_numbers f)
all_late P f d e =
    All-append P (number_member (codes "events_discarded") f.events_discarded) (number_member (codes "packet_seq_num") f.packet_seq_num)
    (all_number P (codes "events_discarded") f.events_discarded d) (all_number P (codes "packet_seq_num") f.packet_seq_num e)

all_end : (P : List ℕ × MemberType → Type 0) (f : ContextFeatures) → OnlyIf f.timestamp_end (λ t. P (codes "timestamp_end", Plain (Int t))) → All P (late_numbers f) → All P (end_numbers f)
all_end P f c h = All-append P (number_member (codes "timestamp_end") f.timestamp_end) (late_numbers f) (all_number P (codes "timestamp_end") f.timestamp_end c) h

all_optional : (P : List ℕ × MemberType → Type 0) (f : ContextFeatures) → OnlyIf f.timestamp_begin (λ t. P (codes "timestamp_begin", Plain (Int t))) →
    All P (end_numbers f) → All P (optional_numbers f)
all_optional P f b h =
    All-append P (number_member (codes "timestamp_begin") f.timestamp_begin) (end_numbers f) (all_number P (codes "timestamp_begin") f.timestamp_begin b) h

all_context : (P : List ℕ × MemberType → Type 0) (f : ContextFeatures) → P (codes "packet_size", Plain (Int f.packet_size)) → P (codes "content_size", Plain (Int f.content_size)) →
    All P (optional_numbers f) → All P (context_numbers f)
all_context P f a b h =
    subst (All P) (context_numbers-list f)
    (All-cons P (codes "packet_size", Plain (Int f.packet_size)) ((codes "content_size", Plain (Int f.content_size)) ∷ optional_numbers f) a
    (All-cons P (codes "content_size", Plain (Int f.content_size)) (optional_numbers f) b h))

-- what holds of every number that a context may have holds of those that it has
pub all_context_numbers : (P : List ℕ × MemberType → Type 0) (f : ContextFeatures) → ((name : List ℕ) (t : IntType) → list_any (bytes_eq name) own_names ≡ true → P (name, Plain (Int t))) →
    All P (context_numbers f)
all_context_numbers P f h =
    all_context P f (h (codes "packet_size") f.packet_size refl) (h (codes "content_size") f.content_size refl)
    (all_optional P f (λ t e. h (codes "timestamp_begin") t refl)
    (all_end P f (λ t e. h (codes "timestamp_end") t refl)
    (all_late P f (λ t e. h (codes "events_discarded") t refl) (λ t e. h (codes "packet_seq_num") t refl))))

context_few : (f : ContextFeatures) → length (context_numbers f) ≤ 6
context_few f =
    omega (
      arith,
      ap length (context_numbers-list f),
      length-number-le (codes "timestamp_begin") f.timestamp_begin,
      length-number-le (codes "timestamp_end") f.timestamp_end,
      length-number-le (codes "events_discarded") f.events_discarded,
      length-number-le (codes "packet_seq_num") f.packet_seq_num,
      length-append (number_member (codes "timestamp_begin") f.timestamp_begin) (end_numbers f),
      length-append (number_member (codes "timestamp_end") f.timestamp_end) (late_numbers f),
      length-append (number_member (codes "events_discarded") f.events_discarded) (number_member (codes "packet_seq_num") f.packet_seq_num),
    )

-- the name of a member is not this one
abbrev IsApart : List ℕ → List ℕ × MemberType → Type 0
IsApart x k = bytes_eq x k.0 ≡ false

late_distinct : (f : ContextFeatures) → IsDistinct bytes_eq (names_in (late_numbers f))
late_distinct f =
    distinct_number (codes "events_discarded") f.events_discarded (number_member (codes "packet_seq_num") f.packet_seq_num)
    (all_number (IsApart (codes "events_discarded")) (codes "packet_seq_num") f.packet_seq_num (λ t e. refl)) (distinct_one (codes "packet_seq_num") f.packet_seq_num)

end_distinct : (f : ContextFeatures) → IsDistinct bytes_eq (names_in (end_numbers f))
end_distinct f =
    distinct_number (codes "timestamp_end") f.timestamp_end (late_numbers f) (all_late (IsApart (codes "timestamp_end")) f (λ t e. refl) (λ t e. refl)) (late_distinct f)

optional_distinct : (f : ContextFeatures) → IsDistinct bytes_eq (names_in (optional_numbers f))
optional_distinct f =
    let P : List ℕ × MemberType → Type 0 = IsApart (codes "timestamp_begin") in
    distinct_number (codes "timestamp_begin") f.timestamp_begin (end_numbers f) (all_end P f (λ t e. refl) (all_late P f (λ t e. refl) (λ t e. refl))) (end_distinct f)

context_distinct : (f : ContextFeatures) → IsDistinct bytes_eq (names_in (context_numbers f))
context_distinct f =
    let P : List ℕ × MemberType → Type 0 = IsApart (codes "packet_size") in
    let Q : List ℕ × MemberType → Type 0 = IsApart (codes "content_size") in
    let p : All P (optional_numbers f) = all_optional P f (λ t e. refl) (all_end P f (λ t e. refl) (all_late P f (λ t e. refl) (λ t e. refl))) in
    let q : All Q (optional_numbers f) = all_optional Q f (λ t e. refl) (all_end Q f (λ t e. refl) (all_late Q f (λ t e. refl) (λ t e. refl))) in
    subst (λ (l : List (List ℕ × MemberType)). IsDistinct bytes_eq (names_in l)) (context_numbers-list f)
    (distinct_more (codes "packet_size", Plain (Int f.packet_size)) ((codes "content_size", Plain (Int f.content_size)) ∷ optional_numbers f)
    (All-cons P (codes "content_size", Plain (Int f.content_size)) (optional_numbers f) refl p)
    (distinct_more (codes "content_size", Plain (Int f.content_size)) (optional_numbers f) q (optional_distinct f)))

-- ---- streams

-- one of the context's numbers
record IsOwnNumber (clocks : List (List ℕ)) (m : List ℕ × MemberType) : Type 0 where
  own : IsOwnMember clocks m
  unsigned : IsUnsigned m.1
  listed : list_any (bytes_eq m.0) own_names ≡ true

-- a member of another name than all of those
abbrev IsOther : List ℕ × MemberType → Type 0
IsOther m = list_any (bytes_eq m.0) own_names ≡ false

pub members_from_names : (P : List ℕ → Type 0) (ms : List (List ℕ × MemberType)) → All P (names_in ms) → All (λ m. P m.0) ms
members_from_names P [] h = All-nil (λ (m : List ℕ × MemberType). P m.0)
members_from_names P (m ∷ ms) h =
    All-cons (λ (k : List ℕ × MemberType). P k.0) m ms (All-head P m.0 (names_in ms) h) (members_from_names P ms (All-tail P m.0 (names_in ms) h))

own_is_not_other : (m k : List ℕ × MemberType) → list_any (bytes_eq m.0) own_names ≡ true → IsOther k → bytes_eq m.0 k.0 ≡ false
own_is_not_other m k h g = elim (cases_Bool (bytes_eq m.0 k.0)) [
  | inl e ↦ absurd (false≢true (sym g ∙ ap (λ (x : List ℕ). list_any (bytes_eq x) own_names) (sym ((bytes_eq-Decides m.0 k.0).0 e)) ∙ h))
  | inr e ↦ e
]

module _ (clocks : List (List ℕ)) (s : StreamType) (h : IsStreamType clocks s) where
  mapped_to_default : (t : IntType) → t.clock ≡ s.default_clock → IsMappedTo clocks t
  mapped_to_default t e = λ name n. h.default_clock name (sym e ∙ n)

  own_number : (name : List ℕ) (t : IntType) → IsMetadataName name → list_any (bytes_eq name) own_names ≡ true → t.signed ≡ false → IsMappedTo clocks t →
      IsOwnNumber clocks (name, Plain (Int t))
  own_number name t n l u m = record { own = number_is_own clocks name t n m; unsigned = u; listed = l }

  numbers_are_own : All (IsOwnNumber clocks) (context_numbers s.context)
  numbers_are_own =
      let P : List ℕ × MemberType → Type 0 = IsOwnNumber clocks in
      let without : (t : IntType) → IsPlainUnsigned t → IsMappedTo clocks t = λ t u. mapped_without_clock clocks t u.1 in
      let timed : (t : IntType) → IsTimestamp s.default_clock t → IsMappedTo clocks t = λ t u. mapped_to_default t u.3 in
      all_context P s.context
      (own_number (codes "packet_size") s.context.packet_size packet_size_named refl h.packet_size.0 (without s.context.packet_size h.packet_size))
      (own_number (codes "content_size") s.context.content_size content_size_named refl h.content_size.0 (without s.context.content_size h.content_size))
      (all_optional P s.context (λ t e. own_number (codes "timestamp_begin") t timestamp_begin_named refl (h.timestamp_begin t e).0 (timed t (h.timestamp_begin t e)))
      (all_end P s.context (λ t e. own_number (codes "timestamp_end") t timestamp_end_named refl (h.timestamp_end t e).0 (timed t (h.timestamp_end t e)))
      (all_late P s.context (λ t e. own_number (codes "events_discarded") t events_discarded_named refl (h.events_discarded t e).0 (without t (h.events_discarded t e)))
      (λ t e. own_number (codes "packet_seq_num") t packet_seq_num_named refl (h.packet_seq_num t e).0 (without t (h.packet_seq_num t e))))))

  -- the context's members: the numbers as they are, then the extra members as a reader sees them
  numbers : List (List ℕ × MemberType)
  numbers = context_numbers s.context

  shown_extras : List (List ℕ × MemberType)
  shown_extras = shown_members (0 + length (shown_members 0 numbers)) s.extras.members

  numbers_are_plain : All (λ m. IsPlain m.1) numbers
  unfolding numbers
  numbers_are_plain = All-weaker (IsOwnNumber clocks) (λ (m : List ℕ × MemberType). IsPlain m.1) (λ m x. x.own.plain) numbers numbers_are_own

  context_members : numbers ++ shown_extras ≡ shown_members 0 (numbers ++ s.extras.members)
  unfolding shown_extras
  context_members = sym (shown_members-append 0 numbers s.extras.members ∙ ap (λ l. l ++ shown_extras) (shown_members-plain 0 numbers numbers_are_plain))

  shown_extras_are_other : All IsOther shown_extras
  unfolding shown_extras
  shown_extras_are_other =
      members_from_names (λ name. list_any (bytes_eq name) own_names ≡ false) shown_extras
      (subst (All (λ name. list_any (bytes_eq name) own_names ≡ false)) (shown_names_anywhere 0 (0 + length (shown_members 0 numbers)) s.extras.members) h.no_own_name)

  context_showable : AreShowable clocks (numbers ++ s.extras.members)
  unfolding numbers
  context_showable =
      let P : List ℕ × MemberType → Type 0 = λ m. IsShowable clocks m.1 in
      All-append P numbers s.extras.members (All-weaker (IsOwnNumber clocks) P (λ m x. x.own.showable) numbers numbers_are_own) (all_showable_of_config clocks s.extras.members h.extras)

  context_names : All IsMetadataName (names_in (numbers ++ shown_extras))
  unfolding numbers shown_extras
  context_names =
      let P : List ℕ × MemberType → Type 0 = λ m. IsMetadataName m.0 in
      All-map IsMetadataName (λ (m : List ℕ × MemberType). m.0) (numbers ++ shown_extras)
      (All-append P numbers shown_extras (All-weaker (IsOwnNumber clocks) P (λ m x. x.own.named) numbers numbers_are_own)
      (members_from_names IsMetadataName shown_extras (shown_names (0 + length (shown_members 0 numbers)) s.extras.members h.extras.names)))

  context_names_distinct : IsDistinct bytes_eq (names_in (numbers ++ shown_extras))
  unfolding numbers shown_extras
  context_names_distinct =
      distinct_join numbers shown_extras
      (All-weaker (IsOwnNumber clocks) (λ (m : List ℕ × MemberType). All (IsApart m.0) shown_extras)
      (λ m x. All-weaker IsOther (IsApart m.0) (λ k g. own_is_not_other m k x.listed g) shown_extras shown_extras_are_other) numbers numbers_are_own)
      (context_distinct s.context)
      (subst (IsDistinct bytes_eq) (shown_names_anywhere 0 (0 + length (shown_members 0 numbers)) s.extras.members) h.extras.distinct)

  context_is_small : length (numbers ++ shown_extras) ≤ 1024
  unfolding numbers shown_extras
  context_is_small =
      omega (arith, length-append numbers shown_extras, context_few s.context, length-shown_members-le (0 + length (shown_members 0 numbers)) s.extras.members, h.extras.few)

  context_is_allowed : IsStruct clocks (context_of s)
  unfolding context_of numbers
  context_is_allowed =
      own_struct_is_allowed clocks (shown_members 0 (numbers ++ s.extras.members)) (members_are_allowed clocks 0 [] (numbers ++ s.extras.members) refl context_showable)
      (subst (λ (l : List (List ℕ × MemberType)). All IsMetadataName (names_in l)) context_members context_names)
      (subst (λ (l : List (List ℕ × MemberType)). IsDistinct bytes_eq (names_in l)) context_members context_names_distinct)
      (subst (λ (l : List (List ℕ × MemberType)). length l ≤ 1024) context_members context_is_small)

  -- what holds of the numbers and the shown extra members holds of the context's members
  in_context : (Q : List (List ℕ × MemberType) → Type 0) → Q (numbers ++ shown_extras) → Q (context_of s).members
  unfolding context_of numbers
  in_context Q g = subst Q (sym (struct_with-members (shown_members 0 (numbers ++ s.extras.members)))) (subst Q context_members g)

  own_are_unsigned_is_allowed : All (λ m. IsTrue (list_any (bytes_eq m.0) own_names) → IsUnsigned m.1) (context_of s).members
  unfolding numbers
  own_are_unsigned_is_allowed =
      let P : List ℕ × MemberType → Type 0 = λ m. IsTrue (list_any (bytes_eq m.0) own_names) → IsUnsigned m.1 in
      in_context (All P)
      (All-append P numbers shown_extras (All-weaker (IsOwnNumber clocks) P (λ m x y. x.unsigned) numbers numbers_are_own)
      (All-weaker IsOther P (λ m x y. absurd (false≢true (sym x ∙ y))) shown_extras shown_extras_are_other))

  packet_size_is_there : Contains (names_in (context_of s).members) (codes "packet_size")
  unfolding numbers
  packet_size_is_there =
      in_context (λ l. Contains (names_in l) (codes "packet_size"))
      (subst (λ (l : List (List ℕ × MemberType)). Contains (names_in (l ++ shown_extras)) (codes "packet_size")) (context_numbers-list s.context) (0, omega arith, refl))

  content_size_is_there : Contains (names_in (context_of s).members) (codes "content_size")
  unfolding numbers
  content_size_is_there =
      in_context (λ l. Contains (names_in l) (codes "content_size"))
      (subst (λ (l : List (List ℕ × MemberType)). Contains (names_in (l ++ shown_extras)) (codes "content_size")) (context_numbers-list s.context) (1, omega arith, refl))

  event_header_own : All (IsOwnMember clocks) (event_header_members s.event_header)
  event_header_own =
      all_event_header (IsOwnMember clocks) s.event_header (λ t e. number_is_own clocks (codes "id") t id_named (mapped_without_clock clocks t (h.id t e).1))
      (λ t e. number_is_own clocks (codes "timestamp") t timestamp_named (mapped_to_default t (h.timestamp t e).4))

  event_header_is_allowed : IsStruct clocks (event_header_of s)
  unfolding event_header_of
  event_header_is_allowed =
      own_struct_is_allowed clocks (event_header_members s.event_header) (own_members_are_allowed clocks (event_header_members s.event_header) event_header_own)
      (own_names_are_allowed clocks (event_header_members s.event_header) event_header_own) (event_header_distinct s.event_header) (event_header_few s.event_header)

  id_is_allowed : Where (codes "id") IsUnsigned (event_header_of s).members
  unfolding event_header_of
  id_is_allowed =
      let P : List ℕ × MemberType → Type 0 = λ m. bytes_eq m.0 (codes "id") ≡ true → IsUnsigned m.1 in
      all_in_struct_with P (event_header_members s.event_header) (all_event_header P s.event_header (λ t e n. (h.id t e).0) (λ t e n. absurd (false≢true n)))

  events_are_allowed : (n : ℕ) (es : List EventType) → All (IsEventType s) es → All (IsEvent clocks) (events_of n es)
  unfolding events_of event_of
  events_are_allowed n [] g = All-nil (IsEvent clocks)
  events_are_allowed n (e ∷ es) g =
      let x : IsEventType s e = All-head (IsEventType s) e es g in
      All-cons (IsEvent clocks) (event_of n e) (events_of (n + 1) es)
      (record { specific = struct_is_allowed clocks e.specific x.specific; fields = struct_is_allowed clocks e.payload x.payload })
      (events_are_allowed (n + 1) es (All-tail (IsEventType s) e es g))

-- ---- numbers from 0 on

less : (n k : ℕ) → n < k → nat_cmp n k ≡ Less
less n k h = ap (λ b. cond b Less (cond (eqb n k) Equal Greater)) (lt-ltb n k h)

events_above : (n k : ℕ) (es : List EventType) → n < k → AllByRecursion (λ y. nat_cmp n y ≡ Less) (map (λ e. e.id) (events_of k es))
unfolding events_of event_of
events_above n k [] h = tt
events_above n k (e ∷ es) h = (less n k h, events_above n (k + 1) es (omega arith))

events_rise : (n : ℕ) (es : List EventType) → IsStrictlySortedBy nat_cmp (map (λ e. e.id) (events_of n es))
unfolding events_of event_of IsStrictlySortedBy
events_rise n [] = tt
events_rise n (e ∷ es) = (events_above n (n + 1) es (omega arith), events_rise (n + 1) es)

streams_above : (n k : ℕ) (ss : List StreamType) → n < k → AllByRecursion (λ y. nat_cmp n y ≡ Less) (map (λ s. s.id) (streams_of k ss))
unfolding streams_of stream_of
streams_above n k [] h = tt
streams_above n k (s ∷ ss) h = (less n k h, streams_above n (k + 1) ss (omega arith))

streams_rise : (n : ℕ) (ss : List StreamType) → IsStrictlySortedBy nat_cmp (map (λ s. s.id) (streams_of n ss))
unfolding streams_of stream_of IsStrictlySortedBy
streams_rise n [] = tt
streams_rise n (s ∷ ss) = (streams_above n (n + 1) ss (omega arith), streams_rise (n + 1) ss)

-- ---- the whole

stream_is_allowed : (clocks : List (List ℕ)) (n : ℕ) (s : StreamType) → IsStreamType clocks s → IsStream clocks (stream_of n s)
unfolding stream_of
stream_is_allowed clocks n s h = record {
  context = context_is_allowed clocks s h;
  event_header = event_header_is_allowed clocks s h;
  common = struct_is_allowed clocks s.common h.common;
  events = events_are_allowed clocks s h 0 s.events h.events;
  event_numbers_rise = events_rise 0 s.events;
  own_are_unsigned = own_are_unsigned_is_allowed clocks s h;
  packet_size = packet_size_is_there clocks s h;
  content_size = content_size_is_there clocks s h;
  id = id_is_allowed clocks s h;
}

streams_are_allowed : (clocks : List (List ℕ)) (n : ℕ) (ss : List StreamType) → All (IsStreamType clocks) ss → All (IsStream clocks) (streams_of n ss)
unfolding streams_of
streams_are_allowed clocks n [] h = All-nil (IsStream clocks)
streams_are_allowed clocks n (s ∷ ss) h =
    All-cons (IsStream clocks) (stream_of n s) (streams_of (n + 1) ss) (stream_is_allowed clocks n s (All-head (IsStreamType clocks) s ss h))
    (streams_are_allowed clocks (n + 1) ss (All-tail (IsStreamType clocks) s ss h))

pub metadata_is_allowed : (c : Config) → IsConfig c → IsMetadata (metadata_of c)
unfolding metadata_of clocks
metadata_is_allowed c h = record {
  environment_names = All-weaker IsPlainName IsMetadataName metadata_name_of_plain (map (λ e. e.name) c.environment) h.environment_names;
  environment_distinct = distinct_from_order (map (λ e. e.name) c.environment) h.environment_in_order;
  environment_few = h.environment_few;
  clocks_distinct = distinct_from_order (map (λ k. k.name) c.clocks) h.clocks_in_order;
  header = header_is_allowed c h;
  magic = magic_is_allowed c h;
  uuid = uuid_is_allowed c h;
  stream_id = stream_id_is_allowed c h;
  streams = streams_are_allowed (map (λ k. k.name) c.clocks) 0 c.streams h.streams;
  stream_numbers_rise = streams_rise 0 c.streams;
}
