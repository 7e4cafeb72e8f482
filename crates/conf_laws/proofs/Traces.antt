-- What a configuration says that has no flaw, from its features to the trace around them; and that what it says is what the rules allow,
-- where it also passes no limit, its names are in order, and it keeps the rules over the whole.
use Rattle.std.proofs.Common.{◌≡◌, ℕ, ◌&&◌, Bool, true, false, List, Option, Some, is_some, IsSome, refl, sym, ap, subst, ◌∙◌, append_assoc, pos, ◌<◌, ◌^◌, [], map, ◌∷◌, ◌++◌, Ok, arith, nat_le, codes, option_map, option_and_then, unwrap_or}
use Rattle.conf_laws.proofs.AllowedMaps.{IsMade, integer_says, config_name, AreAllowed, AreUnder, none_under, one_under, map_allowed, clocks_allowed, IsEnvironment, environment_allowed}
use Rattle.conf_laws.proofs.Numbers.{natural_is_in}
use Rattle.conf_laws.proofs.Readings.{byte_object, Says, some_same, mapped_says, same_natural, class_told, only_unsigned, only_static, optional_found, by_found}
use Rattle.conf_laws.proofs.Sound.{IsMapOf, TypeSound, type_sound, HasRow, RowsSound, needed_sound, optional_sound, ObjectSound, ContentSound, object_sound, content_sound, held_at, first_entry, needed_object, IsWithin, AreWithin, is_within, object_within, optional_within, entry_within, all_within, flaws_in, names_of, IsOwn}
use Rattle.conf_laws.proofs.Structures.{structure_says, extras_says}
use Rattle.conf_laws.proofs.Words.{MAX_EVENT_TYPES, MAX_STREAM_TYPES, nat_tests, is_passed, rows_of, Presence, admits_class, Place, At, Level, class_of, Known, inside, behind, nothing, natural_in, is_position, form_of, place_of_properties, own_place, shape_of, is_identifier, is_byte, is_unsigned_integer, is_number, is_eight, at_most, entries_of, key_of, key_by, itself_of, leaf_of, level, whole_from, member_flaws, configuration_flaws, configuration_limits, Ascends, All-map, IsStreamType, IsEventType, IsConfig, IsPlainName, ClockType, Draft, KeepsStreamRules, KeepsRules, RecordHasBits, optional, as_natural, Data, boolean, object, Members, no_members, members_len, get_member, member, as_object, and_parts, same_Some, append-nil, option_map_or, alignment_of, alignment, number_type, magic_type, byte_type, feature_of, feature, byte_of, identifier, is_on, of_trace, of_stream, size, mapped, timestamp, header, context, event_header, integer, size_of, default_align, integer_align as align_of, natural, object_at as object_named, properties, said_behind, word, OnlyIf, IsPlainUnsigned, ContextFeatures, EventFeatures, HeaderFeatures, IntType, environment, level_of, event_type, event_types, clock_of, stream_type, stream_types, clock_types, draft_with, draft_of_type, draft_of_trace, draft_of_root, draft_of, IsConfigName, Config, EnvironmentEntry, EventType, StreamType}
use Rattle.conf_laws.proofs.Words.places

-- ---- unsigned integers

-- a position where an unsigned integer alone may stand
abbrev IsUnsignedPlace : Place → Type 0
IsUnsignedPlace place = (is_position place ≡ true) × ((c : Place) → admits_class place c ≡ true → c ≡ places.UnsignedInteger)

unsigned_says : (k : Known) (place : Place) (ms : Members) (t : TypeSound k place ms) → t.class ≡ places.UnsignedInteger → Says (integer false ms) (IsMade (size_of ms) (align_of ms) false)
unfolding rows_of
unsigned_says k place ms t is = integer_says (inside t.class ms k) places.UnsignedInteger false ms (refl, refl) (subst (λ p. RowsSound (inside t.class ms k) p ms) is t.rows)

size_is : (ms : Members) (t : IntType) (n : ℕ) → IsMade (size_of ms) (align_of ms) false t → is_number (natural_in (codes "size") ms) n ≡ true → t.size ≡ n
unfolding size_of
size_is ms t n made is = grind (arith, nat_tests, same_natural (codes "size") ms, made, is)

-- ---- the type that a feature has: the one that it says itself, or its default

value_says : (P : IntType → Type 0) (of : Members → Option IntType) (b : Bool) (t : IntType) (o : Option Data) → P t → ((ms : Members) → o ≡ Some (object ms) → Says (of ms) P) → Says (feature_of of b t o) (λ x. OnlyIf x P)
value_says P of b t (Some (object ms)) h own = mapped_says P (λ x. OnlyIf x P) (λ x. Some x) (of ms) (λ x one y is. subst P (same_Some x y is) one) (own ms refl)
value_says P of b t (Some (boolean c)) h own = (_, refl, grind (arith, h))
value_says P of b t _ h own = (_, refl, grind (arith, h))

-- an unsigned integer of this clock, or of none
abbrev pub IsOfClock : Option (List ℕ) → IntType → Type 0
IsOfClock clock t = (t.signed ≡ false) × (t.clock ≡ clock)

mapped_only : (clock : Option (List ℕ)) (o : Option IntType) → OnlyIf o IsPlainUnsigned → OnlyIf (option_map (mapped clock) o) (IsOfClock clock)
unfolding mapped
mapped_only clock o plain = grind (arith, plain)

-- the features of an object
module _ (k : Known) (around : Place) (ms : Members) (f : member_flaws k around ms ≡ []) where
  -- where each object at a place says a type, so does the feature
  own_says : (P : IntType → Type 0) (place : Place) (name : List ℕ) (b : Bool) (t : IntType) (of : Members → Option IntType) → {presence : Presence} → HasRow around name presence (At place) → P t → ((own : Members) → ObjectSound k place own → Says (of own) P)
      → Says (feature_of of b t (optional name ms)) (λ x. OnlyIf x P)
  own_says P place name b t of row h each =
      value_says P of b t (optional name ms) h (λ own is. each own (object_sound k place own (optional_sound k around name (At place) ms (object own) row f is).value.inner))

  integer_feature : (P : IntType → Type 0) (place : Place) (name : List ℕ) (given : _) (t : IntType) → IsUnsignedPlace place → {presence : Presence} → HasRow around name presence (At place) → P t
      → ((own : Members) (x : IntType) → ObjectSound k place own → IsMade (size_of own) (align_of own) false x → P x) → Says (feature around name given t ms) (λ x. OnlyIf x P)
  unfolding feature
  integer_feature P place name given t at row h each = own_says P place name (is_on around name given) t (integer false) row h (λ own sound.
      let t = type_sound k place own at.0 sound in
      let x = unsigned_says k place own t (at.1 t.class t.may_stand) in
      (x.0, x.1, each own x.0 sound x.2))

  plain_feature : (place : Place) (name : List ℕ) (given : _) → IsUnsignedPlace place → {presence : Presence} → HasRow around name presence (At place) → Says (feature around name given number_type ms) (λ x. OnlyIf x IsPlainUnsigned)
  plain_feature place name given at row = integer_feature IsPlainUnsigned place name given number_type at row (refl, refl) (λ own x sound made. (made.sign_is, made.no_clock))

  size_says : (name : List ℕ) (given : _) → {presence : Presence} → HasRow around name presence (At places.SizeFeature) → Says (size around name given ms) IsPlainUnsigned
  unfolding size is_position admits_class
  size_says name given row =
      mapped_says (λ x. OnlyIf x IsPlainUnsigned) IsPlainUnsigned (λ t. unwrap_or t number_type) (feature around name given number_type ms) (λ o only. grind (arith, only)) (plain_feature places.SizeFeature name given (refl, only_unsigned) row)

  timestamp_says : (name : List ℕ) (clock : Option (List ℕ)) → {presence : Presence} → HasRow around name presence (At places.Feature) → Says (timestamp around name clock ms) (λ x. OnlyIf x (IsOfClock clock))
  unfolding timestamp is_position admits_class
  timestamp_says name clock row =
      mapped_says (λ x. OnlyIf x IsPlainUnsigned) (λ x. OnlyIf x (IsOfClock clock)) (option_map (mapped clock)) (feature around name (of_stream clock) number_type ms) (mapped_only clock) (plain_feature places.Feature name (of_stream clock) (refl, only_unsigned) row)

-- ---- an identifier

abbrev pub IsByte : IntType → Type 0
IsByte t = IsPlainUnsigned t × (t.size ≡ 8) × (t.align ≡ 8)

eight_aligned : (o : Option Data) (size : ℕ) → is_eight o ≡ true → size ≡ 8 → unwrap_or (option_and_then alignment_of (option_and_then as_natural o)) (default_align size) ≡ 8
eight_aligned o size e is = grind (arith, nat_tests, e, is)

byte_says : (k : Known) (ms : Members) → ContentSound k (At places.ElementType) (object ms) → is_byte (Some (object ms)) ≡ true → Says (integer false ms) IsByte
unfolding is_position align_of alignment natural
byte_says k ms h e =
    let t = type_sound k places.ElementType ms refl (object_sound k places.ElementType ms h.inner) in
    let p = and_parts (option_map_or is_unsigned_integer (class_of ms) false) (is_number (natural_in (codes "size") ms) 8 && is_eight (optional (codes "alignment") ms)) e in
    let q = and_parts (is_number (natural_in (codes "size") ms) 8) (is_eight (optional (codes "alignment") ms)) p.1 in
    let x = unsigned_says k places.ElementType ms t (same_Some t.class places.UnsignedInteger (sym t.is ∙ class_told is_unsigned_integer places.UnsignedInteger only_unsigned (class_of ms) p.0)) in
    let made = x.2 in
    let size = size_is ms x.0 8 made q.0 in
    (x.0, x.1, ((made.sign_is, made.no_clock), size, made.align_is ∙ eight_aligned (optional (codes "alignment") ms) (size_of ms) q.1 (sym made.size_is ∙ size)))

bytes_say : (k : Known) (ms : Members) → ObjectSound k places.IdentifierFeature ms → Says (byte_of ms) IsByte
unfolding is_position shape_of is_identifier byte_of object_named admits_class rows_of
bytes_say k ms h =
    let t = type_sound k places.IdentifierFeature ms refl h in
    let rows = subst (λ p. RowsSound (inside t.class ms k) p ms) (only_static t.class t.may_stand) t.rows in
    let (d, found, sound) = needed_sound (inside t.class ms k) places.StaticArray (codes "element-field-type") (At places.ElementType) ms (refl, refl) rows in
    let shaped = (and_parts (is_number (natural_in (codes "length") ms) 16) (is_byte (get_member (codes "element-field-type") ms)) (is_passed _ tt tt _ t.shape).0).1 in
    let (bs, same) = byte_object (get_member (codes "element-field-type") ms) shaped in
    let inner = subst (λ x. ContentSound (inside t.class ms k) (At places.ElementType) x) (some_same (get_member (codes "element-field-type") ms) d (object bs) found same) sound.value in
    subst (λ o. Says (option_and_then (integer false) (option_and_then as_object o)) IsByte) (sym (optional_found (codes "element-field-type") ms (object bs) same refl)) (byte_says (inside t.class ms k) bs inner (ap is_byte (sym same) ∙ shaped))

-- ---- the features of a trace, a packet and an event record

abbrev IsMagic : IntType → Type 0
IsMagic t = IsPlainUnsigned t × (t.size ≡ 32)

pub record IsHeader (f : HeaderFeatures) : Type 0 where
  pub magic : OnlyIf f.magic IsMagic
  pub uuid : OnlyIf f.uuid IsByte
  pub stream_id : OnlyIf f.stream_id IsPlainUnsigned

header_says : (k : Known) (has : Bool) (ms : Members) → member_flaws k places.TraceFeatures ms ≡ [] → Says (header has ms) IsHeader
unfolding header shape_of identifier rows_of is_position admits_class
header_says k has ms f =
    let magic = integer_feature k places.TraceFeatures ms f IsMagic places.MagicFeature (codes "magic-field-type") (of_trace has) magic_type (refl, only_unsigned) (refl, refl) ((refl, refl), refl) (λ own x sound made. ((made.sign_is, made.no_clock), size_is own x 32 made (is_passed _ tt tt _ sound.shape).0)) in
    let uuid = own_says k places.TraceFeatures ms f IsByte places.IdentifierFeature (codes "uuid-field-type") (is_on places.TraceFeatures (codes "uuid-field-type") (of_trace has)) byte_type byte_of (refl, refl) ((refl, refl), refl, refl) (bytes_say k) in
    let stream_id = plain_feature k places.TraceFeatures ms f places.Feature (codes "data-stream-type-id-field-type") (of_trace has) (refl, only_unsigned) (refl, refl) in
    (record { magic = magic.0; uuid = uuid.0; stream_id = stream_id.0 }, rw (magic.1, uuid.1, stream_id.1) refl, record { magic = magic.2; uuid = uuid.2; stream_id = stream_id.2 })

pub record IsContext (clock : Option (List ℕ)) (f : ContextFeatures) : Type 0 where
  pub packet_size : IsPlainUnsigned f.packet_size
  pub content_size : IsPlainUnsigned f.content_size
  pub timestamp_begin : OnlyIf f.timestamp_begin (IsOfClock clock)
  pub timestamp_end : OnlyIf f.timestamp_end (IsOfClock clock)
  pub events_discarded : OnlyIf f.events_discarded IsPlainUnsigned
  pub packet_seq_num : OnlyIf f.packet_seq_num IsPlainUnsigned

context_says : (k : Known) (clock : Option (List ℕ)) (ms : Members) → member_flaws k places.PacketFeatures ms ≡ [] → Says (context clock ms) (IsContext clock)
unfolding context rows_of is_position admits_class
context_says k clock ms f =
    let total = size_says k places.PacketFeatures ms f (codes "total-size-field-type") (of_stream clock) (refl, refl) in
    let content = size_says k places.PacketFeatures ms f (codes "content-size-field-type") (of_stream clock) (refl, refl) in
    let begin = timestamp_says k places.PacketFeatures ms f (codes "beginning-timestamp-field-type") clock (refl, refl) in
    let end = timestamp_says k places.PacketFeatures ms f (codes "end-timestamp-field-type") clock (refl, refl) in
    let discarded = plain_feature k places.PacketFeatures ms f places.Feature (codes "discarded-event-records-counter-snapshot-field-type") (of_stream clock) (refl, only_unsigned) (refl, refl) in
    let sequence = plain_feature k places.PacketFeatures ms f places.Feature (codes "sequence-number-field-type") (of_stream clock) (refl, only_unsigned) (refl, refl) in
    let said : ContextFeatures = record { packet_size = total.0; content_size = content.0; timestamp_begin = begin.0; timestamp_end = end.0; events_discarded = discarded.0; packet_seq_num = sequence.0 } in
    (said, rw (total.1, content.1, begin.1, end.1, discarded.1, sequence.1) refl, record { packet_size = total.2; content_size = content.2; timestamp_begin = begin.2; timestamp_end = end.2; events_discarded = discarded.2; packet_seq_num = sequence.2 })

pub record IsEventHeader (clock : Option (List ℕ)) (f : EventFeatures) : Type 0 where
  pub id : OnlyIf f.id IsPlainUnsigned
  pub timestamp : OnlyIf f.timestamp (IsOfClock clock)

event_header_says : (k : Known) (clock : Option (List ℕ)) (ms : Members) → member_flaws k places.EventRecordFeatures ms ≡ [] → Says (event_header clock ms) (IsEventHeader clock)
unfolding event_header rows_of is_position admits_class
event_header_says k clock ms f =
    let id = plain_feature k places.EventRecordFeatures ms f places.Feature (codes "type-id-field-type") (of_stream clock) (refl, only_unsigned) (refl, refl) in
    let timestamp = timestamp_says k places.EventRecordFeatures ms f (codes "timestamp-field-type") clock (refl, refl) in
    (record { id = id.0; timestamp = timestamp.0 }, rw (id.1, timestamp.1) refl, record { id = id.2; timestamp = timestamp.2 })

-- ---- maps of types

-- each entry of such a map, an object, is read as a type, which is put behind those that are done
module _ {A : Type 0} {place inner : Place} (named : A → List ℕ) (good : A → Type 0) (map : IsMapOf place (At inner)) (one : IsOwn inner) (all : IsOwn place) (most : ℕ) (of : Members → List ℕ → Members → Option A)
    (bounded : (n : ℕ) → at_most (entries_of place) n ≡ nat_le n most) (keeps : (d : Data) (k : Known) → (behind place d k).levels ≡ k.levels)
    (says : (k : Known) (name : List ℕ) (d : Data) (ms : Members) → key_of k place name d ≡ Ok tt → member_flaws k inner ms ≡ [] → Says (of k.levels name ms) (λ x. (named x ≡ name) × (AreWithin inner ms → good x))) where
  -- from here on, behind those that are done
  types_say : (levels : Members) (k : Known) → k.levels ≡ levels → (ms : Members) (done : List A) → member_flaws k place ms ≡ []
      → Says (said_behind (of levels) done ms) (λ xs. (ys : List A) × (done ++ ys ≡ xs) × (AreWithin place ms → AreUnder named good (names_of ms) ys))
  types_say levels k is no_members done f = (done, refl, ([], append-nil done, λ own. none_under named good))
  types_say levels k is (member name d ms) done f =
      let first = first_entry k place name (At inner) d ms map f in
      let (ns, same, rows) = held_at k inner d one.0 first.0.value in
      let new = says k name d ns first.0.named (subst (λ j. member_flaws j inner ns ≡ []) (one.1 k ns) rows.flaws) in
      let rest = types_say levels (behind place d k) (keeps d k ∙ is) ms (done ++ new.0 ∷ []) first.1 in
      let x : A = new.0 in
      let ys = rest.2.0 in
      let good_here : AreWithin place (member name d ms) → AreUnder named good (name ∷ names_of ms) (x ∷ ys) = λ own.
      let within = entry_within place (At inner) map name d ms own in
      let inside = object_within inner inner ns (one.0 k d ns).1 (subst (λ y. IsWithin (At inner) y) same within.0) in
      one_under named good name (names_of ms) x ys new.2.0 (new.2.1 inside) (rest.2.2 within.2) in
      let said = ap (λ y. said_behind (of levels) done (member name y ms)) same ∙ ap (option_and_then (λ y. said_behind (of levels) (done ++ y ∷ []) ms)) (ap (λ l. of l name ns) (sym is) ∙ new.1) ∙ rest.1 in
      (rest.0, said, (x ∷ ys, sym (append_assoc done (x ∷ []) ys) ∙ rest.2.1, good_here))

  map_says : (k : Known) (around : Place) (name : List ℕ) {presence : Presence} → HasRow around name presence (At place) → (ms levels : Members) → k.levels ≡ levels → member_flaws k around ms ≡ [] → Says (said_behind (of levels) [] (properties name ms)) (λ xs. AreWithin around ms → AreAllowed named good most xs)
  map_says k around name row ms levels is f =
      let (xs, said, (ys, same, under)) = types_say levels k is (properties name ms) [] (flaws_in k around name row all ms f) in
      let few = bounded (members_len (properties name ms)) in
      (xs, said, λ h. let own = all_within around name row all.0 ms h in subst (AreAllowed named good most) same (map_allowed named good most (properties name ms) ys own.0.in_order (sym few ∙ own.1) (under own.0)))

-- ---- event record types

abbrev highest : ℕ
highest = 9223372036854775807

small : (d : Data) (n : ℕ) → whole_from (pos 0) (pos highest) d ≡ Ok tt → as_natural d ≡ Some n → n < 2 ^ 63
small d n judged is = let b = (natural_is_in 0 highest d n (omega arith) judged is).1 in omega (arith, b)

level_small : (levels : Members) (d : Data) (n : ℕ) → level levels (pos highest) d ≡ Ok tt → level_of levels (Some d) ≡ Some n → n < 2 ^ 63
unfolding level
level_small levels d n judged is = grind (arith, small, judged, is)

-- the rules allow an event record type, where its records have bits
abbrev IsGoodEvent : EventType → Type 0
IsGoodEvent e = (s : StreamType) → RecordHasBits s e → IsEventType s e

event_says : (k : Known) (name : List ℕ) (ms : Members) → IsConfigName name → member_flaws k places.EventType ms ≡ [] → Says (event_type k.levels name ms) (λ e. (e.name ≡ name) × (AreWithin places.EventType ms → IsGoodEvent e))
unfolding event_type rows_of itself_of leaf_of
event_says k name ms named f =
    let specific = structure_says k places.EventType (codes "specific-context-field-type") (refl, refl) ms f in
    let payload = structure_says k places.EventType (codes "payload-field-type") (refl, refl) ms f in
    let level = level_of k.levels (optional (codes "log-level") ms) in
    let small : (n : ℕ) → level ≡ Some n → n < 2 ^ 63 = λ n. by_found (λ (o : Option Data). level_of k.levels o ≡ Some n → n < 2 ^ 63) (optional (codes "log-level") ms)
    (λ none e. absurd cc) (λ d is e. level_small k.levels d n (optional_sound k places.EventType (codes "log-level") (Level (pos highest)) ms d (refl, refl) f is).value.itself e) in
    let said : EventType = record { name = name; log_level = level; specific = specific.0; payload = payload.0 } in
    (said, rw (specific.1, payload.1) refl, (refl, λ h s bits. record { name = named; log_level = small; specific = specific.2 h; payload = payload.2 h; has_bits = bits }))

abbrev pub AreGoodEvents : List EventType → Type 0
AreGoodEvents es = AreAllowed (λ (e : EventType). e.name) IsGoodEvent MAX_EVENT_TYPES es

events_say : (k : Known) (ms : Members) → member_flaws k places.StreamType ms ≡ [] → Says (event_types k.levels ms) (λ es. AreWithin places.StreamType ms → AreGoodEvents es)
unfolding event_types key_of key_by entries_of behind rows_of inside itself_of form_of place_of_properties is_position own_place
events_say k ms f =
    map_says (λ (e : EventType). e.name) IsGoodEvent (_, refl, refl, refl) (λ j d own. (refl, refl), λ j own. refl) (λ j d own. (refl, refl), λ j own. refl) MAX_EVENT_TYPES event_type (λ n. refl) (λ d j. refl) (λ j name d own judged flaws. event_says j name own (config_name name judged) flaws)
    k places.StreamType (codes "event-record-types") (refl, refl) ms k.levels refl f

-- ---- data stream types

-- the rules allow a data stream type, where it keeps the rules over the whole
abbrev IsGoodStream : StreamType → Type 0
IsGoodStream s = (clocks : List (List ℕ)) → KeepsStreamRules clocks s → IsStreamType clocks s

stream_says : (k : Known) (name : List ℕ) (ms : Members) → IsConfigName name → member_flaws k places.StreamType ms ≡ [] → Says (stream_type k.levels name ms) (λ s. (s.name ≡ name) × (AreWithin places.StreamType ms → IsGoodStream s))
unfolding stream_type rows_of inside itself_of form_of place_of_properties is_position own_place
stream_says k name ms named f =
    let features = properties (codes "$features") ms in
    let own = flaws_in k places.StreamType (codes "$features") (refl, refl) (λ j d own. (refl, refl), λ j own. refl) ms f in
    let context = context_says k (clock_of ms) (properties (codes "packet") features) (flaws_in k places.StreamFeatures (codes "packet") (refl, refl) (λ j d own. (refl, refl), λ j own. refl) features own) in
    let extras = extras_says k ms f in
    let header = event_header_says k (clock_of ms) (properties (codes "event-record") features) (flaws_in k places.StreamFeatures (codes "event-record") (refl, refl) (λ j d own. (refl, refl), λ j own. refl) features own) in
    let common = structure_says k places.StreamType (codes "event-record-common-context-field-type") (refl, refl) ms f in
    let events = events_say k ms f in
    let said : StreamType = record { name = name; default_clock = clock_of ms; context = context.0; extras = extras.0; event_header = header.0; common = common.0; events = events.0 } in
    let good : AreWithin places.StreamType ms → IsGoodStream said = λ h clocks rules.
    let packet = context.2 in let others = extras.2 h in let all = events.2 h in record {
      name = named;
      default_clock = rules.default_clock;
      packet_size = packet.packet_size;
      content_size = packet.content_size;
      timestamp_begin = λ t is. let a = packet.timestamp_begin t is in let b = rules.timestamp_begin t is in (a.0, b.0, b.1, a.1);
      timestamp_end = λ t is. let a = packet.timestamp_end t is in let b = rules.timestamp_end t is in (a.0, b.0, b.1, a.1);
      events_discarded = packet.events_discarded;
      packet_seq_num = packet.packet_seq_num;
      extras = others.members;
      extras_align = others.align;
      no_own_name = others.no_own_name;
      id = header.2.id;
      id_holds = rules.id_holds;
      timestamp = λ t is. let a = header.2.timestamp t is in let b = rules.timestamp t is in (a.0, b.0, b.1, b.2, a.1);
      common = common.2 h;
      events = λ i e at. all.each i e at said (rules.has_bits i e at);
      events_in_order = all.in_order;
      events_few = all.few;
    } in
    (said, rw (context.1, extras.1, header.1, common.1, events.1) refl, (refl, good))

abbrev pub AreGoodStreams : List StreamType → Type 0
AreGoodStreams ss = AreAllowed (λ (s : StreamType). s.name) IsGoodStream MAX_STREAM_TYPES ss

streams_say : (k : Known) (ms : Members) → k.levels ≡ properties (codes "$log-level-aliases") ms → member_flaws k places.TraceType ms ≡ [] → Says (stream_types ms) (λ ss. AreWithin places.TraceType ms → AreGoodStreams ss)
unfolding stream_types key_of key_by entries_of behind rows_of inside itself_of form_of place_of_properties is_position own_place
streams_say k ms levels f =
    map_says (λ (s : StreamType). s.name) IsGoodStream (_, refl, refl, refl) (λ j d own. (refl, refl), λ j own. refl) (λ j d own. (refl, refl), λ j own. refl) MAX_STREAM_TYPES stream_type (λ n. refl) (λ d j. refl) (λ j name d own judged flaws. stream_says j name own (config_name name judged) flaws)
    k places.TraceType (codes "data-stream-types") (refl, refl) ms (properties (codes "$log-level-aliases") ms) levels f

-- ---- the trace

-- the rules allow a configuration, where it keeps those over the whole
abbrev IsGoodConfig : Config → Type 0
IsGoodConfig c = KeepsRules c → IsConfig c

type_says : (k : Known) (given : Option (List ℕ)) (entries : List EnvironmentEntry) (ms : Members) → k.levels ≡ properties (codes "$log-level-aliases") ms → member_flaws k places.TraceType ms ≡ []
    → Says (draft_of_type given entries ms) (λ draft. IsEnvironment entries → AreWithin places.TraceType ms → IsGoodConfig draft.config)
unfolding draft_of_type rows_of inside itself_of form_of place_of_properties is_position own_place
type_says k given entries ms levels f =
    let header = header_says k (is_some (word (codes "uuid") ms)) (properties (codes "$features") ms) (flaws_in k places.TraceType (codes "$features") (refl, refl) (λ j d own. (refl, refl), λ j own. refl) ms f) in
    let streams = streams_say k ms levels f in (
      _,
      ap (λ a. draft_with given entries ms a (stream_types ms)) header.1 ∙ ap (draft_with given entries ms (Some header.0)) streams.1,
      λ env h rules. let clocks = clocks_allowed k ms f h in let all = streams.2 h in record {
        environment_names = All-map IsPlainName (λ e. e.name) entries (λ i e at. (env.each i e at).0);
        environment_values = λ i e at. (env.each i e at).1;
        environment_in_order = env.in_order;
        environment_few = env.few;
        clocks = clocks.each;
        clocks_in_order = clocks.in_order;
        clocks_few = clocks.few;
        magic = header.2.magic;
        uuid = header.2.uuid;
        uuid_is_there = rules.uuid_is_there;
        stream_id = header.2.stream_id;
        stream_id_holds = rules.stream_id_holds;
        streams = λ i s at. all.each i s at (map (λ (c : ClockType). c.name) (clock_types ms)) (rules.streams i s at);
        streams_in_order = all.in_order;
        streams_few = all.few;
      },
    )

trace_says : (k : Known) (given : Option (List ℕ)) (ms : Members) → RowsSound k places.Trace ms → Says (draft_of_trace given ms) (λ draft. AreWithin places.Trace ms → IsGoodConfig draft.config)
unfolding draft_of_trace inside properties object_named rows_of itself_of form_of place_of_properties is_position own_place
trace_says k given ms h =
    let t = needed_object k places.Trace places.TraceType (codes "type") ms (refl, refl) (λ j d os. (refl, refl)) h in
    let type = type_says (inside places.TraceType t.0 k) given (environment ms) t.0 (grind arith) t.2.flaws in
    (type.0, ap (option_and_then (draft_of_type given (environment ms))) t.1 ∙ type.1, λ good. type.2 (environment_allowed k ms h.flaws good) (object_within places.TraceType places.TraceType t.0 refl (optional_within places.Trace (codes "type") (At places.TraceType) (refl, refl) ms (object t.0) good (grind (arith, t.1)))))

root_says : (k : Known) (given : Option (List ℕ)) (ms : Members) → RowsSound k places.Root ms → Says (draft_of_root given ms) (λ draft. AreWithin places.Root ms → IsGoodConfig draft.config)
unfolding draft_of_root inside object_named rows_of itself_of form_of place_of_properties is_position own_place
root_says k given ms h =
    let t = needed_object k places.Root places.Trace (codes "trace") ms (refl, refl) (λ j d os. (refl, refl)) h in
    let trace = trace_says k given t.0 t.2 in
    (trace.0, ap (option_and_then (draft_of_trace given)) t.1 ∙ trace.1, λ good. trace.2 (object_within places.Trace places.Trace t.0 refl (optional_within places.Root (codes "trace") (At places.Trace) (refl, refl) ms (object t.0) good (grind (arith, t.1)))))

tree_says : (given : Option (List ℕ)) (d : Data) → configuration_flaws d ≡ [] → Says (draft_of given d) (λ draft. IsWithin (At places.Root) d → IsGoodConfig draft.config)
unfolding inside itself_of form_of place_of_properties is_position own_place
tree_says given d f =
    let (ms, same, rows) = held_at nothing places.Root d (λ j x ms. (refl, refl)) (content_sound nothing (At places.Root) d f) in
    let root = root_says nothing given ms rows in
    (root.0, ap (draft_of given) same ∙ root.1, λ good. root.2 (object_within places.Root places.Root ms refl (subst (λ x. IsWithin (At places.Root) x) same good)))

-- what has no flaw says something
pub tree_said : (given : Option (List ℕ)) (d : Data) → configuration_flaws d ≡ [] → IsSome (draft_of given d)
tree_said given d f = ap is_some (tree_says given d f).1

-- what also passes no limit and keeps the rules over the whole is allowed
pub draft_allowed : (given : Option (List ℕ)) (d : Data) (draft : Draft) → Ascends d → configuration_flaws d ≡ [] → configuration_limits d ≡ [] → draft_of given d ≡ Some draft → KeepsRules draft.config → IsConfig draft.config
draft_allowed given d draft ascends flaws limits e rules =
    let says = tree_says given d flaws in
    let same = some_same (draft_of given d) says.0 draft says.1 e in
    subst (λ (x : Draft). IsGoodConfig x.config) same (says.2 (is_within (At places.Root) d limits ascends)) rules
