-- What each rule over the whole of a configuration says: where it passes, what the configuration keeps, and where it refuses, how
-- the flaw breaks it. And that a configuration which keeps the rules breaks none of them.
use Rattle.std.proofs.Common.{◌≡◌, ◌≢◌, ◌⊎◌, inl, inr, ℕ, zero, suc, ◌<◌, ◌≤◌, ◌-◌, ◌^◌, ◌&&◌, ◌||◌, Bool, true, false, List, [], ◌∷◌, length, map, Contains, Decides, IfSome, IsSome, Option, Some, None, is_some, is_none, Result, Ok, Err, refl, sym, ap, subst, ◌∙◌, arith, bytes_eq}
use Rattle.std.specs.Prelude.{codes, nat_le, nat_lt, ◌==◌, if◌then◌else◌, ⊤}
use Rattle.std.specs.List.{All, AllByRecursion, list_all, list_any}
use Rattle.std.specs.Option.{option_map_or}
use Rattle.std.proofs.Math.Bool.{or_assoc}
use Rattle.std.proofs.Math.Numerals.{lt_of_le_of_ne}
use Rattle.std.proofs.lemmas.Bool.{eqb-true, eqb-false, leb-true, leb-false, true≢false, false≢true, or_cases}
use Rattle.std.proofs.lemmas.Bool.Decides.{Decides-eqb, Decides-ltb, Decides-or, Decides-at, Decides-by_and, not_from_Decides}
use Rattle.std.proofs.lemmas.List.Elements.{All-contains, All-from_recursion}
use Rattle.std.proofs.lemmas.List.Folds.{Any-from_list_any, list_any-from_Any}
use Rattle.std.proofs.lemmas.Option.{MatchOption-at_some}
use Rattle.std.proofs.lemmas.Slice.Eq.{bytes_eq-Decides}
use Rattle.serde_json.specs.Data.{Data}
use Rattle.ctf_types.specs.AllowedConfig.{HoldsUpTo, MemberHasBits, StructHasBits}
use Rattle.ctf_types.specs.FieldTypes.{chain_of}
use Rattle.ctf_types.specs.declared.ClockType.{ClockType}
use Rattle.ctf_types.specs.declared.EventType.{EventType}
use Rattle.ctf_types.specs.declared.StreamType.{StreamType}
use Rattle.ctf_types.specs.declared.IntType.{IntType}
use Rattle.ctf_types.specs.declared.MemberType.{MemberType}
use Rattle.ctf_types.specs.declared.MemberType.TheVariants.{Plain, Dyn}
use Rattle.ctf_types.specs.declared.StructType.{StructType}
use Rattle.conf_tree.specs.declared.fault_kind.FaultKind.TheVariants.{FieldTooSmall, ZeroSizeRecord, NoClock, NoUuid, TimestampSize}
use Rattle.conf_tree.specs.Flaw.{Flaw, Place, key, here, within}
use Rattle.conf_tree.specs.Reading.{at, ◌>>=◌}
use Rattle.conf_tree.specs.Walk.{refusal}
use Rattle.conf_judge.specs.Limits.{configuration_limits}
use Rattle.conf_draft.specs.declared.draft.Draft.{Draft}
use Rattle.conf_laws.specs.Rules.{RecordHasBits, KeepsRules, KeepsStreamRules}
use Rattle.conf_laws.proofs.Readings.{some_there}
use Rattle.conf_laws.proofs.TableLimitLaws.{refused_told}
use Rattle.conf_check.specs.declared.stream_rule.StreamRule.{StreamRule}
use Rattle.conf_check.specs.declared.stream_rule.StreamRule.TheVariants.{NumbersFit, RecordsHaveBits, ClocksAreThere, TimestampsAreSized}
use Rattle.conf_check.specs.declared.stream_rule.Timestamp.{Timestamp}
use Rattle.conf_check.specs.declared.stream_rule.Timestamp.TheVariants.{Record, Beginning, End}
use Rattle.conf_check.specs.FirstFlaw.{IsFlawOfWhole}
use Rattle.conf_check.specs.Judgement.{header_flaw, stream_number_fits, number_given, identifier_given, one_order, whole}
use Rattle.conf_check.specs.StreamRules.{feature_flaw, unless, each, holds, numbers_fit, member_has_bits, struct_has_bits, header_has_bits, record_has_bits, records_have_bits, clock_is_there, field_of, timestamp_flaw, timestamps, timestamp_is, is_clocked, clocks_are_there, is_sized, timestamps_sized, judged, streams_judged}
use Rattle.conf_check.specs.WholeFlaws.{in_stream, IsTimestampOf, of_record, of_beginning, of_end, BreaksRule, stream_number, event_number, no_bits, no_such_clock, no_clock, no_number, no_identifier, two_orders, packet_timestamp, record_timestamp, no_beginning}

-- ---- what the tests decide

pub holds_decides : (n : ℕ) (f : Option IntType) → Decides (holds n f) (HoldsUpTo n f)
unfolding holds
holds_decides n None = Decides-eqb n 0
holds_decides n (Some t) = Decides-ltb n (2 ^ t.size)

member_decides : (m : MemberType) → Decides (member_has_bits m) (MemberHasBits m)
unfolding member_has_bits
member_decides (Plain t) = Decides-by_and (λ n. nat_lt 0 n) (λ n. 0 < n) (list_all (λ n. nat_lt 0 n)) (λ n. Decides-ltb 0 n) refl (λ n ns. refl) (chain_of t).lengths
member_decides (Dyn t l) = (λ e. tt, λ h. refl)

struct_decides : (s : StructType) → Decides (struct_has_bits s) (StructHasBits s)
unfolding struct_has_bits
struct_decides s = (
  λ e. let one = Any-from_list_any (λ (m : List ℕ × MemberType). member_has_bits m.1) s.members e in (one.1, (one.0, one.2, one.3), (member_decides one.1.1).0 one.4),
  λ h. list_any-from_Any (λ (m : List ℕ × MemberType). member_has_bits m.1) s.members (h.1.0, h.0, h.1.1, h.1.2, (member_decides h.0.1).1 h.2),
)

pub record_decides : (s : StreamType) (e : EventType) → Decides (header_has_bits s || struct_has_bits e.specific || struct_has_bits e.payload) (RecordHasBits s e)
unfolding header_has_bits
record_decides s e =
    let id = is_some s.event_header.id in
    let timestamp = is_some s.event_header.timestamp in
    let common = struct_has_bits s.common in
    let specific = struct_has_bits e.specific in
    let payload = struct_has_bits e.payload in
    Decides-at (id || timestamp || common || specific || payload) (id || (timestamp || (common || (specific || payload))))
    (or_assoc (id || timestamp || common) specific payload ∙ or_assoc (id || timestamp) common (specific || payload) ∙ or_assoc id timestamp (common || (specific || payload)))
    (Decides-or id (timestamp || (common || (specific || payload))) (λ h. h, λ h. h)
    (Decides-or timestamp (common || (specific || payload)) (λ h. h, λ h. h)
    (Decides-or common (specific || payload) (struct_decides s.common) (Decides-or specific payload (struct_decides e.specific) (struct_decides e.payload)))))

-- a name that a clock type has, and one that none has
pub clock_named : (clocks : List ClockType) (name : List ℕ) → list_any (λ (c : ClockType). bytes_eq c.name name) clocks ≡ true → Contains (map (λ c. c.name) clocks) name
clock_named [] name e = absurd cc
clock_named (c ∷ cs) name e = elim (or_cases (bytes_eq c.name name) (list_any (λ (x : ClockType). bytes_eq x.name name) cs) e) [
  | inl is ↦ (0, omega arith, (bytes_eq-Decides c.name name).0 is)
  | inr others ↦ let there = clock_named cs name others in (suc there.0, omega (arith, there.1), there.2)
]

pub not_named : (clocks : List ClockType) (name : List ℕ) → list_any (λ (c : ClockType). bytes_eq c.name name) clocks ≡ false → (c : ClockType) → Contains clocks c → c.name ≢ name
not_named clocks name e c (k, below, is) same = false≢true (sym e ∙ list_any-from_Any (λ (x : ClockType). bytes_eq x.name name) clocks (k, c, below, is, (bytes_eq-Decides c.name name).1 same))

-- ---- what an answer says: what is kept where it passes, and what its flaw breaks

abbrev pub Says : Result ⊤ Flaw → Type 0 → (Flaw → Type 0) → Type 0
Says r Keeps Breaks = ((r ≡ Ok tt) × Keeps) ⊎ ((flaw : Flaw) × (r ≡ Err flaw) × Breaks flaw)

pub refused : {B : Flaw → Type 0} (b : Bool) (flaw : Flaw) → (b ≡ true → B flaw) → Says (if b then Err flaw else Ok tt) (b ≡ false) B
refused true flaw fails = inr (flaw, refl, fails refl)
refused false flaw fails = inl (refl, refl)

as_it_is : {B : Flaw → Type 0} (r : Result ⊤ Flaw) → ((flaw : Flaw) → r ≡ Err flaw → B flaw) → Says r (r ≡ Ok tt) B
as_it_is (Ok x) fails = inl (refl, refl)
as_it_is (Err flaw) fails = inr (flaw, refl, fails flaw refl)

module _ {P : Type 0} {B : Flaw → Type 0} where
  pub tested : (b : Bool) (flaw : Flaw) → (b ≡ true → P) → (b ≡ false → B flaw) → Says (unless b flaw) P B
  tested true flaw passes fails = inl (refl, passes refl)
  tested false flaw passes fails = inr (flaw, refl, fails refl)

  pub inside : (place : Place) (r : Result ⊤ Flaw) → Says r P (λ flaw. B (within place flaw)) → Says (at place r) P B
  inside place r (inl (e, kept)) = inl (rw e refl, kept)
  inside place r (inr (flaw, e, broken)) = inr (within place flaw, rw e refl, broken)

  kept_as : {Q : Type 0} (r : Result ⊤ Flaw) → Says r P B → (P → Q) → Says r Q B
  kept_as r (inl (e, kept)) f = inl (e, f kept)
  kept_as r (inr broken) f = inr broken

  next : {Q : Type 0} (r s : Result ⊤ Flaw) → Says r P B → (P → Says s Q B) → Says (r >>= (λ _. s)) Q B
  next r s (inl (e, kept)) rest = rw e (rest kept)
  next r s (inr (flaw, e, broken)) rest = inr (flaw, rw e refl, broken)

every : {A : Type 0} {B : Flaw → Type 0} (P : A → Type 0) (rule : A → Result ⊤ Flaw) (xs : List A) → ((x : A) → Contains xs x → Says (rule x) (P x) B) → Says (each rule xs) (AllByRecursion P xs) B
every P rule [] says = inl (refl, tt)
every P rule (x ∷ xs) says =
    next (rule x) (each rule xs) (says x (0, omega arith, refl)) (λ first.
    kept_as (each rule xs) (every P rule xs (λ y among. says y (suc among.0, omega (arith, among.1), among.2))) (λ others. (first, others)))

-- ---- one data stream type

-- what is wrong with the whole
abbrev pub Wrong : Data → Draft → Flaw → Type 0
Wrong d draft flaw = IsFlawOfWhole d draft flaw

abbrev pub HasSize : StreamType → Timestamp → IntType → Type 0
HasSize s Record t = (8 ≤ t.size) × ((t.size ≡ 64) ⊎ IsSome s.context.timestamp_begin)
HasSize s _ t = t.size ≡ 64

-- what a data stream type keeps where a rule passes
abbrev Keeps : StreamRule → List ClockType → StreamType → Type 0
Keeps NumbersFit clocks s = HoldsUpTo (length s.events - 1) s.event_header.id
Keeps RecordsHaveBits clocks s = AllByRecursion (RecordHasBits s) s.events
Keeps ClocksAreThere clocks s = IfSome s.default_clock (Contains (map (λ c. c.name) clocks)) × AllByRecursion (λ t. IfSome (field_of s t) (λ i. IsSome s.default_clock)) timestamps
Keeps TimestampsAreSized clocks s = AllByRecursion (λ t. IfSome (field_of s t) (HasSize s t)) timestamps

module _ (d : Data) (draft : Draft) (s : StreamType) (there : Contains draft.config.streams s) where
  abbrev Broken : Flaw → Type 0
  Broken flaw = Wrong d draft (in_stream s flaw)

  default_says : (clock : Option (List ℕ)) → s.default_clock ≡ clock
      → Says (unless (clock_is_there draft.config.clocks clock) (within (key (codes "$default-clock-type-name")) (here NoClock))) (IfSome clock (Contains (map (λ c. c.name) draft.config.clocks))) Broken
  unfolding clock_is_there
  default_says None is = inl (refl, tt)
  default_says (Some name) is =
      tested (list_any (λ (c : ClockType). bytes_eq c.name name) draft.config.clocks) (within (key (codes "$default-clock-type-name")) (here NoClock))
      (clock_named draft.config.clocks name) (λ e. inl (no_such_clock s name there is (not_named draft.config.clocks name e)))

  clock_says : (group name : List ℕ) (field : Option IntType) (clock : Option (List ℕ)) → IsTimestampOf s group name field → s.default_clock ≡ clock
      → Says (unless (is_some clock || is_none field) (feature_flaw group name NoClock)) (IfSome field (λ i. IsSome clock)) Broken
  clock_says group name None None of is = inl (refl, tt)
  clock_says group name None (Some c) of is = inl (refl, tt)
  clock_says group name (Some t) None of is = inr (feature_flaw group name NoClock, refl, inl (no_clock s group name (Some t) there of refl is))
  clock_says group name (Some t) (Some c) of is = inl (refl, refl)

  clocked : (timestamp : Timestamp) → Says (timestamp_is (is_clocked s) NoClock timestamp) (IfSome (field_of s timestamp) (λ i. IsSome s.default_clock)) Broken
  unfolding is_clocked field_of timestamp_flaw
  clocked Record = clock_says _ _ s.event_header.timestamp s.default_clock of_record refl
  clocked Beginning = clock_says _ _ s.context.timestamp_begin s.default_clock of_beginning refl
  clocked End = clock_says _ _ s.context.timestamp_end s.default_clock of_end refl

  packet_says : (name : List ℕ) (field : Option IntType) → IsTimestampOf s (codes "packet") name field
      → Says (unless (option_map_or (λ (t : IntType). t.size == 64) field true) (feature_flaw (codes "packet") name TimestampSize)) (IfSome field (λ t. t.size ≡ 64)) Broken
  packet_says name None of = inl (refl, tt)
  packet_says name (Some t) of =
      tested (t.size == 64) (feature_flaw (codes "packet") name TimestampSize) (eqb-true t.size 64) (λ e. inl (packet_timestamp s name (Some t) t there of refl (eqb-false t.size 64 e)))

  record_says : (field begin : Option IntType) → s.event_header.timestamp ≡ field → s.context.timestamp_begin ≡ begin
      → Says (unless (option_map_or (λ (t : IntType). if is_some begin then nat_le 8 t.size else t.size == 64) field true) (feature_flaw (codes "event-record") (codes "timestamp-field-type") TimestampSize))
      (IfSome field (λ t. (8 ≤ t.size) × ((t.size ≡ 64) ⊎ IsSome begin))) Broken
  record_says None begin on counted = inl (refl, tt)
  record_says (Some t) None on counted =
      tested (t.size == 64) (feature_flaw (codes "event-record") (codes "timestamp-field-type") TimestampSize)
      (λ e. let all = eqb-true t.size 64 e in (omega (arith, all), inl all)) (λ e. inl (no_beginning s t there on (lt_of_le_of_ne t.at_most_64 (eqb-false t.size 64 e)) counted))
  record_says (Some t) (Some b) on counted =
      tested (nat_le 8 t.size) (feature_flaw (codes "event-record") (codes "timestamp-field-type") TimestampSize)
      (λ e. (leb-true 8 t.size e, inr refl)) (λ e. inl (record_timestamp s t there on (leb-false 8 t.size e)))

  sized : (timestamp : Timestamp) → Says (timestamp_is (is_sized s) TimestampSize timestamp) (IfSome (field_of s timestamp) (HasSize s timestamp)) Broken
  unfolding is_sized field_of timestamp_flaw
  sized Record = record_says s.event_header.timestamp s.context.timestamp_begin refl refl
  sized Beginning = packet_says _ s.context.timestamp_begin of_beginning
  sized End = packet_says _ s.context.timestamp_end of_end

  stream_says : (rule : StreamRule) → Says (judged rule draft.config.clocks s) (Keeps rule draft.config.clocks s) Broken
  unfolding judged numbers_fit records_have_bits clocks_are_there timestamps_sized
  stream_says NumbersFit =
      let holding = holds_decides (length s.events - 1) s.event_header.id in
      tested (holds (length s.events - 1) s.event_header.id) (feature_flaw (codes "event-record") (codes "type-id-field-type") FieldTooSmall)
      holding.0 (λ e. inl (event_number s there (not_from_Decides _ holding e)))
  stream_says RecordsHaveBits =
      inside (key (codes "event-record-types")) (each (record_has_bits (header_has_bits s)) s.events) (every (RecordHasBits s) (record_has_bits (header_has_bits s)) s.events (λ e among.
      let bits = header_has_bits s || struct_has_bits e.specific || struct_has_bits e.payload in
      inside (key e.name) (unless bits (here ZeroSizeRecord))
      (tested bits (here ZeroSizeRecord) (record_decides s e).0 (λ lacks. inl (no_bits s e there among (not_from_Decides _ (record_decides s e) lacks))))))
  stream_says ClocksAreThere =
      next (unless (clock_is_there draft.config.clocks s.default_clock) (within (key (codes "$default-clock-type-name")) (here NoClock))) _ (default_says s.default_clock refl) (λ default.
      kept_as (each (timestamp_is (is_clocked s) NoClock) timestamps)
      (every (λ t. IfSome (field_of s t) (λ i. IsSome s.default_clock)) (timestamp_is (is_clocked s) NoClock) timestamps (λ t among. clocked t)) (λ clocks. (default, clocks)))
  stream_says TimestampsAreSized = every (λ t. IfSome (field_of s t) (HasSize s t)) (timestamp_is (is_sized s) TimestampSize) timestamps (λ t among. sized t)

kept_stream : (clocks : List ClockType) (s : StreamType) → Keeps NumbersFit clocks s → Keeps RecordsHaveBits clocks s → Keeps ClocksAreThere clocks s → Keeps TimestampsAreSized clocks s
    → KeepsStreamRules (map (λ c. c.name) clocks) s
unfolding field_of
kept_stream clocks s numbers bits clocked sized =
    let clock = λ (i : IntType). IsSome s.default_clock in
    record {
      default_clock = λ c is. MatchOption-at_some ⊤ (Contains (map (λ x. x.name) clocks)) c is clocked.0;
      timestamp_begin = λ t is. (MatchOption-at_some ⊤ (HasSize s Beginning) t is sized.1.0, MatchOption-at_some ⊤ clock t is clocked.1.1.0);
      timestamp_end = λ t is. (MatchOption-at_some ⊤ (HasSize s End) t is sized.1.1.0, MatchOption-at_some ⊤ clock t is clocked.1.1.1.0);
      timestamp = λ t is. let size = MatchOption-at_some ⊤ (HasSize s Record) t is sized.0 in (size.0, size.1, MatchOption-at_some ⊤ clock t is clocked.1.0);
      id_holds = numbers;
      has_bits = All-from_recursion (RecordHasBits s) s.events bits;
    }

-- ---- the whole

pub record Kept (d : Data) (draft : Draft) : Type 0 where
  pub rules : KeepsRules draft.config
  pub number_is_given : draft.lacks_number ≡ false
  pub has_one_order : draft.two_orders ≡ false
  pub within_limits : refusal (configuration_limits d) ≡ Ok tt

module _ (d : Data) (draft : Draft) where
  streams_say : (rule : StreamRule) → Says (streams_judged rule draft.config) (All (Keeps rule draft.config.clocks) draft.config.streams) (Wrong d draft)
  unfolding streams_judged
  streams_say rule =
      let c = draft.config in
      let one = λ (s : StreamType). at (key s.name) (judged rule c.clocks s) in
      inside (key (codes "trace")) (at (key (codes "type")) (at (key (codes "data-stream-types")) (each one c.streams)))
      (inside (key (codes "type")) (at (key (codes "data-stream-types")) (each one c.streams))
      (inside (key (codes "data-stream-types")) (each one c.streams)
      (kept_as (each one c.streams)
      (every (Keeps rule c.clocks) one c.streams (λ s there. inside (key s.name) (judged rule c.clocks s) (stream_says d draft s there rule))) (All-from_recursion (Keeps rule c.clocks) c.streams))))

  identifier_says : draft.lacks_number ≡ false → (field : Option IntType) (uuid : Option (List ℕ)) → draft.config.header.uuid ≡ field → draft.config.uuid ≡ uuid
      → Says (if is_some field && is_none uuid then Err (header_flaw (codes "uuid-field-type") NoUuid) else Ok tt) (IsSome field → IsSome uuid) (Wrong d draft)
  identifier_says given None uuid on is = inl (refl, λ none. absurd (false≢true none))
  identifier_says given (Some t) None on is = inr (header_flaw (codes "uuid-field-type") NoUuid, refl, inl (no_identifier given (ap is_some on) is))
  identifier_says given (Some t) (Some u) on is = inl (refl, λ there. refl)

  whole_says : Says (whole d draft) (Kept d draft) (Wrong d draft)
  unfolding whole stream_number_fits number_given identifier_given one_order
  whole_says =
      let c = draft.config in
      let holding = holds_decides (length c.streams - 1) c.header.stream_id in
      next (stream_number_fits c) _ (tested (holds (length c.streams - 1) c.header.stream_id) _ holding.0 (λ e. inl (stream_number (not_from_Decides _ holding e)))) (λ number.
      next (streams_judged NumbersFit c) _ (streams_say NumbersFit) (λ numbers.
      next (streams_judged RecordsHaveBits c) _ (streams_say RecordsHaveBits) (λ bits.
      next (streams_judged ClocksAreThere c) _ (streams_say ClocksAreThere) (λ clocks.
      next (number_given draft) _ (refused draft.lacks_number _ (λ e. inl (no_number e))) (λ given.
      next (identifier_given c) _ (identifier_says given c.header.uuid c.uuid refl refl) (λ identifier.
      next (refusal (configuration_limits d)) _ (as_it_is (refusal (configuration_limits d)) (λ flaw e. inr (refused_told d flaw e))) (λ limits.
      next (one_order draft) _ (refused draft.two_orders _ (λ e. inl (two_orders e))) (λ order.
      kept_as (streams_judged TimestampsAreSized c) (streams_say TimestampsAreSized) (λ sizes. record {
        rules = record {
          uuid_is_there = identifier;
          stream_id_holds = number;
          streams = λ i s lt. kept_stream c.clocks _ (numbers i s lt) (bits i s lt) (clocks i s lt) (sizes i s lt);
        };
        number_is_given = given;
        has_one_order = order;
        within_limits = limits;
      })))))))))

  pub kept : whole d draft ≡ Ok tt → Kept d draft
  kept e = elim whole_says [ inl (went, keeps) ↦ keeps | inr (flaw, refused, wrong) ↦ absurd cc ]

  pub rule_refused : (flaw : Flaw) → whole d draft ≡ Err flaw → Wrong d draft flaw
  rule_refused flaw e = elim whole_says [
    | inl (went, keeps) ↦ absurd cc
    | inr (other, refused, wrong) ↦ (let same : other ≡ flaw = cc in subst (Wrong d draft) same wrong)
  ]

-- ---- what keeps the rules breaks none of them

-- a name of the clock types is one's
pub clock_of : (clocks : List ClockType) (name : List ℕ) → Contains (map (λ c. c.name) clocks) name → (c : ClockType) × Contains clocks c × (c.name ≡ name)
clock_of [] name (k, among, is) = absurd (omega (arith, among))
clock_of (c ∷ cs) name (zero, among, is) = (c, (0, omega arith, refl), is)
clock_of (c ∷ cs) name (suc k, among, is) =
    let there = clock_of cs name (k, omega (arith, among), is) in
    (there.0, (suc there.1.0, omega (arith, there.1.1), there.1.2), there.2)

pub not_both : {A : Type 0} (o : Option A) → IsSome o → o ≡ None → ⊥
not_both o there none = true≢false (sym there ∙ ap is_some none)

module _ (d : Data) (draft : Draft) (h : Kept d draft) where
  keeps : (s : StreamType) → Contains draft.config.streams s → KeepsStreamRules (map (λ c. c.name) draft.config.clocks) s
  keeps s there = All-contains (KeepsStreamRules (map (λ c. c.name) draft.config.clocks)) draft.config.streams s h.rules.streams there

  has_clock : (s : StreamType) → Contains draft.config.streams s → (group name : List ℕ) (field : Option IntType) → IsTimestampOf s group name field → IsSome field → IsSome s.default_clock
  has_clock s there group name field of_record on = let t = some_there s.event_header.timestamp on in ((keeps s there).timestamp t.0 t.1).2
  has_clock s there group name field of_beginning on = let t = some_there s.context.timestamp_begin on in ((keeps s there).timestamp_begin t.0 t.1).1
  has_clock s there group name field of_end on = let t = some_there s.context.timestamp_end on in ((keeps s there).timestamp_end t.0 t.1).1

  -- a timestamp of a packet has 64 bits
  has_64_bits : (s : StreamType) → Contains draft.config.streams s → (group name : List ℕ) (field : Option IntType) (t : IntType) → group ≡ codes "packet" → IsTimestampOf s group name field → field ≡ Some t → t.size ≡ 64
  has_64_bits s there group name field t packet of_record is = absurd cc
  has_64_bits s there group name field t packet of_beginning is = ((keeps s there).timestamp_begin t is).0
  has_64_bits s there group name field t packet of_end is = ((keeps s there).timestamp_end t is).0

  pub rules_excluded : (flaw : Flaw) → ¬ BreaksRule draft flaw
  rules_excluded flaw (stream_number fails) = fails h.rules.stream_id_holds
  rules_excluded flaw (event_number s there fails) = fails (keeps s there).id_holds
  rules_excluded flaw (no_bits s e there has fails) = fails (All-contains (RecordHasBits s) s.events e (keeps s there).has_bits has)
  rules_excluded flaw (no_such_clock s name there is none) =
      let c = clock_of draft.config.clocks name ((keeps s there).default_clock name is) in
      none c.0 c.1 c.2
  rules_excluded flaw (no_clock s group name field there of on none) = not_both s.default_clock (has_clock s there group name field of on) none
  rules_excluded flaw (no_number lacks) = true≢false (sym lacks ∙ h.number_is_given)
  rules_excluded flaw (no_identifier given on none) = not_both draft.config.uuid (h.rules.uuid_is_there on) none
  rules_excluded flaw (two_orders two) = true≢false (sym two ∙ h.has_one_order)
  rules_excluded flaw (packet_timestamp s name field t there of is other) = other (has_64_bits s there (codes "packet") name field t refl of is)
  rules_excluded flaw (record_timestamp s t there is short) = let least = ((keeps s there).timestamp t is).0 in omega (arith, least, short)
  rules_excluded flaw (no_beginning s t there is short none) =
      elim ((keeps s there).timestamp t is).1 [ inl all ↦ omega (arith, short, all) | inr begins ↦ not_both s.context.timestamp_begin begins none ]
