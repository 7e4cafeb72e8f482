-- Each rule of the data stream types finds the first of its flaws, by place: of the parts of a list the earlier ones have theirs first, and
-- the data stream types and their event record types stand in byte order of their names.
use Rattle.std.proofs.Common.{◌≡◌, ◌≢◌, ◌⊎◌, inl, inr, ℕ, suc, ◌≤◌, ◌-◌, ◌||◌, true, List, [], ◌∷◌, length, Contains, Decides, IsSome, Option, Some, None, is_some, is_none, Result, Ok, Err, refl, sym, ap, subst, ◌∙◌, arith, bytes_eq, zero}
use Rattle.std.specs.Prelude.{codes, nat_le, ◌==◌, if◌then◌else◌, ⊤}
use Rattle.std.specs.List.{AllByRecursion, list_any}
use Rattle.std.specs.Option.{option_map_or}
use Rattle.std.proofs.lemmas.Bool.{eqb-true, leb-true}
use Rattle.std.proofs.lemmas.Bool.Decides.{Decides-eqb, nat_tests, not_from_Decides}
use Rattle.ctf_types.specs.AllowedConfig.{HoldsUpTo}
use Rattle.ctf_types.specs.declared.ClockType.{ClockType}
use Rattle.ctf_types.specs.declared.EventType.{EventType}
use Rattle.ctf_types.specs.declared.StreamType.{StreamType}
use Rattle.ctf_types.specs.declared.IntType.{IntType}
use Rattle.conf_tree.specs.declared.fault_kind.FaultKind.{FaultKind}
use Rattle.conf_tree.specs.declared.fault_kind.FaultKind.TheVariants.{FieldTooSmall, ZeroSizeRecord, NoClock, TimestampSize}
use Rattle.conf_tree.specs.Flaw.{Flaw, Place, key, here, within}
use Rattle.conf_tree.specs.Reading.{at, ◌>>=◌}
use Rattle.conf_laws.specs.FlawOrder.{OuterBefore, BeforeInWhole}
use Rattle.conf_laws.specs.Rules.{RecordHasBits}
use Rattle.conf_laws.proofs.Readings.{some_same}
use Rattle.conf_check.specs.declared.stream_rule.StreamRule.{StreamRule}
use Rattle.conf_check.specs.declared.stream_rule.StreamRule.TheVariants.{NumbersFit, RecordsHaveBits, ClocksAreThere, TimestampsAreSized}
use Rattle.conf_check.specs.declared.stream_rule.Timestamp.{Timestamp}
use Rattle.conf_check.specs.declared.stream_rule.Timestamp.TheVariants.{Record, Beginning, End}
use Rattle.conf_check.specs.StreamRules.{feature_flaw, unless, each, holds, numbers_fit, struct_has_bits, header_has_bits, record_has_bits, records_have_bits, clock_is_there, field_of, timestamp_flaw, timestamps, timestamp_is, is_clocked, clocks_are_there, tells_clock, is_sized, timestamps_sized, judged}
use Rattle.conf_laws.proofs.NamesInOrder.{AreAbove, NamesAscend, EventsAscend}
use Rattle.conf_check.proofs.RuleLaws.{holds_decides, record_decides, clock_named, not_named, clock_of, Says, HasSize, tested}

-- ---- answers that have the first of some flaws

abbrev pub IsSameOrBefore : Flaw → Flaw → Type 0
IsSameOrBefore f g = (f ≡ g) ⊎ BeforeInWhole f g

-- there is none of these flaws, or the answer is the first of them
abbrev pub Finds : Result ⊤ Flaw → (Flaw → Type 0) → Type 0
Finds r P = ((r ≡ Ok tt) × ((f : Flaw) → ¬ P f)) ⊎ ((flaw : Flaw) × (r ≡ Err flaw) × P flaw × ((f : Flaw) → P f → IsSameOrBefore flaw f))

-- where there is one at most
pub finds_one : {K : Type 0} (P : Flaw → Type 0) (r : Result ⊤ Flaw) → Says r K P → (K → (f : Flaw) → ¬ P f) → ((f g : Flaw) → P f → P g → f ≡ g) → Finds r P
finds_one P r (inl (e, kept)) clear alone = inl (e, clear kept)
finds_one P r (inr (flaw, e, broken)) clear alone = inr (flaw, e, broken, λ f wrong. inl (alone flaw f broken wrong))

-- one rule after the other
finds_next : (A B : Flaw → Type 0) (r s : Result ⊤ Flaw) → Finds r A → Finds s B → ((f g : Flaw) → A f → B g → BeforeInWhole f g) → Finds (r >>= (λ _. s)) (λ f. A f ⊎ B f)
finds_next A B r s (inl (e, none)) (inl (went, clear)) before = inl (rw e went, λ f wrong. elim wrong [ inl a ↦ none f a | inr b ↦ clear f b ])
finds_next A B r s (inl (e, none)) (inr (flaw, refused, broken, first)) before = inr (flaw, rw e refused, inr broken, λ f wrong. elim wrong [ inl a ↦ absurd (none f a) | inr b ↦ first f b ])
finds_next A B r s (inr (flaw, e, broken, first)) h before = inr (flaw, rw e refl, inl broken, λ f wrong. elim wrong [ inl a ↦ first f a | inr b ↦ inr (before flaw f broken b) ])

-- those of a part, seen from the whole
abbrev pub Inside : Place → (Flaw → Type 0) → Flaw → Type 0
Inside part A f = (g : Flaw) × (f ≡ within part g) × A g

same_within : (part : Place) (f g : Flaw) → IsSameOrBefore f g → IsSameOrBefore (within part f) (within part g)
same_within part f g (inl same) = inl (ap (within part) same)
same_within part f g (inr (inl kind)) = inr (inl kind)
same_within part f g (inr (inr (kind, place))) = inr (inr (kind, inr (refl, place)))

pub finds_inside : (part : Place) (A : Flaw → Type 0) (r : Result ⊤ Flaw) → Finds r A → Finds (at part r) (Inside part A)
finds_inside part A r (inl (e, none)) = inl (rw e refl, λ f wrong. none wrong.0 wrong.2)
finds_inside part A r (inr (flaw, e, broken, first)) =
    inr (within part flaw, rw e refl, (flaw, refl, broken), λ f wrong. subst (IsSameOrBefore (within part flaw)) (sym wrong.1) (same_within part flaw wrong.0 (first wrong.0 wrong.2)))

-- those of each of a list, of which the earlier ones have theirs before the later ones
abbrev pub OfEach : {A : Type 0} → (A → Flaw → Type 0) → List A → Flaw → Type 0
OfEach P [] f = ⊥
OfEach P (x ∷ xs) f = P x f ⊎ OfEach P xs f

abbrev pub InTurn : {A : Type 0} → (A → Flaw → Type 0) → List A → Type 0
InTurn P [] = Unit {0}
InTurn P (x ∷ xs) = ((f g : Flaw) → P x f → OfEach P xs g → BeforeInWhole f g) × InTurn P xs

pub finds_each : {A : Type 0} (P : A → Flaw → Type 0) (Q : A → Type 0) (rule : A → Result ⊤ Flaw) (xs : List A) → ((x : A) → Q x → Finds (rule x) (P x)) → AllByRecursion Q xs → InTurn P xs → Finds (each rule xs) (OfEach P xs)
finds_each P Q rule [] found all turn = inl (refl, λ f wrong. wrong)
finds_each P Q rule (x ∷ xs) found all turn = finds_next (P x) (OfEach P xs) (rule x) (each rule xs) (found x all.0) (finds_each P Q rule xs found all.1 turn.1) turn.0

-- one of a list has a flaw
pub of_each : {A : Type 0} (P : A → Flaw → Type 0) (xs : List A) (x : A) (f : Flaw) → Contains xs x → P x f → OfEach P xs f
of_each P [] x f (k, among, is) wrong = absurd (omega (arith, among))
of_each P (y ∷ ys) x f (zero, among, is) wrong = inl (subst (λ z. P z f) (sym is) wrong)
of_each P (y ∷ ys) x f (suc k, among, is) wrong = inr (of_each P ys x f (k, omega (arith, among), is) wrong)

pub any_kind : {A : Type 0} (P : A → Flaw → Type 0) (kind : FaultKind) (xs : List A) → ((x : A) (f : Flaw) → P x f → f.kind ≡ kind) → (f : Flaw) → OfEach P xs f → f.kind ≡ kind
any_kind P kind [] all f wrong = absurd wrong
any_kind P kind (x ∷ xs) all f (inl wrong) = all x f wrong
any_kind P kind (x ∷ xs) all f (inr later) = any_kind P kind xs all f later

-- by name: flaws of one kind, each within the part of its own name
module _ {A : Type 0} (named : A → List ℕ) (P : A → Flaw → Type 0) (kind : FaultKind) (kind_is : (x : A) (f : Flaw) → P x f → f.kind ≡ kind) where
  abbrev Named : A → Flaw → Type 0
  Named x = Inside (key (named x)) (P x)

  pub named_kind : (x : A) (f : Flaw) → Named x f → f.kind ≡ kind
  named_kind x f (g, is, wrong) = ap (λ (y : Flaw). y.kind) is ∙ kind_is x g wrong

  by_name : (x : A) (xs : List A) → AreAbove named (named x) xs → (f g : Flaw) → Named x f → OfEach Named xs g → BeforeInWhole f g
  by_name x [] above f g one other = absurd other
  by_name x (y ∷ ys) above f g (h, is, wrong) (inl (i, at_y, bad)) =
      inr (named_kind x f (h, is, wrong) ∙ sym (named_kind y g (i, at_y, bad)), subst (λ (z : Flaw). OuterBefore z.path g.path) (sym is) (subst (λ (z : Flaw). OuterBefore (key (named x) ∷ h.path) z.path) (sym at_y) (inl above.0)))
  by_name x (y ∷ ys) above f g one (inr later) = by_name x ys above.1 f g one later

  pub names_in_turn : (xs : List A) → NamesAscend named xs → InTurn Named xs
  names_in_turn [] ascend = tt
  names_in_turn (x ∷ xs) ascend = (by_name x xs ascend.0, names_in_turn xs ascend.1)

-- ---- timestamps

timestamp_kind : (t : Timestamp) (kind : FaultKind) → (timestamp_flaw t kind).kind ≡ kind
unfolding timestamp_flaw feature_flaw
timestamp_kind Record kind = refl
timestamp_kind Beginning kind = refl
timestamp_kind End kind = refl

module _ (kind : FaultKind) (P : Timestamp → Flaw → Type 0) (told : (t : Timestamp) (f : Flaw) → P t f → f ≡ timestamp_flaw t kind) where
  timestamp_before : (t u : Timestamp) (f g : Flaw) → BeforeInWhole (timestamp_flaw t kind) (timestamp_flaw u kind) → P t f → P u g → BeforeInWhole f g
  timestamp_before t u f g before one other = subst (λ x. BeforeInWhole x g) (sym (told t f one)) (subst (BeforeInWhole (timestamp_flaw t kind)) (sym (told u g other)) before)

  record_first : BeforeInWhole (timestamp_flaw Record kind) (timestamp_flaw Beginning kind) × BeforeInWhole (timestamp_flaw Record kind) (timestamp_flaw End kind)
  unfolding timestamp_flaw feature_flaw
  record_first = (inr (refl, inr (refl, inl refl)), inr (refl, inr (refl, inl refl)))

  beginning_next : BeforeInWhole (timestamp_flaw Beginning kind) (timestamp_flaw End kind)
  unfolding timestamp_flaw feature_flaw
  beginning_next = inr (refl, inr (refl, inr (refl, inl refl)))

  timestamps_in_turn : InTurn P timestamps
  timestamps_in_turn = (
    λ f g one other. elim other [
      | inl begin ↦ timestamp_before Record Beginning f g record_first.0 one begin
      | inr (inl end) ↦ timestamp_before Record End f g record_first.1 one end
      | inr (inr none) ↦ absurd none
    ],
    (λ f g one other. elim other [ inl end ↦ timestamp_before Beginning End f g beginning_next one end | inr none ↦ absurd none ], (λ f g one other. absurd other, tt)),
  )

default_apart : (t : Timestamp) → BeforeInWhole (within (key (codes "$default-clock-type-name")) (here NoClock)) (timestamp_flaw t NoClock)
unfolding timestamp_flaw feature_flaw
default_apart Record = inr (refl, inl refl)
default_apart Beginning = inr (refl, inl refl)
default_apart End = inr (refl, inl refl)

-- ---- the flaws of a data stream type, by rule

module _ (clocks : List ClockType) where
  abbrev NumberFlaw : StreamType → Flaw → Type 0
  NumberFlaw s f = (f ≡ feature_flaw (codes "event-record") (codes "type-id-field-type") FieldTooSmall) × ¬ HoldsUpTo (length s.events - 1) s.event_header.id

  abbrev pub NoBits : StreamType → EventType → Flaw → Type 0
  NoBits s e f = (f ≡ here ZeroSizeRecord) × ¬ RecordHasBits s e

  abbrev RecordFlaw : StreamType → Flaw → Type 0
  RecordFlaw s f = Inside (key (codes "event-record-types")) (OfEach (λ e. Inside (key e.name) (NoBits s e)) s.events) f

  abbrev DefaultFlaw : Option (List ℕ) → Flaw → Type 0
  DefaultFlaw clock f = (f ≡ within (key (codes "$default-clock-type-name")) (here NoClock)) × ((name : List ℕ) × (clock ≡ Some name) × ((c : ClockType) → Contains clocks c → c.name ≢ name))

  abbrev pub Unclocked : StreamType → Timestamp → Flaw → Type 0
  Unclocked s t f = (f ≡ timestamp_flaw t NoClock) × (IsSome (field_of s t) × (s.default_clock ≡ None))

  abbrev pub Unsized : StreamType → Timestamp → Flaw → Type 0
  Unsized s t f = (f ≡ timestamp_flaw t TimestampSize) × ((i : IntType) × (field_of s t ≡ Some i) × ¬ HasSize s t i)

  abbrev pub StreamFlaw : StreamRule → StreamType → Flaw → Type 0
  StreamFlaw NumbersFit s f = NumberFlaw s f
  StreamFlaw RecordsHaveBits s f = RecordFlaw s f
  StreamFlaw ClocksAreThere s f = DefaultFlaw s.default_clock f ⊎ OfEach (Unclocked s) timestamps f
  StreamFlaw TimestampsAreSized s f = OfEach (Unsized s) timestamps f

  abbrev pub kind_of : StreamRule → FaultKind
  kind_of NumbersFit = FieldTooSmall
  kind_of RecordsHaveBits = ZeroSizeRecord
  kind_of ClocksAreThere = NoClock
  kind_of TimestampsAreSized = TimestampSize

  pub stream_kind : (rule : StreamRule) (s : StreamType) (f : Flaw) → StreamFlaw rule s f → f.kind ≡ kind_of rule
  unfolding feature_flaw
  stream_kind NumbersFit s f (is, fails) = ap (λ (x : Flaw). x.kind) is
  stream_kind RecordsHaveBits s f (g, is, wrong) = ap (λ (x : Flaw). x.kind) is ∙ any_kind (λ e. Inside (key e.name) (NoBits s e)) ZeroSizeRecord s.events (λ e h (i, told, bad). ap (λ (x : Flaw). x.kind) told ∙ ap (λ (x : Flaw). x.kind) bad.0) g wrong
  stream_kind ClocksAreThere s f (inl (is, fails)) = ap (λ (x : Flaw). x.kind) is
  stream_kind ClocksAreThere s f (inr wrong) = any_kind (Unclocked s) NoClock timestamps (λ t h bad. ap (λ (x : Flaw). x.kind) bad.0 ∙ timestamp_kind t NoClock) f wrong
  stream_kind TimestampsAreSized s f wrong = any_kind (Unsized s) TimestampSize timestamps (λ t h bad. ap (λ (x : Flaw). x.kind) bad.0 ∙ timestamp_kind t TimestampSize) f wrong

  default_found : (clock : Option (List ℕ)) → Finds (unless (clock_is_there clocks clock) (within (key (codes "$default-clock-type-name")) (here NoClock))) (DefaultFlaw clock)
  unfolding clock_is_there
  default_found None = inl (refl, λ f wrong. let none = wrong.1.1 in absurd cc)
  default_found (Some name) =
      finds_one (DefaultFlaw (Some name)) (unless (list_any (λ (c : ClockType). bytes_eq c.name name) clocks) (within (key (codes "$default-clock-type-name")) (here NoClock)))
      (tested (list_any (λ (c : ClockType). bytes_eq c.name name) clocks) (within (key (codes "$default-clock-type-name")) (here NoClock)) (clock_named clocks name) (λ e. (refl, (name, refl, not_named clocks name e))))
      (λ there f wrong. let c = clock_of clocks name there in wrong.1.2 c.0 c.1 (c.2 ∙ some_same (Some name) name wrong.1.0 refl wrong.1.1)) (λ f g one other. one.0 ∙ sym other.0)

  clock_found : (flaw : Flaw) (field : Option IntType) (clock : Option (List ℕ)) → Finds (unless (is_some clock || is_none field) flaw) (λ f. (f ≡ flaw) × (IsSome field × (clock ≡ None)))
  clock_found flaw None None = inl (refl, λ f wrong. let on = wrong.1.0 in absurd cc)
  clock_found flaw (Some t) None = inr (flaw, refl, (refl, (refl, refl)), λ f wrong. inl (sym wrong.0))
  clock_found flaw None (Some c) = inl (refl, λ f wrong. let none = wrong.1.1 in absurd cc)
  clock_found flaw (Some t) (Some c) = inl (refl, λ f wrong. let none = wrong.1.1 in absurd cc)

  clocked_found : (s : StreamType) (t : Timestamp) → Finds (timestamp_is (is_clocked s) NoClock t) (Unclocked s t)
  unfolding is_clocked
  clocked_found s t = clock_found (timestamp_flaw t NoClock) (field_of s t) s.default_clock

  record_size : (begin : Option IntType) (i : IntType) → Decides (if is_some begin then nat_le 8 i.size else i.size == 64) ((8 ≤ i.size) × ((i.size ≡ 64) ⊎ IsSome begin))
  record_size None i = (λ e. let all = eqb-true i.size 64 e in (omega (arith, all), inl all), λ h. elim h.1 [ inl all ↦ (Decides-eqb i.size 64).1 all | inr on ↦ absurd cc ])
  record_size (Some b) i = (λ e. (leb-true 8 i.size e, inr refl), λ h. grind (arith, nat_tests, h))

  size_decides : (s : StreamType) (t : Timestamp) (i : IntType) → Decides (tells_clock s t i) (HasSize s t i)
  size_decides s Record i = record_size s.context.timestamp_begin i
  size_decides s Beginning i = Decides-eqb i.size 64
  size_decides s End i = Decides-eqb i.size 64

  size_found : (s : StreamType) (t : Timestamp) (flaw : Flaw) (field : Option IntType) → Finds (unless (option_map_or (tells_clock s t) field true) flaw) (λ f. (f ≡ flaw) × ((i : IntType) × (field ≡ Some i) × ¬ HasSize s t i))
  size_found s t flaw None = inl (refl, λ f wrong. let none = wrong.1.1 in absurd cc)
  size_found s t flaw (Some i) =
      let decides = size_decides s t i in
      finds_one (λ f. (f ≡ flaw) × ((j : IntType) × (Some i ≡ Some j) × ¬ HasSize s t j)) (unless (tells_clock s t i) flaw) (tested (tells_clock s t i) flaw decides.0 (λ e. (refl, (i, refl, not_from_Decides _ decides e))))
      (λ kept f wrong. wrong.1.2 (subst (HasSize s t) (some_same (Some i) i wrong.1.0 refl wrong.1.1) kept)) (λ f g one other. one.0 ∙ sym other.0)

  sized_found : (s : StreamType) (t : Timestamp) → Finds (timestamp_is (is_sized s) TimestampSize t) (Unsized s t)
  unfolding is_sized
  sized_found s t = size_found s t (timestamp_flaw t TimestampSize) (field_of s t)

  record_found : (s : StreamType) (e : EventType) → Finds (record_has_bits (header_has_bits s) e) (Inside (key e.name) (NoBits s e))
  record_found s e =
      let bits = header_has_bits s || struct_has_bits e.specific || struct_has_bits e.payload in
      finds_inside (key e.name) (NoBits s e) (unless bits (here ZeroSizeRecord))
      (finds_one (NoBits s e) (unless bits (here ZeroSizeRecord)) (tested bits (here ZeroSizeRecord) (record_decides s e).0 (λ lacks. (refl, not_from_Decides _ (record_decides s e) lacks))) (λ kept f wrong. wrong.1 kept) (λ f g one other. one.0 ∙ sym other.0))

  -- the name of the default clock stands before the features
  default_before : (f g : Flaw) (s : StreamType) → DefaultFlaw s.default_clock f → OfEach (Unclocked s) timestamps g → BeforeInWhole f g
  default_before f g s one other = elim other [
    | inl bad ↦ before Record bad
    | inr (inl bad) ↦ before Beginning bad
    | inr (inr (inl bad)) ↦ before End bad
    | inr (inr (inr none)) ↦ absurd none
  ]
    where
      before : (t : Timestamp) → Unclocked s t g → BeforeInWhole f g
      before t bad = subst (λ x. BeforeInWhole x g) (sym one.0) (subst (BeforeInWhole (within (key (codes "$default-clock-type-name")) (here NoClock))) (sym bad.0) (default_apart t))

  any_timestamp : AllByRecursion (λ (t : Timestamp). Unit {0}) timestamps
  any_timestamp = (tt, (tt, (tt, tt)))

  any_event : (es : List EventType) → AllByRecursion (λ (e : EventType). Unit {0}) es
  any_event [] = tt
  any_event (e ∷ es) = (tt, any_event es)

  pub stream_found : (rule : StreamRule) (s : StreamType) → EventsAscend s.events → Finds (judged rule clocks s) (StreamFlaw rule s)
  unfolding judged numbers_fit records_have_bits clocks_are_there timestamps_sized
  stream_found NumbersFit s ascend =
      let holding = holds_decides (length s.events - 1) s.event_header.id in
      let flaw = feature_flaw (codes "event-record") (codes "type-id-field-type") FieldTooSmall in
      finds_one (NumberFlaw s) (unless (holds (length s.events - 1) s.event_header.id) flaw) (tested (holds (length s.events - 1) s.event_header.id) flaw holding.0 (λ e. (refl, not_from_Decides _ holding e))) (λ kept f wrong. wrong.1 kept) (λ f g one other. one.0 ∙ sym other.0)
  stream_found RecordsHaveBits s ascend =
      finds_inside (key (codes "event-record-types")) (OfEach (λ e. Inside (key e.name) (NoBits s e)) s.events) (each (record_has_bits (header_has_bits s)) s.events)
      (finds_each (λ e. Inside (key e.name) (NoBits s e)) (λ e. Unit {0}) (record_has_bits (header_has_bits s)) s.events (λ e any. record_found s e) (any_event s.events)
      (names_in_turn (λ (e : EventType). e.name) (NoBits s) ZeroSizeRecord (λ e f bad. ap (λ (x : Flaw). x.kind) bad.0) s.events ascend))
  stream_found ClocksAreThere s ascend =
      finds_next (DefaultFlaw s.default_clock) (OfEach (Unclocked s) timestamps) (unless (clock_is_there clocks s.default_clock) (within (key (codes "$default-clock-type-name")) (here NoClock))) (each (timestamp_is (is_clocked s) NoClock) timestamps) (default_found s.default_clock)
      (finds_each (Unclocked s) (λ t. Unit {0}) (timestamp_is (is_clocked s) NoClock) timestamps (λ t any. clocked_found s t) any_timestamp (timestamps_in_turn NoClock (Unclocked s) (λ t f bad. bad.0))) (λ f g one other. default_before f g s one other)
  stream_found TimestampsAreSized s ascend = finds_each (Unsized s) (λ t. Unit {0}) (timestamp_is (is_sized s) TimestampSize) timestamps (λ t any. sized_found s t) any_timestamp (timestamps_in_turn TimestampSize (Unsized s) (λ t f bad. bad.0))
