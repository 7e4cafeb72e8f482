-- What refuses a configuration as a whole is the first of its flaws: each rule in its turn finds the first of its own, by place, and the
-- rules stand in the order of the kinds.
use Rattle.std.proofs.Common.{◌≡◌, ◌≢◌, ◌⊎◌, inl, inr, ℕ, ◌-◌, ◌&&◌, Bool, true, false, List, [], ◌∷◌, length, Contains, IsSome, Option, Some, None, is_some, is_none, Result, Ok, Err, refl, sym, ap, subst, ◌∙◌, arith, drop, slice_get}
use Rattle.std.specs.Prelude.{codes, nat_lt, if◌then◌else◌, ⊤}
use Rattle.std.specs.List.{AllByRecursion}
use Rattle.std.proofs.lemmas.Bool.{and_parts, ltb-true, true≢false}
use Rattle.std.proofs.lemmas.Bool.Decides.{not_from_Decides}
use Rattle.serde_json.specs.Data.{Data}
use Rattle.ctf_types.specs.AllowedConfig.{HoldsUpTo}
use Rattle.ctf_types.specs.declared.EventType.{EventType}
use Rattle.ctf_types.specs.declared.StreamType.{StreamType}
use Rattle.ctf_types.specs.declared.IntType.{IntType}
use Rattle.conf_table.specs.declared.place.Place.TheVariants.{Root}
use Rattle.conf_table.specs.declared.row.Content.TheVariants.{At}
use Rattle.conf_tree.specs.declared.fault_kind.FaultKind.{FaultKind}
use Rattle.conf_tree.specs.declared.fault_kind.FaultKind.TheVariants.{FieldTooSmall, ZeroSizeRecord, NoClock, NoUuid, TwoOrders, TimestampSize}
use Rattle.conf_tree.specs.Flaw.{Flaw, key, here, within}
use Rattle.conf_tree.specs.Order.{Ascends}
use Rattle.conf_tree.specs.Reading.{at, ◌>>=◌}
use Rattle.conf_tree.specs.Walk.{refusal}
use Rattle.conf_judge.specs.Limits.{configuration_limits}
use Rattle.conf_draft.specs.declared.draft.Draft.{Draft}
use Rattle.conf_draft.specs.Traces.{draft_of}
use Rattle.conf_laws.specs.FlawOrder.{OuterBefore, kinds, BeforeInWhole}
use Rattle.conf_laws.specs.TableLimits.{PassesLimitOf}
use Rattle.conf_laws.proofs.FirstLimitLaws.{first_limit_found, first_by_place, limit_kind}
use Rattle.conf_laws.proofs.TableFlawLaws.{none_refused}
use Rattle.conf_laws.proofs.TableLimitLaws.{none_passed}
use Rattle.conf_check.specs.declared.stream_rule.StreamRule.{StreamRule}
use Rattle.conf_check.specs.declared.stream_rule.StreamRule.TheVariants.{NumbersFit, RecordsHaveBits, ClocksAreThere, TimestampsAreSized}
use Rattle.conf_check.specs.declared.stream_rule.Timestamp.{Timestamp}
use Rattle.conf_check.specs.declared.stream_rule.Timestamp.TheVariants.{Record, Beginning, End}
use Rattle.conf_check.specs.FirstFlaw.{IsFlawOfWhole, IsFirstOfWhole}
use Rattle.conf_check.specs.Judgement.{in_type, header_flaw, stream_number_fits, number_given, identifier_given, one_order, whole}
use Rattle.conf_check.specs.StreamRules.{feature_flaw, unless, each, holds, field_of, timestamp_flaw, timestamps, judged, streams_judged}
use Rattle.conf_check.specs.WholeFlaws.{in_stream, IsTimestampOf, of_record, of_beginning, of_end, stream_number, event_number, no_bits, no_such_clock, no_clock, no_number, no_identifier, two_orders, packet_timestamp, record_timestamp, no_beginning}
use Rattle.conf_laws.proofs.NamesInOrder.{EventsAscend, StreamsAscend, draft_ascends}
use Rattle.conf_check.proofs.RuleLaws.{holds_decides, not_both, HasSize, tested, rule_refused}
use Rattle.conf_check.proofs.FirstOfStreams.{IsSameOrBefore, Finds, Inside, OfEach, InTurn, NoBits, Unclocked, Unsized, StreamFlaw, kind_of, finds_one, finds_inside, finds_each, of_each, any_kind, named_kind, names_in_turn, stream_kind, stream_found}

-- ---- the whole

-- what is asked of the whole, in turn
data Rule : Type 0 where
  number_field : Rule
  of_streams : StreamRule → Rule
  identifier_is_there : Rule
  within_limits : Rule
  has_one_order : Rule

abbrev rules : List Rule
rules = number_field ∷ of_streams NumbersFit ∷ of_streams RecordsHaveBits ∷ of_streams ClocksAreThere ∷ identifier_is_there ∷ within_limits ∷ has_one_order ∷ of_streams TimestampsAreSized ∷ []

-- where its kind stands among the kinds
abbrev number_of : Rule → ℕ
number_of number_field = 12
number_of (of_streams NumbersFit) = 12
number_of (of_streams RecordsHaveBits) = 13
number_of (of_streams ClocksAreThere) = 14
number_of identifier_is_there = 15
number_of within_limits = 16
number_of has_one_order = 17
number_of (of_streams TimestampsAreSized) = 18

-- the kinds of all of these are behind that of a rule, and behind one another
abbrev all_behind : Rule → List Rule → Bool
all_behind rule [] = true
all_behind rule (x ∷ xs) = nat_lt (number_of rule) (number_of x) && all_behind rule xs

abbrev kinds_ascend : List Rule → Bool
kinds_ascend [] = true
kinds_ascend (x ∷ xs) = all_behind x xs && kinds_ascend xs

module _ (d : Data) (draft : Draft) where
  abbrev OfStreams : StreamRule → Flaw → Type 0
  OfStreams rule f = Inside (key (codes "trace")) (Inside (key (codes "type")) (Inside (key (codes "data-stream-types")) (OfEach (λ s. Inside (key s.name) (StreamFlaw draft.config.clocks rule s)) draft.config.streams))) f

  -- an identifier is asked for that is not handed in; or none is asked for so, and there is none for its field
  abbrev NotGiven : Bool → Flaw → Type 0
  NotGiven lacks f = (f ≡ in_type (within (key (codes "uuid")) (here NoUuid))) × (lacks ≡ true)

  abbrev NoIdentifier : Bool → Option IntType → Option (List ℕ) → Flaw → Type 0
  NoIdentifier lacks field uuid f = (f ≡ header_flaw (codes "uuid-field-type") NoUuid) × ((lacks ≡ false) × (IsSome field × (uuid ≡ None)))

  abbrev FlawOf : Rule → Flaw → Type 0
  FlawOf number_field f = (f ≡ header_flaw (codes "data-stream-type-id-field-type") FieldTooSmall) × ¬ HoldsUpTo (length draft.config.streams - 1) draft.config.header.stream_id
  FlawOf (of_streams rule) f = OfStreams rule f
  FlawOf identifier_is_there f = NotGiven draft.lacks_number f ⊎ NoIdentifier draft.lacks_number draft.config.header.uuid draft.config.uuid f
  FlawOf within_limits f = PassesLimitOf (At Root) d f
  FlawOf has_one_order f = (f ≡ in_type (here TwoOrders)) × (draft.two_orders ≡ true)

  abbrev answer_of : Rule → Result ⊤ Flaw
  answer_of number_field = stream_number_fits draft.config
  answer_of (of_streams rule) = streams_judged rule draft.config
  answer_of identifier_is_there = number_given draft >>= (λ _. identifier_given draft.config)
  answer_of within_limits = refusal (configuration_limits d)
  answer_of has_one_order = one_order draft

  -- ---- kinds

  streams_kind : (rule : StreamRule) (f : Flaw) → OfStreams rule f → f.kind ≡ kind_of draft.config.clocks rule
  streams_kind rule f (g, is, (h, at_type, (i, at_streams, wrong))) =
      ap (λ (x : Flaw). x.kind) is ∙ ap (λ (x : Flaw). x.kind) at_type ∙ ap (λ (x : Flaw). x.kind) at_streams
      ∙ any_kind (λ (s : StreamType). Inside (key s.name) (StreamFlaw draft.config.clocks rule s)) (kind_of draft.config.clocks rule) draft.config.streams (λ s x bad. named_kind (λ (s : StreamType). s.name) (StreamFlaw draft.config.clocks rule) (kind_of draft.config.clocks rule) (stream_kind draft.config.clocks rule) s x bad) i wrong

  told_kind : (rule : Rule) (f : Flaw) → FlawOf rule f → slice_get kinds (number_of rule) ≡ Some f.kind
  unfolding header_flaw
  told_kind number_field f wrong = ap Some (sym (ap (λ (x : Flaw). x.kind) wrong.0))
  told_kind (of_streams NumbersFit) f wrong = ap Some (sym (streams_kind NumbersFit f wrong))
  told_kind (of_streams RecordsHaveBits) f wrong = ap Some (sym (streams_kind RecordsHaveBits f wrong))
  told_kind (of_streams ClocksAreThere) f wrong = ap Some (sym (streams_kind ClocksAreThere f wrong))
  told_kind (of_streams TimestampsAreSized) f wrong = ap Some (sym (streams_kind TimestampsAreSized f wrong))
  told_kind identifier_is_there f (inl wrong) = ap Some (sym (ap (λ (x : Flaw). x.kind) wrong.0))
  told_kind identifier_is_there f (inr wrong) = ap Some (sym (ap (λ (x : Flaw). x.kind) wrong.0))
  told_kind within_limits f wrong = ap Some (sym (limit_kind (At Root) d f wrong))
  told_kind has_one_order f wrong = ap Some (sym (ap (λ (x : Flaw). x.kind) wrong.0))

  by_kind : (rule : Rule) (later : List Rule) → all_behind rule later ≡ true → (f g : Flaw) → FlawOf rule f → OfEach FlawOf later g → BeforeInWhole f g
  by_kind rule [] above f g one other = absurd other
  by_kind rule (x ∷ xs) above f g one (inl wrong) = inl (number_of rule, number_of x, ltb-true (number_of rule) (number_of x) (and_parts (nat_lt (number_of rule) (number_of x)) (all_behind rule xs) above).0, told_kind rule f one, told_kind x g wrong)
  by_kind rule (x ∷ xs) above f g one (inr more) = by_kind rule xs (and_parts (nat_lt (number_of rule) (number_of x)) (all_behind rule xs) above).1 f g one more

  kinds_in_turn : (xs : List Rule) → kinds_ascend xs ≡ true → InTurn FlawOf xs
  kinds_in_turn [] ascend = tt
  kinds_in_turn (x ∷ xs) ascend = let parts = and_parts (all_behind x xs) (kinds_ascend xs) ascend in (by_kind x xs parts.0, kinds_in_turn xs parts.1)

  -- the features of the trace type stand before its data stream types
  number_fields : (f g : Flaw) → FlawOf number_field f → OfStreams NumbersFit g → BeforeInWhole f g
  unfolding header_flaw
  number_fields f g one (x, at_trace, (y, at_type, (z, at_streams, wrong))) =
      let kind : f.kind ≡ g.kind = ap (λ (v : Flaw). v.kind) one.0 ∙ sym (streams_kind NumbersFit g (x, at_trace, (y, at_type, (z, at_streams, wrong)))) in
      let here_it_is : g ≡ within (key (codes "trace")) (within (key (codes "type")) (within (key (codes "data-stream-types")) z)) = at_trace ∙ ap (within (key (codes "trace"))) (at_type ∙ ap (within (key (codes "type"))) at_streams) in
      let apart : OuterBefore (key (codes "trace") ∷ key (codes "type") ∷ key (codes "$features") ∷ key (codes "data-stream-type-id-field-type") ∷ []) (key (codes "trace") ∷ key (codes "type") ∷ key (codes "data-stream-types") ∷ z.path) = inr (refl, inr (refl, inl refl)) in
      inr (kind, subst (λ (v : Flaw). OuterBefore v.path g.path) (sym one.0) (subst (λ (v : Flaw). OuterBefore (key (codes "trace") ∷ key (codes "type") ∷ key (codes "$features") ∷ key (codes "data-stream-type-id-field-type") ∷ []) v.path) (sym here_it_is) apart))

  rules_in_turn : InTurn FlawOf rules
  rules_in_turn = (λ f g one other. elim other [ inl numbers ↦ number_fields f g one numbers | inr later ↦ by_kind number_field (drop 2 rules) refl f g one later ], kinds_in_turn (drop 1 rules) refl)

  -- ---- each rule finds the first of its own

  streams_found : (rule : StreamRule) → StreamsAscend draft.config.streams → Finds (streams_judged rule draft.config) (OfStreams rule)
  unfolding streams_judged
  streams_found rule ascend =
      let c = draft.config in
      let one = λ (s : StreamType). at (key s.name) (judged rule c.clocks s) in
      let Each : Flaw → Type 0 = OfEach (λ (s : StreamType). Inside (key s.name) (StreamFlaw c.clocks rule s)) c.streams in
      finds_inside (key (codes "trace")) (Inside (key (codes "type")) (Inside (key (codes "data-stream-types")) Each)) (at (key (codes "type")) (at (key (codes "data-stream-types")) (each one c.streams)))
      (finds_inside (key (codes "type")) (Inside (key (codes "data-stream-types")) Each) (at (key (codes "data-stream-types")) (each one c.streams))
      (finds_inside (key (codes "data-stream-types")) Each (each one c.streams)
      (finds_each (λ (s : StreamType). Inside (key s.name) (StreamFlaw c.clocks rule s)) (λ (s : StreamType). EventsAscend s.events) one c.streams (λ s events. finds_inside (key s.name) (StreamFlaw c.clocks rule s) (judged rule c.clocks s) (stream_found c.clocks rule s events)) ascend.1
      (names_in_turn (λ (s : StreamType). s.name) (StreamFlaw c.clocks rule) (kind_of c.clocks rule) (stream_kind c.clocks rule) c.streams ascend.0))))

  limits_found : Ascends d → (r : Result ⊤ Flaw) → refusal (configuration_limits d) ≡ r → Finds r (PassesLimitOf (At Root) d)
  limits_found ascends (Ok x) e = inl (refl, λ f passed. none_passed d f (none_refused (configuration_limits d) e) passed)
  limits_found ascends (Err flaw) e =
      let first = first_limit_found d flaw ascends e in
      inr (flaw, refl, first.0, λ f passed. elim (first_by_place d flaw f first passed) [ inl same ↦ inl same | inr place ↦ inr (inr (limit_kind (At Root) d flaw first.0 ∙ sym (limit_kind (At Root) d f passed), place)) ])

  abbrev number_answer : Bool → Result ⊤ Flaw
  number_answer lacks = if lacks then Err (in_type (within (key (codes "uuid")) (here NoUuid))) else Ok tt

  abbrev identifier_answer : Option IntType → Option (List ℕ) → Result ⊤ Flaw
  identifier_answer field uuid = if is_some field && is_none uuid then Err (header_flaw (codes "uuid-field-type") NoUuid) else Ok tt

  identifier_found : (lacks : Bool) (field : Option IntType) (uuid : Option (List ℕ))
      → Finds (number_answer lacks >>= (λ _. identifier_answer field uuid)) (λ f. NotGiven lacks f ⊎ NoIdentifier lacks field uuid f)
  identifier_found true field uuid = inr (in_type (within (key (codes "uuid")) (here NoUuid)), refl, inl (refl, refl), λ f wrong. elim wrong [ inl bad ↦ inl (sym bad.0) | inr bad ↦ absurd (true≢false bad.1.0) ])
  identifier_found false None uuid = inl (refl, λ f wrong. elim wrong [ inl bad ↦ absurd (true≢false (sym bad.1)) | inr bad ↦ absurd (true≢false (sym bad.1.1.0)) ])
  identifier_found false (Some t) None = inr (header_flaw (codes "uuid-field-type") NoUuid, refl, inr (refl, (refl, (refl, refl))), λ f wrong. elim wrong [ inl bad ↦ absurd (true≢false (sym bad.1)) | inr bad ↦ inl (sym bad.0) ])
  identifier_found false (Some t) (Some u) = inl (refl, λ f wrong. elim wrong [ inl bad ↦ absurd (true≢false (sym bad.1)) | inr bad ↦ (let none = bad.1.1.1 in absurd cc) ])

  order_found : (two : Bool) → Finds (if two then Err (in_type (here TwoOrders)) else Ok tt) (λ f. (f ≡ in_type (here TwoOrders)) × (two ≡ true))
  order_found true = inr (in_type (here TwoOrders), refl, (refl, refl), λ f wrong. inl (sym wrong.0))
  order_found false = inl (refl, λ f wrong. absurd (true≢false (sym wrong.1)))

  number_found : Finds (stream_number_fits draft.config) (FlawOf number_field)
  unfolding stream_number_fits
  number_found =
      let c = draft.config in
      let holding = holds_decides (length c.streams - 1) c.header.stream_id in
      let flaw = header_flaw (codes "data-stream-type-id-field-type") FieldTooSmall in
      finds_one (FlawOf number_field) (unless (holds (length c.streams - 1) c.header.stream_id) flaw) (tested (holds (length c.streams - 1) c.header.stream_id) flaw holding.0 (λ e. (refl, not_from_Decides _ holding e))) (λ kept f wrong. wrong.1 kept) (λ f g one other. one.0 ∙ sym other.0)

  rule_found : Ascends d → StreamsAscend draft.config.streams → (rule : Rule) → Finds (answer_of rule) (FlawOf rule)
  unfolding number_given identifier_given one_order
  rule_found ascends streams number_field = number_found
  rule_found ascends streams (of_streams rule) = streams_found rule streams
  rule_found ascends streams identifier_is_there = identifier_found draft.lacks_number draft.config.header.uuid draft.config.uuid
  rule_found ascends streams within_limits = limits_found ascends (refusal (configuration_limits d)) refl
  rule_found ascends streams has_one_order = order_found draft.two_orders

  any_rule : (xs : List Rule) → AllByRecursion (λ (x : Rule). Unit {0}) xs
  any_rule [] = tt
  any_rule (x ∷ xs) = (tt, any_rule xs)

  -- ---- each flaw of the whole is one of a rule

  of_timestamp : (s : StreamType) (group name : List ℕ) (field : Option IntType) (kind : FaultKind) → IsTimestampOf s group name field → (t : Timestamp) × (feature_flaw group name kind ≡ timestamp_flaw t kind) × (field ≡ field_of s t)
  unfolding timestamp_flaw field_of
  of_timestamp s group name field kind of_record = (Record, refl, refl)
  of_timestamp s group name field kind of_beginning = (Beginning, refl, refl)
  of_timestamp s group name field kind of_end = (End, refl, refl)

  -- of a packet: it is to have 64 bits
  of_packet : (s : StreamType) (group name : List ℕ) (field : Option IntType) (i : IntType) → group ≡ codes "packet" → IsTimestampOf s group name field → field ≡ Some i → i.size ≢ 64
      → (t : Timestamp) × (feature_flaw group name TimestampSize ≡ timestamp_flaw t TimestampSize) × (field_of s t ≡ Some i) × ¬ HasSize s t i
  unfolding timestamp_flaw field_of
  of_packet s group name field i packet of_record is other = absurd cc
  of_packet s group name field i packet of_beginning is other = (Beginning, refl, is, other)
  of_packet s group name field i packet of_end is other = (End, refl, is, other)

  timestamp_among : (t : Timestamp) → Contains timestamps t
  timestamp_among Record = (0, omega arith, refl)
  timestamp_among Beginning = (1, omega arith, refl)
  timestamp_among End = (2, omega arith, refl)

  in_streams : (rule : StreamRule) (s : StreamType) (f : Flaw) → Contains draft.config.streams s → StreamFlaw draft.config.clocks rule s f → OfStreams rule (in_stream s f)
  in_streams rule s f there wrong = (
    within (key (codes "type")) (within (key (codes "data-stream-types")) (within (key s.name) f)),
    refl,
    (
      within (key (codes "data-stream-types")) (within (key s.name) f),
      refl,
      (
        within (key s.name) f,
        refl,
        of_each (λ (x : StreamType). Inside (key x.name) (StreamFlaw draft.config.clocks rule x)) draft.config.streams s (within (key s.name) f) there (f, refl, wrong),
      ),
    ),
  )

  record_is_sized : (s : StreamType) (i : IntType) → Contains draft.config.streams s → s.event_header.timestamp ≡ Some i → ¬ HasSize s Record i → OfStreams TimestampsAreSized (in_stream s (feature_flaw (codes "event-record") (codes "timestamp-field-type") TimestampSize))
  unfolding timestamp_flaw field_of
  record_is_sized s i there on fails = in_streams TimestampsAreSized s (timestamp_flaw Record TimestampSize) there (inl (refl, (i, on, fails)))

  each_flaw : (f : Flaw) → IsFlawOfWhole d draft f → (rule : Rule) × Contains rules rule × FlawOf rule f
  each_flaw f (inr passed) = (within_limits, (5, omega arith, refl), passed)
  each_flaw f (inl (stream_number fails)) = (number_field, (0, omega arith, refl), (refl, fails))
  each_flaw f (inl (event_number s there fails)) = (of_streams NumbersFit, (1, omega arith, refl), in_streams NumbersFit s (feature_flaw (codes "event-record") (codes "type-id-field-type") FieldTooSmall) there (refl, fails))
  each_flaw f (inl (no_bits s e there has fails)) =
      let at_type = within (key e.name) (here ZeroSizeRecord) in
      let one = of_each (λ (x : EventType). Inside (key x.name) (NoBits draft.config.clocks s x)) s.events e at_type has (here ZeroSizeRecord, refl, (refl, fails)) in
      (of_streams RecordsHaveBits, (2, omega arith, refl), in_streams RecordsHaveBits s (within (key (codes "event-record-types")) at_type) there (at_type, refl, one))
  each_flaw f (inl (no_such_clock s name there is none)) = (of_streams ClocksAreThere, (3, omega arith, refl), in_streams ClocksAreThere s (within (key (codes "$default-clock-type-name")) (here NoClock)) there (inl (refl, (name, is, none))))
  each_flaw f (inl (no_clock s group name field there of on none)) =
      let (t, same, found) = of_timestamp s group name field NoClock of in
      let one = of_each (Unclocked draft.config.clocks s) timestamps t (feature_flaw group name NoClock) (timestamp_among t) (same, (subst IsSome found on, none)) in
      (of_streams ClocksAreThere, (3, omega arith, refl), in_streams ClocksAreThere s (feature_flaw group name NoClock) there (inr one))
  each_flaw f (inl (no_number lacks)) = (identifier_is_there, (4, omega arith, refl), inl (refl, lacks))
  each_flaw f (inl (no_identifier given on none)) = (identifier_is_there, (4, omega arith, refl), inr (refl, (given, (on, none))))
  each_flaw f (inl (two_orders two)) = (has_one_order, (6, omega arith, refl), (refl, two))
  each_flaw f (inl (packet_timestamp s name field i there of is other)) =
      let (t, same, found, fails) = of_packet s (codes "packet") name field i refl of is other in
      let one = of_each (Unsized draft.config.clocks s) timestamps t (feature_flaw (codes "packet") name TimestampSize) (timestamp_among t) (same, (i, found, fails)) in
      (of_streams TimestampsAreSized, (7, omega arith, refl), in_streams TimestampsAreSized s (feature_flaw (codes "packet") name TimestampSize) there one)
  each_flaw f (inl (record_timestamp s i there on short)) = (of_streams TimestampsAreSized, (7, omega arith, refl), record_is_sized s i there on (λ has. let least = has.0 in omega (arith, least, short)))
  each_flaw f (inl (no_beginning s i there on short none)) =
      (of_streams TimestampsAreSized, (7, omega arith, refl), record_is_sized s i there on (λ has. elim has.1 [ inl all ↦ omega (arith, short, all) | inr begins ↦ not_both s.context.timestamp_begin begins none ]))

  of_a_rule : (f : Flaw) → IsFlawOfWhole d draft f → OfEach FlawOf rules f
  of_a_rule f wrong = let (rule, among, is) = each_flaw f wrong in of_each FlawOf rules rule f among is

  -- ---- the rules, one after the other

  joined : (a b c : Result ⊤ Flaw) → (a >>= (λ _. b >>= (λ _. c))) ≡ ((a >>= (λ _. b)) >>= (λ _. c))
  joined (Ok x) b c = refl
  joined (Err flaw) b c = refl

  ends : (r : Result ⊤ Flaw) → (r >>= (λ _. Ok tt)) ≡ r
  ends (Ok tt) = refl
  ends (Err flaw) = refl

  whole_each : whole d draft ≡ each answer_of rules
  unfolding whole
  whole_each =
      let c = draft.config in
      let last : Result ⊤ Flaw → Result ⊤ Flaw = λ r. refusal (configuration_limits d) >>= (λ _. one_order draft >>= (λ _. r)) in
      ap (λ r. stream_number_fits c >>= (λ _. streams_judged NumbersFit c >>= (λ _. streams_judged RecordsHaveBits c >>= (λ _. streams_judged ClocksAreThere c >>= (λ _. r)))))
      (joined (number_given draft) (identifier_given c) (last (streams_judged TimestampsAreSized c)) ∙ ap (λ r. (number_given draft >>= (λ _. identifier_given c)) >>= (λ _. last r)) (sym (ends (streams_judged TimestampsAreSized c))))

pub first_of_whole : (number : Option (List ℕ)) (d : Data) (draft : Draft) (flaw : Flaw) → Ascends d → draft_of number d ≡ Some draft → whole d draft ≡ Err flaw → IsFirstOfWhole d draft flaw
first_of_whole number d draft flaw ascends says e =
    let found = finds_each (FlawOf d draft) (λ rule. Unit {0}) (answer_of d draft) rules (λ rule any. rule_found d draft ascends (draft_ascends number d draft ascends says) rule) (any_rule d draft rules) (rules_in_turn d draft) in (
      rule_refused d draft flaw e,
      λ other wrong. elim found [
        | inl (went, none) ↦ absurd (none other (of_a_rule d draft other wrong))
        | inr (told, refused, broken, first) ↦ (let same : told ≡ flaw = cc (whole_each d draft, e, refused) in subst (λ f. IsSameOrBefore f other) same (first other (of_a_rule d draft other wrong)))
      ],
    )
