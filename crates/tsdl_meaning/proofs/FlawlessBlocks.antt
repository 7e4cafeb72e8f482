-- What blocks without a flaw mean.
use Rattle.std.proofs.Common.{◌≡◌, ℕ, ◌==◌, Bool, true, false, not, ◌&&◌, List, ◌∷◌, map, Option, Some, None, refl, sym, ap, subst, ◌∙◌, pos, [], arith}
use Rattle.tsdl_meaning.proofs.TextWords.{AllByRecursion, AreFlawless, BlockKind, ByteOrder, ClockType, ContainsKey, Event, HasNumbers, IsFlawlessBlock, IsFlawlessScope, Item, Known, Ledger, Scope, ScopeRule, Stream, StructType, Value, and_true, are_distinct, attr, attr_names, attrs_in, clock_meaning, clock_name, codes, contains, contains_text, event_context, event_header, event_meaning, fields_scope, fits, flag_value, has_in_context, has_number, has_parts, has_sizes, header_meaning, is_among, is_fit, is_number, is_some, is_trace, list_all, meant_by, name_value, nat_cmp, natural_value, not-true, number_or_zero, clock_asks, of_event, stream_asks, trace_asks, option_map_or, order_table, packet_context, packet_header, pair_cmp, rule_in, scope, scopes_in, scopes_of, specific_context, stream_meaning, text_value, trace_order, trace_uuid, uuid_value, whole_value, with_default, word_value, words_of, ◌>>=◌}
use Rattle.tsdl_meaning.specs.declared.judge.block.BlockKind.TheVariants as kinds
use Rattle.tsdl_meaning.specs.declared.scope_rule.ScopeRule.TheVariants.{AnyMembers, PacketHeader, PacketContext, EventHeader}
use Rattle.tsdl_meaning.proofs.FlawlessItems.{passes_of, some_is, there_of, value_fits, needed_is, default_is, option_is, scope_means, has_alike}

-- ---- the parts of a block

three : (a b c : Bool) → a ≡ true → b ≡ true → c ≡ true → (a && b && c) ≡ true
three a b c e f g = rw (e, f, g) refl

among : (n : List (List ℕ)) (rule : ScopeRule) (rows : List (List (List ℕ) × ScopeRule)) → rule_in rows n ≡ Some rule → is_among (map (λ row. row.0) rows) n ≡ true
among n rule [] e = absurd cc
among n rule (row ∷ rows) e = grind (arith, among n rule rows, e)

all_among : (known : Known) (kind : BlockKind) (scopes : List Scope) → AllByRecursion (IsFlawlessScope known kind) scopes
    → list_all (λ s. is_among (map (λ row. row.0) (scopes_of kind)) (words_of s.name)) scopes ≡ true
all_among known kind [] all = refl
all_among known kind (s ∷ scopes) all = grind (arith, among (words_of s.name) all.0.rule (scopes_of kind) all.0.asks, all_among known kind scopes all.1)

parts_are : (known : Known) (kind : BlockKind) (ledger : Ledger) (is : List Item) → AreFlawless known kind ledger is → has_parts (map (λ row. row.0) (scopes_of kind)) is ≡ true
parts_are known kind ledger is f =
    three (are_distinct (attr_names (attrs_in is))) (are_distinct (map (λ s. words_of s.name) (scopes_in is))) (list_all (λ s. is_among (map (λ row. row.0) (scopes_of kind)) (words_of s.name)) (scopes_in is))
    f.attributes_once f.scopes_once (all_among known kind (scopes_in is) f.scopes)

-- ---- the trace

pub record TraceOf (known : Known) (is : List Item) : Type 0 where
  pub order : ByteOrder
  pub uuid : Option (List ℕ)
  pub header : StructType
  pub version : is_trace is ≡ true
  pub ordered : trace_order is ≡ Some order
  pub identified : trace_uuid is ≡ Some uuid
  pub headed : header_meaning known is ≡ Some header

numbered : (w : List ℕ) (n : ℕ) (is : List Item) → list_all (is_fit trace_asks) (attrs_in is) ≡ true → is_some (attr w (attrs_in is)) ≡ true → ((v : Value) → fits trace_asks w v ≡ is_number n v) → has_number w n is ≡ true
numbered w n is all there asks =
    let v = some_is (attr w (attrs_in is)) there in
    ap (λ (o : Option Value). option_map_or (λ m. m == n) (o >>= natural_value) false) v.1 ∙ sym (asks v.0) ∙ value_fits trace_asks w (attrs_in is) v.0 all v.1

pub trace_means : (known : Known) (ledger : Ledger) (is : List Item) → IsFlawlessBlock known kinds.Trace ledger is → TraceOf known is
unfolding trace_uuid header_meaning
trace_means known ledger is f =
    let attrs = attrs_in is in
    let all = f.parts.attributes in
    let complete = f.ended.complete in
    let there = λ (w : List ℕ). is_some (attr w attrs) in
    let major = (and_true (there (codes "major")) (there (codes "minor") && (there (codes "byte_order") && true)) complete).0 in
    let rest = (and_true (there (codes "major")) (there (codes "minor") && (there (codes "byte_order") && true)) complete).1 in
    let minor = (and_true (there (codes "minor")) (there (codes "byte_order") && true) rest).0 in
    let order = (and_true (there (codes "byte_order")) true (and_true (there (codes "minor")) (there (codes "byte_order") && true) rest).1).0 in
    let ordered = needed_is trace_asks (λ v. word_value v >>= meant_by order_table) (codes "byte_order") attrs all (λ v h. h) order in
    let identified = option_is trace_asks uuid_value (codes "uuid") attrs all (λ v h. h) in
    let headed = scope_means known kinds.Trace packet_header PacketHeader (scopes_in is) f.parts.scopes refl in
    record {
      order = ordered.0;
      uuid = identified.0;
      header = headed.meant;
      version =
          three (has_parts (packet_header ∷ []) is) (has_number (codes "major") 1 is) (has_number (codes "minor") 8 is) (parts_are known kinds.Trace ledger is f.parts)
          (numbered (codes "major") 1 is all major (λ v. refl)) (numbered (codes "minor") 8 is all minor (λ v. refl));
      ordered = ordered.1;
      identified = identified.1;
      headed = headed.means;
    }

-- ---- clocks

pub record ClockOf (ledger : Ledger) (is : List Item) : Type 0 where
  pub clock : ClockType
  pub means : clock_meaning is ≡ Some clock
  pub named : clock_name is ≡ Some clock.name
  pub anew : contains_text ledger.clocks clock.name ≡ false

pub clock_means : (known : Known) (ledger : Ledger) (is : List Item) → IsFlawlessBlock known kinds.Clock ledger is → ClockOf ledger is
unfolding clock_meaning
clock_means known ledger is f =
    let attrs = attrs_in is in
    let all = f.parts.attributes in
    let asked = clock_asks ledger in
    let there = (and_true (is_some (attr (codes "name") attrs)) true f.ended.complete).0 in
    let taken = contains_text ledger.clocks in
    let name = needed_is asked name_value (codes "name") attrs all (λ v h. there_of (λ w. not (taken w)) (name_value v) h) there in
    let uuid = option_is asked uuid_value (codes "uuid") attrs all (λ v h. h) in
    let description = option_is asked text_value (codes "description") attrs all (λ v h. h) in
    let frequency = default_is asked natural_value (codes "freq") attrs all (λ v h. h) 1000000000 in
    let precision = default_is asked natural_value (codes "precision") attrs all (λ v h. h) 0 in
    let seconds = default_is asked whole_value (codes "offset_s") attrs all (λ v h. h) (pos 0) in
    let cycles = default_is asked natural_value (codes "offset") attrs all (λ v h. h) 0 in
    let absolute = default_is asked flag_value (codes "absolute") attrs all (λ v h. h) false in
    let clock : ClockType = record {
      name = name.0;
      uuid = uuid.0;
      description = description.0;
      frequency = frequency.0;
      precision = precision.0;
      offset_seconds = seconds.0;
      offset_cycles = cycles.0;
      absolute = absolute.0;
    } in
    let v = some_is (attr (codes "name") attrs) there in
    let value : name_value v.0 ≡ Some name.0 = sym (ap (λ (o : Option Value). o >>= name_value) v.1) ∙ name.1 in
    record {
      clock = clock;
      means = rw (parts_are known kinds.Clock ledger is f.parts, name.1, uuid.1, description.1, frequency.1, precision.1, seconds.1, cycles.1, absolute.1) refl;
      named = name.1;
      anew = not-true (taken name.0) (passes_of (λ w. not (taken w)) (name_value v.0) name.0 (value_fits asked (codes "name") attrs v.0 all v.1) value);
    }

-- ---- streams

pub record StreamOf (known : Known) (ledger : Ledger) (is : List Item) : Type 0 where
  pub id : ℕ
  pub numbered : number_or_zero (codes "id") (attrs_in is) ≡ Some id
  pub anew : contains nat_cmp ledger.streams id ≡ false
  pub means : has_sizes is ≡ true → (s : Stream) × (stream_meaning known is ≡ Some s) × (s.id ≡ id)

-- the number that is given, or 0, is new
number_free : (taken : ℕ → Bool) (o : Option Value) (n : ℕ) → with_default 0 natural_value o ≡ Some n → (o ≡ None → taken 0 ≡ false)
    → ((v : Value) → o ≡ Some v → option_map_or (λ m. not (taken m)) (natural_value v) false ≡ true) → taken n ≡ false
number_free taken None n e none some = let zero_is : 0 ≡ n = cc in subst (λ (k : ℕ). taken k ≡ false) zero_is (none refl)
number_free taken (Some v) n e none some = not-true (taken n) (passes_of (λ m. not (taken m)) (natural_value v) n (some v refl) e)

pub stream_means : (known : Known) (ledger : Ledger) (is : List Item) → IsFlawlessBlock known kinds.Stream ledger is → StreamOf known ledger is
unfolding stream_meaning
stream_means known ledger is f =
    let attrs = attrs_in is in
    let scopes = scopes_in is in
    let all = f.parts.attributes in
    let asked = stream_asks ledger in
    let taken = contains nat_cmp ledger.streams in
    let id = default_is asked natural_value (codes "id") attrs all (λ v h. there_of (λ n. not (taken n)) (natural_value v) h) 0 in
    let context = scope_means known kinds.Stream packet_context PacketContext scopes f.parts.scopes refl in
    let header = scope_means known kinds.Stream event_header EventHeader scopes f.parts.scopes refl in
    let common = scope_means known kinds.Stream event_context AnyMembers scopes f.parts.scopes refl in
    record {
      id = id.0;
      numbered = id.1;
      anew = number_free taken (attr (codes "id") attrs) id.0 id.1 f.ended.anew (λ v e. value_fits asked (codes "id") attrs v all e);
      means = λ sizes.
          let s : Stream = record { id = id.0; context = context.meant; event_header = header.meant; common = common.meant; events = [] } in
          let o = scope packet_context scopes in
          let both = and_true (has_in_context (codes "packet_size") is) (has_in_context (codes "content_size") is) sizes in
          let packet = has_alike known PacketContext o (codes "packet_size") context ∙ both.0 in
          let content = has_alike known PacketContext o (codes "content_size") context ∙ both.1 in
          (s, rw (parts_are known kinds.Stream ledger is f.parts, id.1, context.means, header.means, common.means, packet, content) refl, refl);
    }

-- ---- events

pub record EventOf (known : Known) (ledger : Ledger) (is : List Item) : Type 0 where
  pub stream : ℕ
  pub event : Event
  pub means : event_meaning known is ≡ Some (stream, event)
  pub named : clock_name is ≡ Some event.name
  pub numbers : HasNumbers is stream event.id
  pub anew : ContainsKey pair_cmp ledger.events (stream, event.id) → ⊥

pub event_means : (known : Known) (ledger : Ledger) (is : List Item) → IsFlawlessBlock known kinds.Event ledger is → EventOf known ledger is
unfolding event_meaning
event_means known ledger is f =
    let attrs = attrs_in is in
    let scopes = scopes_in is in
    let all = f.parts.attributes in
    let there = (and_true (is_some (attr (codes "name") attrs)) true f.ended.complete).0 in
    let name = needed_is of_event name_value (codes "name") attrs all (λ v h. h) there in
    let id = default_is of_event natural_value (codes "id") attrs all (λ v h. h) 0 in
    let stream = default_is of_event natural_value (codes "stream_id") attrs all (λ v h. h) 0 in
    let level = option_is of_event natural_value (codes "loglevel") attrs all (λ v h. h) in
    let specific = scope_means known kinds.Event specific_context AnyMembers scopes f.parts.scopes refl in
    let fields = scope_means known kinds.Event fields_scope AnyMembers scopes f.parts.scopes refl in
    let e : Event = record { id = id.0; name = name.0; log_level = level.0; specific = specific.meant; fields = fields.meant } in
    record {
      stream = stream.0;
      event = e;
      means = rw (parts_are known kinds.Event ledger is f.parts, name.1, id.1, stream.1, level.1, specific.means, fields.means) refl;
      named = name.1;
      numbers = (stream.1, id.1);
      anew = f.ended.anew stream.0 id.0 (stream.1, id.1);
    }
