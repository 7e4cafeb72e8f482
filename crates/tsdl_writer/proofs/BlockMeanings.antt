-- What the trees of blocks mean: the trace, the clock, the stream or the event that they were made of.
use Rattle.tsdl_writer.proofs.TreeWords.{Structure, nat_tests, trace_items, stream_items, event_items, All, Bool, ByteOrder, ClockType, EnvironmentEntry, EnvironmentValue, Event, IfSome, IsDistinct, IsDistinct-head, IsDistinct-tail, IsHeldUuid, IsHeldValue, Known, List, MAX_ENVIRONMENT, MemberType, Option, SFits, Some, Stream, StructType, [], ap, arith, bytes_eq, clock_items, clock_meaning, codes, environment_meaning, event_context, event_header, event_meaning, false, fields_scope, flag_value, has_member, ints, is_trace, length, length-map, list_all, map, named_fact_meaning, named_fact_tree, natural_value, optional, own_names, packet_context, packet_header, refl, specific_context, stream_meaning, structure_of, suits, sym, trace_order, trace_uuid, true, uuid_value, w64, whole, whole_number, ℕ, ℤ, ◌∷◌, ◌≡◌, ◌≤◌}
use Rattle.tsdl_writer.proofs.{FieldMeanings.{Members, each_own}, StructureMeanings.found}
use Rattle.tsdl_grammar.specs.Lookups.{attr, scope, attrs_in, scopes_in, has_parts, no_two}
use Rattle.std.proofs.lemmas.{List.Elements.{All-from_recursion}, List.Folds.list_any_none, List.Sums.{list_all-from_AllPass}}

-- ---- values

whole_read : (z : ℤ) → SFits w64 z → whole (whole_number z) ≡ Some z
whole_read z h = grind (arith, nat_tests, ints, h)

-- a structure's tree means it, and its members pass a test
abbrev pub IsRead : Known → (List ℕ × MemberType → Bool) → Option Structure → StructType → Type 0
IsRead known test there t = (structure_of known there ≡ Some t) × (list_all test t.members ≡ true)

-- ---- the trace block

pub trace_found : (uuid : Option (List ℕ)) (order : ByteOrder) (ms : Members) → let is = trace_items uuid order ms in (is_trace is ≡ true) × (trace_order is ≡ Some order) × (scope packet_header (scopes_in is) ≡ found ms 8)
trace_found uuid order ms = grind arith

pub trace_uuid_is : (uuid : Option (List ℕ)) (order : ByteOrder) (ms : Members) → IfSome uuid IsHeldUuid → trace_uuid (trace_items uuid order ms) ≡ Some uuid
unfolding trace_uuid uuid_value
trace_uuid_is uuid order ms h = grind (arith, h, IsHeldUuid.comes_back)

-- ---- clock blocks

pub clock_is : (c : ClockType) → IfSome c.uuid IsHeldUuid → SFits w64 c.offset_seconds → clock_meaning (clock_items c) ≡ Some c
unfolding clock_meaning uuid_value flag_value
clock_is c u h = grind (arith, whole_read c.offset_seconds h, u)

-- ---- stream blocks

-- each structure of a stream block is found under its name
stream_found : (id : ℕ) (context header common : Members) (align : ℕ) → let is = stream_items id context header common align in (has_parts (packet_context ∷ event_header ∷ event_context ∷ []) is ≡ true)
    × (scope packet_context (scopes_in is) ≡ found context 8) × (scope event_header (scopes_in is) ≡ found header 8) × (scope event_context (scopes_in is) ≡ found common align)
stream_found id context header common align = grind arith

all_pass : (ms : Members) → list_all (λ (m : List ℕ × MemberType). true) ms ≡ true
all_pass ms = list_all-from_AllPass (λ m. true) ms (λ k d l. refl)

pub stream_is : (known : Known) (context header common : Members) (align : ℕ) (s : Stream) → IsRead known (suits own_names) (found context 8) s.context → IsRead known (suits (codes "id" ∷ [])) (found header 8) s.event_header
    → structure_of known (found common align) ≡ Some s.common → (has_member (codes "packet_size") s.context.members ≡ true) × (has_member (codes "content_size") s.context.members ≡ true) → s.events ≡ []
    → stream_meaning known (stream_items s.id context header common align) ≡ Some s
unfolding stream_meaning
stream_is known context header common align s context_read header_read common_read sizes none =
    let at = stream_found s.id context header common align in
    rw (at.0, at.1, context_read.0, context_read.1, at.2, header_read.0, header_read.1, at.3, common_read, all_pass s.common.members, sizes.0, sizes.1) (ap (λ (es : List Event). Some (record s { events = es })) (sym none))

-- ---- event blocks

event_found : (stream id : ℕ) (name : List ℕ) (level : Option ℕ) (specific : Members) (align : ℕ) (fields : Members) (fields_align : ℕ) → let is = event_items stream id name level specific align fields fields_align in
    (has_parts (specific_context ∷ fields_scope ∷ []) is ≡ true) × (optional natural_value (attr (codes "loglevel") (attrs_in is)) ≡ Some level)
    × (scope specific_context (scopes_in is) ≡ found specific align) × (scope fields_scope (scopes_in is) ≡ found fields fields_align)
event_found stream id name level specific align fields fields_align = grind arith

pub event_is : (known : Known) (stream : ℕ) (e : Event) (specific : Members) (align : ℕ) (fields : Members) (fields_align : ℕ)
    → structure_of known (found specific align) ≡ Some e.specific → structure_of known (found fields fields_align) ≡ Some e.fields
    → event_meaning known (event_items stream e.id e.name e.log_level specific align fields fields_align) ≡ Some (stream, e)
unfolding event_meaning
event_is known stream e specific align fields fields_align p q =
    let at = event_found stream e.id e.name e.log_level specific align fields fields_align in
    rw (at.0, at.1, at.2, p, all_pass e.specific.members, at.3, q, all_pass e.fields.members) refl

-- ---- the environment

entry_read : (name : List ℕ) (v : EnvironmentValue) → IsHeldValue v → named_fact_meaning (named_fact_tree (record { name = name; value = v })) ≡ Some (record { name = name; value = v })
entry_read name v h = grind (arith, whole_read, h)

pub no_two-distinct : (xs : List (List ℕ)) → IsDistinct bytes_eq xs → no_two bytes_eq xs ≡ true
no_two-distinct [] h = refl
no_two-distinct (x ∷ xs) h = grind (arith, list_any_none (bytes_eq x) xs (All-from_recursion (λ (y : List ℕ). bytes_eq x y ≡ false) xs (IsDistinct-head bytes_eq x xs h)), no_two-distinct xs (IsDistinct-tail bytes_eq x xs h))

names_same : (es : List EnvironmentEntry) → map (λ f. f.name) (map named_fact_tree es) ≡ map (λ e. e.name) es
names_same [] = refl
names_same (e ∷ es) = ap (λ (w : List (List ℕ)). e.name ∷ w) (names_same es)

pub environment_is : (es : List EnvironmentEntry) → All (λ e. IsHeldValue e.value) es → IsDistinct bytes_eq (map (λ e. e.name) es) → length es ≤ MAX_ENVIRONMENT
    → environment_meaning (map named_fact_tree es) ≡ Some es
unfolding environment_meaning
environment_is es h apart few =
    let values = each_own (λ (e : EnvironmentEntry). IsHeldValue e.value) named_fact_meaning named_fact_tree (λ e held. entry_read e.name e.value held) es h in
    grind (arith, nat_tests, length-map es named_fact_tree, names_same es, no_two-distinct (map (λ e. e.name) es) apart, values, few)
