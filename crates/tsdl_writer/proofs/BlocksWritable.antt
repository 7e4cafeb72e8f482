-- The tokens of an allowed configuration's blocks can be written.
use Rattle.tsdl_writer.proofs.TreeWords.{lit<, Item, number_toks, whole_number, All, All-head, All-map, All-tail, All-weaker, AllByRecursion, AreMembers, Big, ByteOrder, ClockType, Config, EnvironmentEntry, EventType, IsClockType, IsConfig, IsEventType, IsHeld, IsHeldClock, IsHeldValue, IsMetadataName, IsPlainName, IsStream, IsStreamType, List, Little, Name, None, Option, SFits, Some, StreamType, StructType, [], all_event_blocks, arith, block_and_semicolon, blocks_of, clock_block, codes, context_numbers, context_of, environment_blocks, event_block, event_blocks, event_header_members, event_header_of, fact_toks, fact_tree, flat_map, header_members, header_of, ints, is_identifier, item_toks, length, map, metadata_is_allowed, metadata_name_of_plain, metadata_of, name_toks, named_fact_toks, named_fact_tree, names_in, natural_item, one_word, optional_items, order_word, recursion_from_All, refl, scope_items, shown_struct, stream_block, stream_blocks, stream_of, streams_of, subst, text_item, text_toks, trace_block, two_words, uuid_item, w64, ℕ, ℤ, ◌++◌, ◌+◌, ◌<◌, ◌^◌, ◌∷◌, ◌≡◌}
use Rattle.tsdl_writer.proofs.Writable.{Can, both, joined, whole}
use Rattle.tsdl_writer.proofs.{FieldMeanings.Members, StructureMeanings.Shows, StructuresRead.{header_shows, event_header_shows, context_shows, config_shows}}
use Rattle.tsdl_writer.proofs.TreesWritable.{align_fits, flag_named, members_writable}

-- ---- structures

scope_writable : (clocks : List (List ℕ)) (name : Name) (ms : Members) (align : ℕ) (t : StructType) → Can (name_toks name) → All IsMetadataName clocks → Shows clocks ms align t → Can (flat_map item_toks (scope_items name ms align))
unfolding is_identifier
scope_writable clocks name [] align t n names h = tt
scope_writable clocks name (m ∷ ms) align t n names h =
    let trees = members_writable clocks 0 [] (m ∷ ms) names h.automatic (subst (AreMembers clocks []) h.same h.allowed.members) (subst (λ (k : Members). All IsMetadataName (names_in k)) h.same h.allowed.names) in
    let fits = subst (λ (k : ℕ). k < 2 ^ 64) (h.aligned (λ e. cc)) (align_fits t.min_align t.positive t.power_of_two) in
    search (both, n, trees, fits) depth 20

-- ---- attributes

optional_writable : {A : Type 0} (item : A → Item) (o : Option A) → ((x : A) → o ≡ Some x → Can (item_toks (item x))) → Can (flat_map item_toks (optional_items item o))
optional_writable item None h = tt
optional_writable item (Some x) h = both (item_toks (item x)) [] (h x refl) tt

uuid_writable : (o : Option (List ℕ)) → Can (flat_map item_toks (optional_items uuid_item o))
unfolding is_identifier
uuid_writable o = optional_writable uuid_item o (λ u e. search depth 20)

order_named : (o : ByteOrder) → IsMetadataName (order_word o)
unfolding is_identifier
order_named Little = record { identifier = refl; no_keyword = refl }
order_named Big = record { identifier = refl; no_keyword = refl }

-- a number of 64 bits with its sign
held_writable : (z : ℤ) → SFits w64 z → Can (number_toks (whole_number z))
held_writable z h = whole z (omega (arith, ints)) (omega (arith, ints))

-- ---- the trace block

trace_writable : (c : Config) → All IsMetadataName (map (λ (k : ClockType). k.name) c.clocks) → IsConfig c → Can (block_and_semicolon (trace_block c))
unfolding is_identifier metadata_of
trace_writable c names h =
    let clocks = map (λ (k : ClockType). k.name) c.clocks in
    let header = scope_writable clocks (two_words (codes "packet") (codes "header")) (header_members c.header) 8 (header_of c) (search depth 20) names (header_shows clocks c (metadata_is_allowed c h).header) in
    search (both, joined item_toks, lit<, uuid_writable c.uuid, order_named c.order, header) depth 40

-- ---- the environment and clocks

facts_writable : (es : List EnvironmentEntry) → AllByRecursion IsPlainName (map (λ e. e.name) es) → AllByRecursion (λ e. IsHeldValue e.value) es → Can (flat_map named_fact_toks (map named_fact_tree es))
facts_writable [] n h = tt
facts_writable (e ∷ es) n h =
    let value : Can (fact_toks (fact_tree e.value)) = grind (arith, held_writable, h.0) in
    search (both, metadata_name_of_plain e.name n.0, value, facts_writable es n.1 h.1) depth 20

environment_writable : (es : List EnvironmentEntry) → AllByRecursion IsPlainName (map (λ e. e.name) es) → AllByRecursion (λ e. IsHeldValue e.value) es → Can (text_toks (environment_blocks es))
unfolding is_identifier
environment_writable [] n h = tt
environment_writable (e ∷ es) n h = search (both, facts_writable (e ∷ es) n h) depth 20

clock_writable : (c : ClockType) → IsClockType c → IsHeldClock c → Can (block_and_semicolon (clock_block c))
unfolding is_identifier
clock_writable c h held =
    let description = optional_writable (text_item (codes "description")) c.description (λ s e. search depth 20) in
    search (both, joined item_toks, metadata_name_of_plain c.name h.name, uuid_writable c.uuid, description, held, held_writable c.offset_seconds held.offset_seconds, flag_named c.absolute) depth 60

clocks_writable : (cs : List ClockType) → All IsClockType cs → AllByRecursion IsHeldClock cs → Can (text_toks (map clock_block cs))
clocks_writable [] h held = tt
clocks_writable (c ∷ cs) h held = search (both, clock_writable c (All-head IsClockType c cs h) held.0, clocks_writable cs (All-tail IsClockType c cs h) held.1)

-- ---- streams and events

stream_writable : (clocks : List (List ℕ)) (n : ℕ) (s : StreamType) → n < 2 ^ 64 → All IsMetadataName clocks → IsStreamType clocks s → IsStream clocks (stream_of n s) → Can (block_and_semicolon (stream_block n s))
unfolding is_identifier stream_of
stream_writable clocks n s l names t h =
    let context = scope_writable clocks (two_words (codes "packet") (codes "context")) (context_numbers s.context ++ s.extras.members) 8 (context_of s) (search depth 20) names (context_shows clocks s t h.context) in
    let header = scope_writable clocks (two_words (codes "event") (codes "header")) (event_header_members s.event_header) 8 (event_header_of s) (search depth 20) names (event_header_shows clocks s h.event_header) in
    let common = scope_writable clocks (two_words (codes "event") (codes "context")) s.common.members s.common.min_align (shown_struct s.common) (search depth 20) names (config_shows clocks s.common t.common) in
    search (both, joined item_toks, l, context, header, common) depth 40

streams_writable : (clocks : List (List ℕ)) (n : ℕ) (ss : List StreamType) → n + length ss < 2 ^ 64 → All IsMetadataName clocks → AllByRecursion (IsStreamType clocks) ss → AllByRecursion (IsStream clocks) (streams_of n ss) → Can (text_toks (stream_blocks n ss))
unfolding streams_of
streams_writable clocks n [] l names t h = tt
streams_writable clocks n (s ∷ ss) l names t h = search (both, stream_writable clocks n s (omega arith) names t.0 h.0, streams_writable clocks (n + 1) ss (omega arith) names t.1 h.1)

event_writable : (clocks : List (List ℕ)) (stream n : ℕ) (s : StreamType) (e : EventType) → stream < 2 ^ 64 → n < 2 ^ 64 → All IsMetadataName clocks → IsEventType s e → Can (block_and_semicolon (event_block stream n e))
unfolding is_identifier
event_writable clocks stream n s e k l names h =
    let specific = scope_writable clocks (one_word (codes "context")) e.specific.members e.specific.min_align (shown_struct e.specific) (search depth 20) names (config_shows clocks e.specific h.specific) in
    let fields = scope_writable clocks (one_word (codes "fields")) e.payload.members e.payload.min_align (shown_struct e.payload) (search depth 20) names (config_shows clocks e.payload h.payload) in
    let level = optional_writable (natural_item (codes "loglevel")) e.log_level (λ m is. let fits : m < 2 ^ 64 = omega (arith, h.log_level m is) in search fits depth 20) in
    search (both, joined item_toks, l, k, level, specific, fields) depth 60 fits 4000

events_writable : (clocks : List (List ℕ)) (stream n : ℕ) (s : StreamType) (es : List EventType) → stream < 2 ^ 64 → n + length es < 2 ^ 64 → All IsMetadataName clocks → AllByRecursion (IsEventType s) es → Can (text_toks (event_blocks stream n es))
events_writable clocks stream n s [] k l names h = tt
events_writable clocks stream n s (e ∷ es) k l names h = search (both, event_writable clocks stream n s e k (omega arith) names h.0, events_writable clocks stream (n + 1) s es k (omega arith) names h.1)

all_events_writable : (clocks : List (List ℕ)) (n : ℕ) (ss : List StreamType) → n + length ss < 2 ^ 64 → All IsMetadataName clocks → AllByRecursion (IsStreamType clocks) ss → Can (text_toks (all_event_blocks n ss))
all_events_writable clocks n [] l names t = tt
all_events_writable clocks n (s ∷ ss) l names t =
    search (joined block_and_semicolon, events_writable clocks n 0 s s.events (omega arith) (omega (arith, t.0.events_few)) names (recursion_from_All (IsEventType s) s.events t.0.events), all_events_writable clocks (n + 1) ss (omega arith) names t.1)

-- ---- the whole

pub blocks_writable : (c : Config) → IsConfig c → IsHeld c → Can (text_toks (blocks_of c))
unfolding metadata_of
blocks_writable c h held =
    let clocks = map (λ (k : ClockType). k.name) c.clocks in
    let names = All-map IsMetadataName (λ (k : ClockType). k.name) c.clocks (All-weaker IsClockType (λ (k : ClockType). IsMetadataName k.name) (λ k x. metadata_name_of_plain k.name x.name) c.clocks h.clocks) in
    let env = environment_writable c.environment (recursion_from_All IsPlainName (map (λ (e : EnvironmentEntry). e.name) c.environment) h.environment_names) (recursion_from_All (λ (e : EnvironmentEntry). IsHeldValue e.value) c.environment held.environment) in
    let types = recursion_from_All (IsStreamType clocks) c.streams h.streams in
    let streams = streams_writable clocks 0 c.streams (omega (arith, h.streams_few)) names types (recursion_from_All (IsStream clocks) (streams_of 0 c.streams) (metadata_is_allowed c h).streams) in
    let events = all_events_writable clocks 0 c.streams (omega (arith, h.streams_few)) names types in
    search (both, joined block_and_semicolon, trace_writable c names h, env, clocks_writable c.clocks h.clocks (recursion_from_All IsHeldClock c.clocks held.clocks), streams, events)
