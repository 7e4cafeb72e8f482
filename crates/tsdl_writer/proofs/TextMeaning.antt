-- The blocks of an allowed configuration mean its metadata.
use Rattle.tsdl_writer.proofs.TreeWords.{All, clock_items, AllByRecursion, Block, ClockType, Config, Denotes, EnvironmentEntry, IsConfig, IsHeld, IsHeldClock, IsMetadata, IsString, Item, List, Some, StreamType, [], all_event_blocks, ap, append-nil, arith, at_most_one, blocks_of, clock_block, clock_in, clock_meaning, each, environment_blocks, environment_in, event_block, event_blocks, event_in, flat_map, flat_map-append, header_meaning, header_members, header_of, known_of, map, metadata_is_allowed, metadata_of, named_fact_tree, numbered, recursion_from_All, refl, stream_block, stream_blocks, stream_in, streams_meaning, streams_of, text_meta, text_toks, trace_block, trace_in, trace_items, written, ℕ, ◌++◌, ◌+◌, ◌∙◌, ◌∷◌, ◌≡◌}
use Rattle.tsdl_writer.proofs.{FieldMeanings.each_own, StructureMeanings.structure_read, StructuresRead.{header_shows, header_suits}}
use Rattle.tsdl_writer.proofs.BlockMeanings.{trace_found, trace_uuid_is, clock_is, environment_is, no_two-distinct}
use Rattle.tsdl_writer.proofs.{NumberedBlocks.{none_taken, bares_by_number, all_tagged, all_have, each_with}, StreamMeanings.{streams_read, all_events_read}}
use Rattle.tsdl_writer.proofs.{LaidStands.text_reads, BlocksWritable.blocks_writable}
use Rattle.std.proofs.lemmas.{List.Concat.flat_map_single, List.Folds.{flat_map-map}}
use Rattle.tsdl_grammar.specs.declared.tree.NamedFact.{NamedFact}
use Rattle.tsdl_grammar.specs.declared.tree.Block.TheVariants as blocks

numbered_none : {A B C : Type 0} (f : B → List C) (g : ℕ → A → List B) (n : ℕ) (xs : List A) → ((k : ℕ) (x : A) → flat_map f (g k x) ≡ []) → flat_map f (numbered g n xs) ≡ []
numbered_none f g n [] h = refl
numbered_none f g n (x ∷ xs) h = flat_map-append f (g n x) (numbered g (n + 1) xs) ∙ rw (h n x, numbered_none f g (n + 1) xs h) refl

no_streams : {C : Type 0} (f : Block → List C) (ss : List StreamType) → ((k : ℕ) (s : StreamType) → f (stream_block k s) ++ [] ≡ []) → flat_map f (stream_blocks 0 ss) ≡ []
no_streams f ss h = numbered_none f (λ id s. stream_block id s ∷ []) 0 ss h

no_environment : {C : Type 0} (f : Block → List C) (es : List EnvironmentEntry) → ((fs : List NamedFact) → f (blocks.Environment fs) ++ [] ≡ []) → flat_map f (environment_blocks es) ≡ []
no_environment f es h = grind (arith, h)

no_events : {C : Type 0} (f : Block → List C) (ss : List StreamType) → ((is : List Item) → f (blocks.Event is) ++ [] ≡ []) → flat_map f (all_event_blocks 0 ss) ≡ []
no_events f ss h = numbered_none f (λ stream s. event_blocks stream 0 s.events) 0 ss (λ k s. numbered_none f (λ id e. event_block k id e ∷ []) 0 s.events (λ id e. h _))

taken : {C : Type 0} (f : Block → List C) (c : Config) → flat_map f (blocks_of c) ≡ f (trace_block c) ++ flat_map f (environment_blocks c.environment) ++ flat_map f (map clock_block c.clocks)
    ++ flat_map f (stream_blocks 0 c.streams) ++ flat_map f (all_event_blocks 0 c.streams)
taken f c = simp flat_map-append

trace_alone : (c : Config) → flat_map trace_in (blocks_of c) ≡ trace_items c.uuid c.order (header_members c.header) ∷ []
trace_alone c =
    taken trace_in c ∙ simp (no_environment trace_in c.environment (λ fs. refl), none_taken trace_in clock_block c.clocks (λ k. refl), no_streams trace_in c.streams (λ k s. refl), no_events trace_in c.streams (λ is. refl))

clocks_alone : (c : Config) → flat_map clock_in (blocks_of c) ≡ flat_map clock_in (map clock_block c.clocks)
clocks_alone c = taken clock_in c ∙ simp (no_environment clock_in c.environment (λ fs. refl), no_streams clock_in c.streams (λ k s. refl), no_events clock_in c.streams (λ is. refl), append-nil)

environment_alone : (c : Config) → flat_map environment_in (blocks_of c) ≡ flat_map environment_in (environment_blocks c.environment)
environment_alone c =
    taken environment_in c ∙ simp (none_taken environment_in clock_block c.clocks (λ k. refl), no_streams environment_in c.streams (λ k s. refl), no_events environment_in c.streams (λ is. refl), append-nil)

streams_alone : (c : Config) → flat_map stream_in (blocks_of c) ≡ flat_map stream_in (stream_blocks 0 c.streams)
streams_alone c = taken stream_in c ∙ simp (no_environment stream_in c.environment (λ fs. refl), none_taken stream_in clock_block c.clocks (λ k. refl), no_events stream_in c.streams (λ is. refl), append-nil)

events_alone : (c : Config) → flat_map event_in (blocks_of c) ≡ flat_map event_in (all_event_blocks 0 c.streams)
events_alone c = taken event_in c ∙ simp (no_environment event_in c.environment (λ fs. refl), none_taken event_in clock_block c.clocks (λ k. refl), no_streams event_in c.streams (λ k s. refl))

clocks_read : (cs : List ClockType) → All IsHeldClock cs → each clock_meaning (flat_map clock_in (map clock_block cs)) ≡ Some cs
clocks_read cs h =
    ap (each clock_meaning) (flat_map-map clock_in clock_block cs ∙ flat_map_single clock_items cs) ∙ each_own IsHeldClock clock_meaning clock_items (λ c held. clock_is c held.uuid held.offset_seconds) cs h

facts_read : (es : List EnvironmentEntry) → at_most_one (flat_map environment_in (environment_blocks es)) ≡ Some (map named_fact_tree es)
facts_read es = grind arith

streams_meant : (c : Config) → IsConfig c → IsMetadata (metadata_of c) → streams_meaning (known_of c.order c.clocks) (blocks_of c) ≡ Some (streams_of 0 c.streams)
unfolding streams_meaning metadata_of
streams_meant c h m =
    let known = known_of c.order c.clocks in
    let streams = streams_read known 0 c.streams (recursion_from_All _ _ h.streams) (recursion_from_All _ _ m.streams) in
    rw (streams_alone c, streams, bares_by_number 0 c.streams, events_alone c, all_events_read known 0 c.streams h.streams, all_have c.streams 0 c.streams (omega arith))
    (each_with (all_tagged 0 c.streams) 0 c.streams (λ k le. refl))

-- the blocks mean the metadata
pub text_meant : (c : Config) → IsConfig c → IsHeld c → text_meta (blocks_of c) ≡ Some (metadata_of c)
unfolding text_meta metadata_of header_meaning
text_meant c h held =
    let m = metadata_is_allowed c h in let at = trace_found c.uuid c.order (header_members c.header) in
    let known = known_of c.order c.clocks in
    rw (
      trace_alone c,
      at.0,
      at.1,
      trace_uuid_is c.uuid c.order (header_members c.header) held.uuid,
      environment_alone c,
      facts_read c.environment,
      environment_is c.environment held.environment m.environment_distinct m.environment_few,
      clocks_alone c,
      clocks_read c.clocks held.clocks,
      no_two-distinct (map (λ k. k.name) c.clocks) m.clocks_distinct,
      at.2,
      structure_read known (header_members c.header) 8 (header_of c) (header_shows known.clocks c m.header),
      header_suits (header_of c).members m.magic m.uuid m.stream_id,
      streams_meant c h m,
    ) refl

-- so the written text denotes it
pub written_denotes : (c : Config) → IsConfig c → IsHeld c → AllByRecursion IsString (text_toks (blocks_of c)) → Denotes (written c) (metadata_of c)
unfolding written
written_denotes c h held strings =
    let reads = text_reads (blocks_of c) (blocks_writable c h held) strings in
    (reads.0, text_toks (blocks_of c), reads.1, reads.2, (blocks_of c, refl, text_meant c h held))
