-- What the stream and event blocks of a configuration mean: its streams by number, each with its events.
use Rattle.tsdl_writer.proofs.TreeWords.{arith, AllByRecursion, All, All-head, All-tail, EventType, IsEventType, IsStream, IsStreamType, Known, List, Some, StreamType, [], all_event_blocks, ap, codes, context_numbers, context_of, each, event_blocks, event_header_members, event_header_of, event_in, event_items, event_meaning, event_of, flat_map, flat_map-append, own_names, refl, shown_members, shown_struct, stream_blocks, stream_in, stream_items, stream_meaning, stream_of, streams_of, ℕ, ◌++◌, ◌+◌, ◌∙◌, ◌∷◌, ◌≡◌}
use Rattle.tsdl_writer.proofs.{StructureMeanings.structure_read, StructuresRead.{context_shows, event_header_shows, config_shows, all_suit}}
use Rattle.tsdl_writer.proofs.{BlockMeanings.{stream_is, event_is}, NumberedBlocks.{each-append, bare, bares, tagged, all_tagged}}
use Rattle.ctf_types.specs.MetadataOf as meta

stream_block_read : (known : Known) (n : ℕ) (s : StreamType) → IsStreamType known.clocks s → IsStream known.clocks (stream_of n s)
    → stream_meaning known (stream_items n (context_numbers s.context ++ s.extras.members) (event_header_members s.event_header) s.common.members s.common.min_align) ≡ Some (bare n s)
unfolding bare stream_of context_of shown_members
stream_block_read known n s t h =
    let context = context_numbers s.context ++ s.extras.members in let header = event_header_members s.event_header in
    stream_is known context header s.common.members s.common.min_align (bare n s)
    (structure_read known context 8 (context_of s) (context_shows known.clocks s t h.context), all_suit own_names (context_of s).members h.own_are_unsigned)
    (structure_read known header 8 (event_header_of s) (event_header_shows known.clocks s h.event_header), all_suit (codes "id" ∷ []) (event_header_of s).members (λ k d l. let one = h.id k d l in grind (arith, one)))
    (structure_read known s.common.members s.common.min_align (shown_struct s.common) (config_shows known.clocks s.common t.common)) (refl, refl) refl

pub streams_read : (known : Known) (n : ℕ) (ss : List StreamType) → AllByRecursion (IsStreamType known.clocks) ss → AllByRecursion (IsStream known.clocks) (streams_of n ss)
    → each (stream_meaning known) (flat_map stream_in (stream_blocks n ss)) ≡ Some (bares n ss)
unfolding streams_of
streams_read known n [] t h = refl
streams_read known n (s ∷ ss) t h = rw (stream_block_read known n s t.0 h.0, streams_read known (n + 1) ss t.1 h.1) refl

events_read : (known : Known) (stream n : ℕ) (s : StreamType) (es : List EventType) → All (IsEventType s) es → each (event_meaning known) (flat_map event_in (event_blocks stream n es)) ≡ Some (tagged stream (meta.events_of n es))
unfolding meta.events_of event_of
events_read known stream n s [] h = refl
events_read known stream n s (e ∷ es) h =
    let allowed = All-head (IsEventType s) e es h in
    let specific = structure_read known e.specific.members e.specific.min_align (shown_struct e.specific) (config_shows known.clocks e.specific allowed.specific) in
    let fields = structure_read known e.payload.members e.payload.min_align (shown_struct e.payload) (config_shows known.clocks e.payload allowed.payload) in
    let one : event_meaning known (event_items stream n e.name e.log_level e.specific.members e.specific.min_align e.payload.members e.payload.min_align) ≡ Some (stream, event_of n e) = event_is known stream (event_of n e) e.specific.members e.specific.min_align e.payload.members e.payload.min_align specific fields in
    rw (one, events_read known stream (n + 1) s es (All-tail (IsEventType s) e es h)) refl

pub all_events_read : (known : Known) (n : ℕ) (ss : List StreamType) → All (IsStreamType known.clocks) ss → each (event_meaning known) (flat_map event_in (all_event_blocks n ss)) ≡ Some (all_tagged n ss)
all_events_read known n [] t = refl
all_events_read known n (s ∷ ss) t =
    ap (each (event_meaning known)) (flat_map-append event_in (event_blocks n 0 s.events) (all_event_blocks (n + 1) ss))
    ∙ each-append (event_meaning known) (flat_map event_in (event_blocks n 0 s.events)) (flat_map event_in (all_event_blocks (n + 1) ss)) (tagged n (meta.events_of 0 s.events)) (all_tagged (n + 1) ss)
    (events_read known n 0 s s.events (All-head (IsStreamType known.clocks) s ss t).events) (all_events_read known (n + 1) ss (All-tail (IsStreamType known.clocks) s ss t))
