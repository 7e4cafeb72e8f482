-- The metadata that a text denotes: the text begins with its magic line, its tokens spell blocks, and the blocks mean the metadata.
-- Blocks stand in any order, and look-ups of clocks, of numbers and of the byte order go over the whole text. Where a rule has no
-- case, the text denotes nothing.
use Rattle.std.specs.Prelude.{◌≡◌, ℕ, Bool, true, not, ◌==◌, if◌then◌else◌, List, [], ◌∷◌, map, Option, Some, flat_map, bytes_eq}
use Rattle.std.specs.List.{list_all, list_any}
use Rattle.ctf_types.specs.{declared.ByteOrder.ByteOrder, declared.ClockType.ClockType, declared.Metadata.Metadata, declared.Stream.Stream}
use Rattle.ctf_types.specs.declared.Event.{Event}
use Rattle.ctf_types.specs.Names.{unused_keywords}
use Rattle.tsdl_grammar.specs.declared.atom.Atom.{Atom}
use Rattle.tsdl_grammar.specs.{declared.tree.Item.Item, declared.tree.NamedFact.NamedFact, declared.tree.Block.Block}
use Rattle.tsdl_grammar.specs.declared.atom.Atom.TheVariants as atoms
use Rattle.tsdl_grammar.specs.declared.tree.Block.TheVariants as blocks
use Rattle.tsdl_grammar.specs.{Tokens.HasMagicLine, Atoms.Reads, Spelling.text_toks, Lookups.no_two, IntegerMeaning.Known}
use Rattle.tsdl_grammar.specs.Steps.{◌>>=◌, provided, each, only, at_most_one, by_number}
use Rattle.tsdl_grammar.specs.BlockMeaning.{trace_order, is_trace, trace_uuid, header_meaning, clock_meaning, stream_meaning, event_meaning, environment_meaning}

-- no keyword for which nothing here has a use, wherever a word stands
abbrev pub is_read : Atom → Bool
is_read (atoms.Word w) = not (list_any (bytes_eq w) unused_keywords)
is_read _ = true

abbrev pub trace_in : Block → List (List Item)
trace_in (blocks.Trace is) = is ∷ []
trace_in _ = []

abbrev pub stream_in : Block → List (List Item)
stream_in (blocks.Stream is) = is ∷ []
stream_in _ = []

abbrev pub event_in : Block → List (List Item)
event_in (blocks.Event is) = is ∷ []
event_in _ = []

abbrev pub clock_in : Block → List (List Item)
clock_in (blocks.Clock is) = is ∷ []
clock_in _ = []

abbrev pub environment_in : Block → List (List NamedFact)
environment_in (blocks.Environment fs) = fs ∷ []
environment_in _ = []

-- the events of the stream of this number
abbrev pub events_of : ℕ → List (ℕ × Event) → List Event
events_of id [] = []
events_of id (e ∷ es) = if e.0 == id then (e.1 ∷ events_of id es) else events_of id es

-- a stream with its events, by number
abbrev pub with_events : List (ℕ × Event) → Stream → Option Stream
with_events events s = by_number (λ e. e.id) (events_of s.id events) >>= λ es. Some (record s { events = es })

-- each event is of a stream that is there
abbrev pub have_streams : List Stream → List (ℕ × Event) → Bool
have_streams streams events = list_all (λ e. list_any (λ s. s.id == e.0) streams) events

-- the streams by number, each with its events by number
unfoldable pub streams_meaning : Known → List Block → Option (List Stream)
streams_meaning known bs = do
  found ← each (stream_meaning known) (flat_map stream_in bs)
  streams ← by_number (λ s. s.id) found
  events ← each (event_meaning known) (flat_map event_in bs)
  provided (have_streams streams events) (each (with_events events) streams)

-- what integers have to know of the text
abbrev pub known_of : ByteOrder → List ClockType → Known
known_of order clocks = record { order = order; clocks = map (λ c. c.name) clocks }

-- the metadata that the blocks of a text mean
unfoldable pub text_meta : List Block → Option Metadata
text_meta bs = do
  trace ← only (flat_map trace_in bs)
  order ← provided (is_trace trace) (trace_order trace)
  uuid ← trace_uuid trace
  facts ← at_most_one (flat_map environment_in bs)
  environment ← environment_meaning facts
  clocks ← each clock_meaning (flat_map clock_in bs)
  let known = known_of order clocks
  header ← provided (no_two bytes_eq known.clocks) (header_meaning known trace)
  streams ← streams_meaning known bs
  Some (record { order = order; uuid = uuid; environment = environment; clocks = clocks; header = header; streams = streams })

-- the text denotes the metadata
abbrev pub Denotes : List ℕ → Metadata → Type 0
Denotes text metadata =
    HasMagicLine text × (meant : List Atom) × Reads text meant × (list_all is_read meant ≡ true)
    × ((bs : List Block) × (meant ≡ text_toks bs) × (text_meta bs ≡ Some metadata))

-- the text is one of these blocks: it begins with its magic line, and its tokens spell them
abbrev pub IsTextOf : List ℕ → List Block → Type 0
IsTextOf text bs = HasMagicLine text × (meant : List Atom) × Reads text meant × (list_all is_read meant ≡ true) × (meant ≡ text_toks bs)
