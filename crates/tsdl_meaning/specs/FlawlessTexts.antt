-- What the blocks of a text are in which no flaw is found, one behind the other: what each one is behind the ledger of those before it, and what it adds to
-- the ledger.
use Rattle.std.specs.Prelude.{◌≡◌, ℕ, ◌<◌, ◌⊎◌, ◌↔◌, true, false, List, length, map, cond, Some, codes}
use Rattle.std.specs.List.{list_any, flat_map}
use Rattle.std.specs.Option.{is_some}
use Rattle.std.specs.Str.{bytes_eq}
use Rattle.std.specs.Ordering.{nat_cmp}
use Rattle.std.specs.BTreeMap.{BTreeMap, ContainsKey}
use Rattle.std.specs.BTreeSet.{BTreeSet, contains, contains_text}
use Rattle.std.specs.declared.string.String.{String}
use Rattle.std.specs.declared.alloc.Global.{Global}
use Rattle.ctf_types.specs.declared.ByteOrder.{ByteOrder}
use Rattle.ctf_types.specs.declared.ClockType.{ClockType}
use Rattle.ctf_types.specs.declared.EnvironmentEntry.{EnvironmentEntry}
use Rattle.ctf_types.specs.declared.limits.TheConstants.{MAX_ENVIRONMENT}
use Rattle.tsdl_grammar.specs.declared.tree.Item.{Item}
use Rattle.tsdl_grammar.specs.declared.tree.NamedFact.{NamedFact}
use Rattle.tsdl_grammar.specs.declared.tree.Block.{Block}
use Rattle.tsdl_grammar.specs.declared.tree.Block.TheVariants as blocks
use Rattle.tsdl_grammar.specs.Lookups.{attrs_in}
use Rattle.tsdl_grammar.specs.IntegerMeaning.{Known}
use Rattle.tsdl_grammar.specs.BlockMeaning.{number_or_zero, trace_order, clock_meaning, fact_meaning, environment_meaning}
use Rattle.tsdl_grammar.specs.Steps.{each, only}
use Rattle.tsdl_grammar.specs.Denotes.{trace_in, clock_in, known_of}
use Rattle.tsdl_flaw.specs.Twice.{clock_name, HasNumbers}
use Rattle.tsdl_meaning.specs.declared.judge.block.BlockKind.TheVariants as kinds
use Rattle.tsdl_meaning.specs.declared.judge.ledger.Ledger.{Ledger}
use Rattle.tsdl_meaning.specs.Ledgers.{pair_cmp}
use Rattle.tsdl_meaning.specs.FlawlessBlocks.{IsFlawlessBlock}

-- the entries of an environment mean something
abbrev pub MeanEntries : List NamedFact → Type 0
MeanEntries facts = (entries : List EnvironmentEntry) × (environment_meaning facts ≡ Some entries)

-- one more entry of an environment, of a new name, behind fewer than an environment may have
pub record AddsFact (before : List NamedFact) (fact : NamedFact) : Type 0 where
  pub few : length before < MAX_ENVIRONMENT
  pub fresh : list_any (bytes_eq fact.name) (map (λ f. f.name) before) ≡ false
  pub meant : is_some (fact_meaning fact.fact) ≡ true

-- a block without a flaw behind the blocks of a ledger; a trace or an environment is the only one
abbrev pub IsFlawlessBehind : Known → Ledger → Block → Type 0
IsFlawlessBehind known ledger (blocks.Trace is) = (ledger.has_trace ≡ false) × IsFlawlessBlock known kinds.Trace ledger is
IsFlawlessBehind known ledger (blocks.Stream is) = IsFlawlessBlock known kinds.Stream ledger is
IsFlawlessBehind known ledger (blocks.Event is) = IsFlawlessBlock known kinds.Event ledger is
IsFlawlessBehind known ledger (blocks.Clock is) = IsFlawlessBlock known kinds.Clock ledger is
IsFlawlessBehind known ledger (blocks.Environment facts) = (ledger.has_environment ≡ false) × MeanEntries facts

-- one more name of a clock
pub record AddsClock (before : Ledger) (is : List Item) (after : Ledger) : Type 0 where
  pub clocks : BTreeSet (String Global)
  pub others : after ≡ record before { clocks = clocks }
  pub added : (name : List ℕ) → clock_name is ≡ Some name → (w : List ℕ) → contains_text clocks w ≡ cond (bytes_eq name w) true (contains_text before.clocks w)

-- one more number of a stream
pub record AddsStream (before : Ledger) (is : List Item) (after : Ledger) : Type 0 where
  pub streams : BTreeSet ℕ
  pub others : after ≡ record before { streams = streams }
  pub added : (id : ℕ) → number_or_zero (codes "id") (attrs_in is) ≡ Some id → (n : ℕ) → (contains nat_cmp streams n ≡ true) ↔ ((n ≡ id) ⊎ (contains nat_cmp before.streams n ≡ true))

-- one more event
pub record AddsEvent (before : Ledger) (is : List Item) (after : Ledger) : Type 0 where
  pub events : BTreeMap (ℕ × ℕ) (String Global)
  pub others : after ≡ record before { events = events }
  pub known : (key : ℕ × ℕ) → ContainsKey pair_cmp events key → ContainsKey pair_cmp before.events key ⊎ HasNumbers is key.0 key.1
  pub added : (name : List ℕ) (stream id : ℕ) → clock_name is ≡ Some name → HasNumbers is stream id → ContainsKey pair_cmp events (stream, id) × ((key : ℕ × ℕ) → ContainsKey pair_cmp before.events key → ContainsKey pair_cmp events key)

abbrev pub AddsBlock : Ledger → Block → Ledger → Type 0
AddsBlock before (blocks.Trace is) after = after ≡ record before { has_trace = true }
AddsBlock before (blocks.Stream is) after = AddsStream before is after
AddsBlock before (blocks.Event is) after = AddsEvent before is after
AddsBlock before (blocks.Clock is) after = AddsClock before is after
AddsBlock before (blocks.Environment facts) after = after ≡ record before { has_environment = true }

-- no block so far
pub record IsEmpty (ledger : Ledger) : Type 0 where
  pub trace : ledger.has_trace ≡ false
  pub environment : ledger.has_environment ≡ false
  pub streams : (n : ℕ) → contains nat_cmp ledger.streams n ≡ false
  pub events : (key : ℕ × ℕ) → ContainsKey pair_cmp ledger.events key → ⊥

-- each event's stream is there
abbrev pub HaveStreams : Ledger → Type 0
HaveStreams ledger = (key : ℕ × ℕ) → ContainsKey pair_cmp ledger.events key → contains nat_cmp ledger.streams key.0 ≡ true

-- an event's stream is not there
pub record LacksStream (ledger : Ledger) : Type 0 where
  pub key : ℕ × ℕ
  pub there : ContainsKey pair_cmp ledger.events key
  pub alone : contains nat_cmp ledger.streams key.0 ≡ false

-- there is no trace block, or an event's stream is not there
abbrev pub LacksBlocks : Ledger → Type 0
LacksBlocks ledger = (ledger.has_trace ≡ false) ⊎ LacksStream ledger

-- this is what integers have to know of the blocks, where their trace has a byte order and their clocks mean something
abbrev pub Surveys : Known → List Block → Type 0
Surveys known bs =
    (trace : List Item) (order : ByteOrder) (clocks : List ClockType) → only (flat_map trace_in bs) ≡ Some trace → trace_order trace ≡ Some order
    → each clock_meaning (flat_map clock_in bs) ≡ Some clocks → known ≡ known_of order clocks
