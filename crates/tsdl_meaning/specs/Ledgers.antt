-- What is kept of the blocks of a text so far: each fact is of a block that stands before the place.
use Rattle.std.specs.Prelude.{◌≡◌, ℕ, true, List, Some, codes}
use Rattle.std.specs.Ordering.{nat_cmp, ordering_then}
use Rattle.std.specs.declared.cmp.Ordering.{Ordering}
use Rattle.std.specs.BTreeMap.{ContainsKey}
use Rattle.std.specs.BTreeSet.{contains, contains_text}
use Rattle.tsdl_grammar.specs.declared.atom.Atom.{Atom}
use Rattle.tsdl_grammar.specs.declared.tree.Item.{Item}
use Rattle.tsdl_grammar.specs.declared.tree.NamedFact.{NamedFact}
use Rattle.tsdl_grammar.specs.declared.tree.Block.TheVariants as blocks
use Rattle.tsdl_grammar.specs.Spelling.{block_toks}
use Rattle.tsdl_grammar.specs.Lookups.{attrs_in}
use Rattle.tsdl_grammar.specs.BlockMeaning.{number_or_zero}
use Rattle.tsdl_flaw.specs.Fronts.{Holds}
use Rattle.tsdl_flaw.specs.Twice.{clock_name, HasNumbers}
use Rattle.tsdl_meaning.specs.declared.judge.ledger.Ledger.{Ledger}

-- pairs in order of their first number, then of their second
abbrev pub pair_cmp : ℕ × ℕ → ℕ × ℕ → Ordering
pair_cmp x y = ordering_then (nat_cmp x.0 y.0) (nat_cmp x.1 y.1)

-- a clock block of this name
abbrev pub HasClock : List Atom → List ℕ → Type 0
HasClock front name = (items : List Item) × Holds front (block_toks (blocks.Clock items)) × (clock_name items ≡ Some name)

-- a stream block of this number
abbrev pub HasStream : List Atom → ℕ → Type 0
HasStream front id = (items : List Item) × Holds front (block_toks (blocks.Stream items)) × (number_or_zero (codes "id") (attrs_in items) ≡ Some id)

-- an event block of these numbers, of its stream and its own
abbrev pub HasEvent : List Atom → ℕ × ℕ → Type 0
HasEvent front key = (items : List Item) × Holds front (block_toks (blocks.Event items)) × HasNumbers items key.0 key.1

pub record AreNoted (front : List Atom) (ledger : Ledger) : Type 0 where
  pub trace : ledger.has_trace ≡ true → (items : List Item) × Holds front (block_toks (blocks.Trace items))
  pub environment : ledger.has_environment ≡ true → (facts : List NamedFact) × Holds front (block_toks (blocks.Environment facts))
  pub clocks : (name : List ℕ) → contains_text ledger.clocks name ≡ true → HasClock front name
  pub streams : (id : ℕ) → contains nat_cmp ledger.streams id ≡ true → HasStream front id
  pub events : (key : ℕ × ℕ) → ContainsKey pair_cmp ledger.events key → HasEvent front key
