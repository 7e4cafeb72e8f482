-- Blocks and items in another order, and metadata that differs in the order of its clocks or of its environment alone.
use Rattle.std.specs.Prelude.{◌≡◌, List, [], ◌∷◌}
use Rattle.ctf_types.specs.declared.Metadata.{Metadata}
use Rattle.tsdl_grammar.specs.{declared.tree.Item.Item, declared.tree.NamedFact.NamedFact, declared.tree.Block.Block}
use Rattle.tsdl_grammar.specs.declared.tree.Block.TheVariants as blocks

-- the same items in another order: neighbours change places, as often as need be
pub data Reordered {A : Type 0} : List A → List A → Type 0 where
  same : (xs : List A) → Reordered xs xs
  neighbours : (x y : A) (xs : List A) → Reordered (x ∷ y ∷ xs) (y ∷ x ∷ xs)
  behind : (x : A) (xs ys : List A) → Reordered xs ys → Reordered (x ∷ xs) (x ∷ ys)
  further : (xs ys zs : List A) → Reordered xs ys → Reordered ys zs → Reordered xs zs

-- the same block, with its attributes and scopes or its entries in another order
pub data SameItems : Block → Block → Type 0 where
  traces : (is js : List Item) → Reordered is js → SameItems (blocks.Trace is) (blocks.Trace js)
  streams : (is js : List Item) → Reordered is js → SameItems (blocks.Stream is) (blocks.Stream js)
  events : (is js : List Item) → Reordered is js → SameItems (blocks.Event is) (blocks.Event js)
  clocks : (is js : List Item) → Reordered is js → SameItems (blocks.Clock is) (blocks.Clock js)
  environments : (fs gs : List NamedFact) → Reordered fs gs → SameItems (blocks.Environment fs) (blocks.Environment gs)

-- the items of two lists stand side by side in a relation
pub data Paired {A : Type 0} (R : A → A → Type 0) : List A → List A → Type 0 where
  none : Paired R [] []
  more : (x y : A) (xs ys : List A) → R x y → Paired R xs ys → Paired R (x ∷ xs) (y ∷ ys)

-- the same metadata, but for the order of its clocks
pub record SameButClockOrder (m n : Metadata) : Type 0 where
  pub clocks : Reordered m.clocks n.clocks
  pub others : n ≡ record m { clocks = n.clocks }

-- the same metadata, but for the order of its environment
pub record SameButEnvironmentOrder (m n : Metadata) : Type 0 where
  pub environment : Reordered m.environment n.environment
  pub others : n ≡ record m { environment = n.environment }
