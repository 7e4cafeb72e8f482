-- Which flaw of a value as a tree is the first: an object or a list that is nested too deep and a number that is no whole one stand in the
-- order of a walk, an object or a list before its content, properties in byte order of their names, and items by index.
use Rattle.std.specs.Prelude.{◌≡◌, ◌⊎◌}
use Rattle.serde_json.specs.Data.{Data}
use Rattle.conf_tree.specs.declared.limits.TheConstants.{MAX_LEVELS}
use Rattle.conf_tree.specs.Flaw.{Flaw}
use Rattle.conf_tree.specs.Walk.{FlawHolds}
use Rattle.conf_laws.specs.FlawOrder.{OuterBefore}

-- a flaw of a value as a tree, where this limit of levels counts
abbrev pub IsTreeFlaw : Data → Flaw → Type 0
IsTreeFlaw d flaw = FlawHolds d MAX_LEVELS flaw

-- a flaw of a value as a tree that stands before each other one that the value has
abbrev pub IsFirstInTree : Data → Flaw → Type 0
IsFirstInTree d flaw = IsTreeFlaw d flaw × ((other : Flaw) → IsTreeFlaw d other → (flaw ≡ other) ⊎ OuterBefore flaw.path other.path)
