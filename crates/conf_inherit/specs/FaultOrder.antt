-- Which fault of inheritance is told first: one of an alias before each other, of the aliases in byte order of their names, and one of
-- depth where nothing else is wrong.
use Rattle.std.specs.Prelude.{◌≡◌, ℕ, List}
use Rattle.std.specs.{Cmp.Lexicographic.slice_cmp, Ordering.nat_cmp, declared.cmp.Ordering.TheVariants.Less}
use Rattle.serde_json.specs.Data.{Data}
use Rattle.conf_tree.specs.{Flaw.{Flaw, key, within}, declared.fault_kind.FaultKind.FaultKind, declared.fault_kind.FaultKind.TheVariants.{TooDeep, Limit}}
use Rattle.conf_table.specs.declared.place.Place.TheVariants.{Root}
use Rattle.conf_inherit.specs.{Faults.FlawHolds, Resolution.{aliases_of, in_aliases}}

-- a fault of the configuration as it was given
abbrev pub IsWrong : Data → Flaw → Type 0
IsWrong t flaw = FlawHolds (aliases_of t) Root t flaw

-- the fault lies in the alias of this name
abbrev pub LiesInAlias : List ℕ → Flaw → Type 0
LiesInAlias k flaw = (inner : Flaw) × (flaw ≡ in_aliases (within (key k) inner))

-- the fault is no limit that a type passes
abbrev pub IsNoLimit : FaultKind → Type 0
IsNoLimit TooDeep = ⊥
IsNoLimit Limit = ⊥
IsNoLimit _ = Unit {0}

-- where anything is wrong with the configuration as it was given, that is what is told, and not that it resolves to what nests too deep
abbrev pub TellsDepthLast : Data → Flaw → Type 0
TellsDepthLast t flaw = (other : Flaw) → IsWrong t other → IsWrong t flaw

-- where anything is wrong in an alias, what is told lies in an alias
abbrev pub TellsAliasesFirst : Data → Flaw → Type 0
TellsAliasesFirst t flaw = (j : List ℕ) (other : Flaw) → LiesInAlias j other → IsWrong t other → (k : List ℕ) × LiesInAlias k flaw

-- where what is told lies in an alias, nothing is wrong in those before it, but maybe a limit that is passed: one that names a refused
-- alias is not asked for its limits
abbrev pub TellsFirstAlias : Data → Flaw → Type 0
TellsFirstAlias t flaw = (k : List ℕ) → LiesInAlias k flaw → (j : List ℕ) (other : Flaw) → slice_cmp nat_cmp j k ≡ Less → LiesInAlias j other → IsNoLimit other.kind → ¬ IsWrong t other

-- in this turn faults of inheritance are told
pub record IsToldInTurn (t : Data) (flaw : Flaw) : Type 0 where
  pub depth_last : TellsDepthLast t flaw
  pub aliases_first : TellsAliasesFirst t flaw
  pub first_alias : TellsFirstAlias t flaw
