-- From the text of a configuration to the configuration: its tree, the tree with every inheritance resolved, and what that
-- says, row by row (barectf 3.1, "Configuration object" and the pages below it).
use Rattle.std.specs.Prelude.{◌≡◌, ◌⊎◌, ℕ, List, [], Option, Some, Result, Ok, Err, MatchResult}
use Rattle.serde_json.specs.Data.{Data}
use Rattle.ctf_types.specs.declared.Config.{Config}
use Rattle.conf_tree.specs.declared.fault.ConfFault.{ConfFault}
use Rattle.conf_tree.specs.declared.fault_kind.FaultKind.TheVariants.{NotJson}
use Rattle.conf_tree.specs.declared.limits.TheConstants.{MAX_LEVELS}
use Rattle.conf_tree.specs.Flaw.{Flaw, here, IsMemory}
use Rattle.conf_tree.specs.Walk.{IsTreeOf, IsFirstFlaw, Reads, FlawHolds}
use Rattle.conf_inherit.specs.FaultOrder.{IsToldInTurn}
use Rattle.conf_inherit.specs.Faults.{RefusalHolds}
use Rattle.conf_inherit.specs.Resolution.{resolution, Resolves}
use Rattle.conf_table.specs.declared.place.Place.TheVariants.{Root}
use Rattle.conf_table.specs.declared.row.Content.TheVariants.{At}
use Rattle.conf_draft.specs.declared.draft.Draft.{Draft}
use Rattle.conf_draft.specs.Traces.{draft_of}
use Rattle.conf_laws.specs.TableFlaws.{IsFlawOf}
use Rattle.conf_laws.specs.TableLimits.{PassesLimitOf}
use Rattle.conf_laws.specs.TreeOrder.{IsTreeFlaw, IsFirstInTree}
use Rattle.conf_check.specs.FirstFlaw.{IsFirstFlawOf, IsFlawOfWhole}
use Rattle.conf_check.specs.Judgement.{KeepsAllRows}
use Rattle.conf_check.specs.WholeFlaws.{BreaksRule}

-- c is what the resolved tree d says, where `number` is the identifier that is handed in: every row of its objects' tables
-- holds, no rule over the whole is broken, and no limit is passed
pub record IsConfigurationOf (d : Data) (number : Option (List ℕ)) (c : Config) : Type 0 where
  pub draft : Draft
  pub rows : KeepsAllRows d
  pub says : draft_of number d ≡ Some draft
  pub rules : (flaw : Flaw) → ¬ BreaksRule draft flaw
  pub within_limits : (flaw : Flaw) → ¬ PassesLimitOf (At Root) d flaw
  pub config_is : draft.config ≡ c

-- c is the configuration of the text, where `number` is the identifier that is handed in
abbrev pub Configures : List ℕ → Option (List ℕ) → Config → Type 0
Configures text number c =
    (t : Data) × (r : Data) × IsTreeOf text t × (resolution t ≡ Ok r) × IsConfigurationOf r number c

-- the same, where each property of the resolved tree has the value that is looked up along what its object inherits from
abbrev pub ConfiguresResolved : List ℕ → Option (List ℕ) → Config → Type 0
ConfiguresResolved text number c =
    (t : Data) × (r : Data) × IsTreeOf text t × Resolves t r × IsConfigurationOf r number c

-- c is the configuration of a text by look-up alone, where no fault of inheritance holds of its tree
abbrev pub ConfiguresByLookUp : List ℕ → Option (List ℕ) → Config → Type 0
ConfiguresByLookUp text number c =
    (t : Data) × (r : Data) × IsTreeOf text t × ((flaw : Flaw) → ¬ RefusalHolds t flaw) × Resolves t r × IsConfigurationOf r number c

-- that configuration is the answer, want of memory aside
abbrev pub GivesThat : Result Config ConfFault → Config → Type 0
GivesThat result c = MatchResult result (λ found. found ≡ c) IsMemory

-- the flaw is the first of the text: of the tree, of its inheritance, or of the resolved tree
abbrev pub IsRefusal : List ℕ → Option (List ℕ) → Flaw → Type 0
IsRefusal text number flaw =
    IsFirstFlaw text flaw
    ⊎ ((t : Data) × IsTreeOf text t × (resolution t ≡ Err flaw))
    ⊎ ((t : Data) × (r : Data) × IsTreeOf text t × (resolution t ≡ Ok r) × IsFirstFlawOf r number flaw)

-- where the text's value has a flaw as a tree, this flaw is the first that it has
abbrev pub TellsFirstInTree : List ℕ → Flaw → Type 0
TellsFirstInTree text flaw = (d : Data) (other : Flaw) → Reads text d → IsTreeFlaw d other → IsFirstInTree d flaw

-- of the faults of inheritance that the text's tree has, this flaw is told in its turn
abbrev pub TellsInheritanceInTurn : List ℕ → Flaw → Type 0
TellsInheritanceInTurn text flaw = (t : Data) → IsTreeOf text t → IsToldInTurn t flaw

-- the resolved tree is no configuration: an object has a row that does not hold, or all rows hold, and the whole breaks a rule
-- or passes a limit
abbrev pub IsNoConfiguration : Data → Option (List ℕ) → Flaw → Type 0
IsNoConfiguration d number flaw =
    IsFlawOf [] (At Root) d flaw
    ⊎ ((draft : Draft) × KeepsAllRows d × (draft_of number d ≡ Some draft) × IsFlawOfWhole d draft flaw)

-- the text is no JSON, or the flaw's kind holds at its path in the value that it is
abbrev pub IsNoTree : List ℕ → Flaw → Type 0
IsNoTree text flaw = ((flaw ≡ here NotJson) × ((d : Data) → ¬ Reads text d)) ⊎ ((d : Data) × Reads text d × FlawHolds d MAX_LEVELS flaw)

-- the flaw's kind holds at its path: in the text's value, in its inheritance, or in the resolved tree
abbrev pub RefusalIsTrue : List ℕ → Option (List ℕ) → Flaw → Type 0
RefusalIsTrue text number flaw =
    IsNoTree text flaw
    ⊎ ((t : Data) × IsTreeOf text t × RefusalHolds t flaw)
    ⊎ ((t : Data) × (r : Data) × IsTreeOf text t × Resolves t r × IsNoConfiguration r number flaw)

-- no fault is true of the text
abbrev pub HasNoFault : List ℕ → Option (List ℕ) → Type 0
HasNoFault text number = (flaw : Flaw) → RefusalIsTrue text number flaw → ⊥

-- where all rows hold, the fault is want of memory
abbrev pub IsInnocent : Data → Option (List ℕ) → ConfFault → Type 0
IsInnocent d number fault = (c : Config) → IsConfigurationOf d number c → IsMemory fault

-- where the text is a configuration, the fault is want of memory
abbrev pub RefusedForMemory : List ℕ → Option (List ℕ) → ConfFault → Type 0
RefusedForMemory text number fault = (c : Config) → Configures text number c → IsMemory fault
