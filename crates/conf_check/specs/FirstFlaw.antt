-- Which flaw of a resolved configuration is the first. Those of its objects come first, in the order of a walk over them. Then come those
-- of the whole, each rule and the limits by the kind of fault that tells of it, in the order of the kinds, and in each of them the places
-- in the order of the walk: a value before what it holds, and properties in byte order of their names.
use Rattle.std.specs.Prelude.{◌≡◌, ◌⊎◌, ℕ, List, Option, Some}
use Rattle.serde_json.specs.Data.{Data}
use Rattle.conf_tree.specs.Flaw.{Flaw}
use Rattle.conf_table.specs.declared.place.Place.TheVariants.{Root}
use Rattle.conf_table.specs.declared.row.Content.TheVariants.{At}
use Rattle.conf_draft.specs.declared.draft.Draft.{Draft}
use Rattle.conf_draft.specs.Traces.{draft_of}
use Rattle.conf_laws.specs.FlawOrder.{BeforeInWhole}
use Rattle.conf_laws.specs.TableLimits.{PassesLimitOf}
use Rattle.conf_laws.specs.WalkOrder.{IsFirstOf}
use Rattle.conf_check.specs.Judgement.{KeepsAllRows}
use Rattle.conf_check.specs.WholeFlaws.{BreaksRule}

-- the whole breaks a rule, or passes a limit
abbrev pub IsFlawOfWhole : Data → Draft → Flaw → Type 0
IsFlawOfWhole d draft flaw = BreaksRule draft flaw ⊎ PassesLimitOf (At Root) d flaw

-- a flaw of the whole that is before each other one
abbrev pub IsFirstOfWhole : Data → Draft → Flaw → Type 0
IsFirstOfWhole d draft flaw = IsFlawOfWhole d draft flaw × ((other : Flaw) → IsFlawOfWhole d draft other → (flaw ≡ other) ⊎ BeforeInWhole flaw other)

-- the first flaw of a tree: of those of its objects by the table or, where every row holds, of those of the whole
pub data IsFirstFlawOf (d : Data) (number : Option (List ℕ)) (flaw : Flaw) : Type 0 where
  of_an_object : IsFirstOf d flaw → IsFirstFlawOf d number flaw
  of_the_whole : (draft : Draft) → KeepsAllRows d → draft_of number d ≡ Some draft → IsFirstOfWhole d draft flaw → IsFirstFlawOf d number flaw
