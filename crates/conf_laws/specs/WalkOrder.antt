-- The order of a walk over a resolved configuration, and which of two flaws, or of two limits, stands before the other in it. At one value
-- its label comes first, then what it is by itself, its name and its class, the properties that it lacks, what it holds, and last its
-- shape as a whole. What a value has of flaws at one turn is ordered by place and kind.
use Rattle.std.specs.Prelude.{◌≡◌, ◌⊎◌, ◌<◌, ℕ, List, [], ◌∷◌, codes}
use Rattle.serde_json.specs.Data.{Data}
use Rattle.conf_tree.specs.Flaw.{Flaw, Place as PathPart, key, index}
use Rattle.conf_table.specs.declared.place.Place.TheVariants.{Root}
use Rattle.conf_table.specs.declared.row.Content.{Content}
use Rattle.conf_table.specs.declared.row.Content.TheVariants.{At}
use Rattle.conf_laws.specs.Around.{Around}
use Rattle.conf_laws.specs.FlawOrder.{NameBefore, PartBefore, BeforeAtTurn}
use Rattle.conf_laws.specs.TableFlaws.{IsFlawOf, HasNotItsRows}
use Rattle.conf_laws.specs.TableLimits.{PassesLimitOf}

-- ---- the turns of a walk

-- what a walk asks of a value
pub data Turn : Type 0 where
  its_label : Turn
  by_itself : Turn
  its_name : Turn
  its_class : Turn
  what_it_lacks : List ℕ → Turn
  what_it_holds : PathPart → Turn
  its_shape : Turn

-- and where that stands among the turns of one value
abbrev pub rank : Turn → ℕ
rank its_label = 0
rank by_itself = 1
rank its_name = 2
rank its_class = 3
rank (what_it_lacks name) = 4
rank (what_it_holds part) = 5
rank its_shape = 6

-- of two properties that a value lacks, or of two parts that it holds
abbrev pub OneBefore : Turn → Turn → Type 0
OneBefore (what_it_lacks k) (what_it_lacks l) = NameBefore k l
OneBefore (what_it_holds a) (what_it_holds b) = PartBefore a b
OneBefore _ _ = ⊥

abbrev pub TurnBefore : Turn → Turn → Type 0
TurnBefore t u = (rank t < rank u) ⊎ OneBefore t u

-- of two ways of a walk, the first turns at which they differ say which is before the other
abbrev pub WayBefore : List Turn → List Turn → Type 0
WayBefore (t ∷ way) (u ∷ other) = TurnBefore t u ⊎ ((t ≡ u) × WayBefore way other)
WayBefore _ _ = ⊥

-- ---- flaws

-- the way of a walk to a flaw by the table: to the value that has it, and then to what is wrong with that
abbrev pub way_to : {around : Around} {content : Content} {d : Data} {flaw : Flaw} → IsFlawOf around content d flaw → List Turn
way_to (IsFlawOf.wrong_value wrong) = by_itself ∷ []
way_to (IsFlawOf.wrong_class wrong) = its_class ∷ []
way_to (IsFlawOf.wrong_rows (HasNotItsRows.unknown name d has none)) = what_it_holds (key name) ∷ by_itself ∷ []
way_to (IsFlawOf.wrong_rows (HasNotItsRows.missing row has needed none)) = what_it_lacks row.name ∷ []
way_to (IsFlawOf.wrong_rows (HasNotItsRows.no_byte_order is trace native)) = what_it_lacks (codes "trace-byte-order") ∷ []
way_to (IsFlawOf.wrong_shape wrong) = its_shape ∷ []
way_to (IsFlawOf.wrong_name name d flaw has wrong) = what_it_holds (key name) ∷ its_name ∷ []
way_to (IsFlawOf.in_property before name d content flaw there is stays wrong) = what_it_holds (key name) ∷ way_to wrong
way_to (IsFlawOf.in_item i d flaw is wrong) = what_it_holds (index i) ∷ way_to wrong

-- of two flaws of one value
abbrev pub StandsBefore : {around : Around} {content : Content} {d : Data} {one other : Flaw} → IsFlawOf around content d one → IsFlawOf around content d other → Type 0
StandsBefore one other = WayBefore (way_to one) (way_to other)

-- a flaw of a whole configuration by the table, and before each other flaw that it has: in the order of the walk or, where both are at one
-- turn of it, by place and kind
abbrev pub IsFirstOf : Data → Flaw → Type 0
IsFirstOf d flaw =
    (first : IsFlawOf [] (At Root) d flaw)
    × ((other : Flaw) (wrong : IsFlawOf [] (At Root) d other) → StandsBefore first wrong ⊎ ((way_to first ≡ way_to wrong) × ((flaw ≡ other) ⊎ BeforeAtTurn flaw other)))

-- ---- limits

-- the way of a walk to a limit: to the value that passes it, or to its label
abbrev pub way_to_limit : {content : Content} {d : Data} {flaw : Flaw} → PassesLimitOf content d flaw → List Turn
way_to_limit (PassesLimitOf.too_large passed) = by_itself ∷ []
way_to_limit (PassesLimitOf.long_label label d entries has is labels long) = what_it_holds (key label) ∷ its_label ∷ []
way_to_limit (PassesLimitOf.in_property name d content flaw has is passed) = what_it_holds (key name) ∷ way_to_limit passed
way_to_limit (PassesLimitOf.in_item i d flaw is passed) = what_it_holds (index i) ∷ way_to_limit passed

-- of two limits that one value passes
abbrev pub LimitBefore : {content : Content} {d : Data} {one other : Flaw} → PassesLimitOf content d one → PassesLimitOf content d other → Type 0
LimitBefore one other = WayBefore (way_to_limit one) (way_to_limit other)

-- a limit that a whole configuration passes by the table, and that stands before each other one that it passes
abbrev pub IsFirstLimitOf : Data → Flaw → Type 0
IsFirstLimitOf d flaw = (first : PassesLimitOf (At Root) d flaw) × ((other : Flaw) (passed : PassesLimitOf (At Root) d other) → (flaw ≡ other) ⊎ LimitBefore first passed)
