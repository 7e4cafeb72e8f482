-- The aliases are resolved in rounds: each whose names all have an outcome gets its own. What has none after as
-- many rounds as there are aliases inherits in a circle.
use Rattle.std.specs.Prelude.{◌≡◌, ◌&&◌, ◌||◌, ℕ, zero, suc, List, [], ◌∷◌, Option, Some, None, Result, Ok, Err, Bool, true, false, not, if◌then◌else◌}
use Rattle.serde_json.specs.{Data.{Data, null, Members, no_members, member, put}, Find.get_member}
use Rattle.conf_tree.specs.{Flaw.Flaw, declared.fault_kind.FaultKind.FaultKind}
use Rattle.conf_table.specs.declared.place.Place.TheVariants as places
use Rattle.conf_inherit.specs.{Flaws.flaws, Laying.lay, Limits.fitting, Named.{all_named, has}}

-- the aliases that are resolved, and the names of those that can't be
pub record Outcomes : Type 0 where
  pub done : Members
  pub refused : Members

-- an alias is resolved, or can't be
abbrev pub has_outcome : Outcomes → List ℕ → Bool
has_outcome st n = has st.done n || has st.refused n

-- a name is no alias's, or the alias has an outcome
abbrev pub is_over : Members → Outcomes → List ℕ → Bool
is_over al st n = has_outcome st n || not (has al n)

abbrev pub is_empty : List Flaw → Bool
is_empty [] = true
is_empty (f ∷ fs) = false

abbrev pub if_fitting : Result Data FaultKind → Option Data
if_fitting (Ok r) = Some r
if_fitting (Err kind) = None

-- the resolved alias, if all that it names is resolved, it has no flaw and it fits
abbrev pub outcome : Members → Members → Data → Option Data
outcome al done w =
    if all_named (has done) places.FieldType w && is_empty (flaws al (Some done) places.FieldType false no_members w) then if_fitting (fitting (lay done places.FieldType w None)) else None

abbrev pub concluded : List ℕ → Outcomes → Option Data → Outcomes
concluded k st None = record { done = st.done; refused = put k null st.refused }
concluded k st (Some r) = record { done = put k r st.done; refused = st.refused }

abbrev pub step : Members → List ℕ → Data → Outcomes → Outcomes
step al k w st =
    if has_outcome st k then st
    else if all_named (is_over al st) places.FieldType w then concluded k st (outcome al st.done w)
    else st

-- one round over the aliases
abbrev pub round : Members → Members → Outcomes → Outcomes
round al no_members st = st
round al (member k w ms) st = round al ms (step al k w st)

-- every alias has an outcome
abbrev pub all_over : Members → Outcomes → Bool
all_over no_members st = true
all_over (member k w ms) st = has_outcome st k && all_over ms st

-- the next round, if an alias has no outcome yet
abbrev pub next_round : Members → Outcomes → Outcomes
next_round al st = if all_over al st then st else round al al st

-- so many rounds
abbrev pub rounds : Members → ℕ → Outcomes → Outcomes
rounds al zero st = st
rounds al (suc n) st = next_round al (rounds al n st)

abbrev pub no_outcomes : Outcomes
no_outcomes = record { done = no_members; refused = no_members }

-- ---- turns in another order than that of the rounds

-- the outcomes that the turns of some aliases lead to, one after the other
pub data Reached (al : Members) : Outcomes → Type 0 where
  at_first : Reached al no_outcomes
  turned : (k : List ℕ) (w : Data) (st : Outcomes) → get_member k al ≡ Some w → Reached al st → Reached al (step al k w st)

-- an alias has an outcome, or it names one that has none
abbrev pub is_settled : Members → Outcomes → List ℕ → Data → Bool
is_settled al st k w = has_outcome st k || not (all_named (is_over al st) places.FieldType w)

abbrev pub all_settled : Members → Members → Outcomes → Bool
all_settled al no_members st = true
all_settled al (member k w ms) st = is_settled al st k w && all_settled al ms st
