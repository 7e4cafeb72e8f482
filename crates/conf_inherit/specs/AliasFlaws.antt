-- What is wrong with the aliases, in byte order of their names, once each has had its rounds.
use Rattle.std.specs.Prelude.{ℕ, List, [], ◌∷◌, ◌++◌, map, Option, Some, None, Result, Ok, Err, Bool, true, false, ⊤, if◌then◌else◌}
use Rattle.serde_json.specs.Data.{Data, Members, no_members, member}
use Rattle.conf_tree.specs.{Flaw.{Flaw, key, here, within}, Walk.refusal, declared.fault_kind.FaultKind.FaultKind}
use Rattle.conf_tree.specs.declared.fault_kind.FaultKind.TheVariants.{InheritCycle, NoSuchAlias}
use Rattle.conf_table.specs.declared.place.Place.TheVariants as places
use Rattle.conf_inherit.specs.{Flaws.{type_flaws, asked_flaws}, Named.has, Rounds.{Outcomes, has_outcome}}

-- what is wrong with the name of a type in an alias without an outcome: it is no alias's, or that of one without an
-- outcome too
abbrev pub open_in : Members → Outcomes → List ℕ → Option FaultKind
open_in al st n = if has al n then (if has_outcome st n then None else Some InheritCycle) else Some NoSuchAlias

abbrev pub is_circle : FaultKind → Bool
is_circle InheritCycle = true
is_circle _ = false

-- the first flaw of an alias without an outcome, unless that is a text that leads into the circle, which then is the
-- flaw, at the alias itself
abbrev pub first_or_circle : Result ⊤ Flaw → List Flaw
first_or_circle (Ok x) = here InheritCycle ∷ []
first_or_circle (Err flaw) = if is_circle flaw.kind then here InheritCycle ∷ [] else flaw ∷ []

-- an alias that can't be resolved has the flaws of its type; one without an outcome leads into a circle
unfoldable pub alias_flaws : Members → Outcomes → List ℕ → Data → List Flaw
alias_flaws al st k w =
    if has st.done k then []
    else if has st.refused k then type_flaws al st.done places.FieldType w
    else first_or_circle (refusal (asked_flaws (open_in al st) st.done places.FieldType w))

abbrev pub all_alias_flaws : Members → Outcomes → Members → List Flaw
all_alias_flaws al st no_members = []
all_alias_flaws al st (member k w ms) = map (within (key k)) (alias_flaws al st k w) ++ all_alias_flaws al st ms
