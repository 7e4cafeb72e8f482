-- The resolution of a configuration: its aliases, and the tree in which each property has the value that is
-- looked up for it.
use Rattle.std.specs.Prelude.{ℕ, List, [], ◌∷◌, Option, None, Some, option_and_then, codes, Result, Ok, Err, ⊤}
use Rattle.serde_json.specs.{Data.{Data, object, Members, no_members}, Find.get, Events.members_len}
use Rattle.conf_tree.specs.{Flaw.{Flaw, key, within}, Reading.◌>>=◌, Walk.refusal}
use Rattle.conf_tree.specs.declared.limits.TheConstants.{MAX_LEVELS}
use Rattle.conf_inherit.specs.{AliasFlaws.all_alias_flaws, Laying.lay, Nesting.deep_flaws, Flaws.whole_flaws, Rounds.{Outcomes, rounds, no_outcomes}}
use Rattle.conf_inherit.specs.Looks.{Looks}
use Rattle.conf_table.specs.declared.place.Place.TheVariants as places

abbrev pub members_or_none : Option Data → Members
members_or_none (Some (object ms)) = ms
members_or_none _ = no_members

unfoldable pub trace_name : List ℕ
trace_name = codes "trace"

unfoldable pub type_name : List ℕ
type_name = codes "type"

unfoldable pub aliases_name : List ℕ
aliases_name = codes "$field-type-aliases"

-- the field type aliases of a configuration
abbrev pub aliases_of : Data → Members
aliases_of t = members_or_none (option_and_then (get aliases_name) (option_and_then (get type_name) (get trace_name t)))

-- r is t with every inheritance resolved
abbrev pub Resolves : Data → Data → Type 0
Resolves t r = Looks (aliases_of t) places.Root (t ∷ []) r

-- ---- what `resolve` answers: the first fault in walk order, the aliases before all else, or the resolved tree

-- a fault of the aliases, seen from the configuration
abbrev pub in_aliases : Flaw → Flaw
in_aliases flaw = within (key trace_name) (within (key type_name) (within (key aliases_name) flaw))

abbrev pub from_aliases : Result ⊤ Flaw → Result ⊤ Flaw
from_aliases (Ok x) = Ok x
from_aliases (Err flaw) = Err (in_aliases flaw)

-- the whole resolved tree, unless an object or a list in it stands inside as many others as may nest
abbrev pub if_shallow : Data → Result Data Flaw
if_shallow r = refusal (deep_flaws r MAX_LEVELS) >>= (λ a. Ok r)

-- the aliases are judged before the whole, and the levels of what it is laid to behind it
abbrev pub resolution_after : Members → Outcomes → Data → Result Data Flaw
resolution_after al st t =
    from_aliases (refusal (all_alias_flaws al st al)) >>= (λ a. refusal (whole_flaws al st.done t) >>= (λ b. if_shallow (lay st.done places.Root t None)))

abbrev pub resolution_under : Members → Data → Result Data Flaw
resolution_under al t = resolution_after al (rounds al (members_len al) no_outcomes) t

abbrev pub resolution : Data → Result Data Flaw
resolution t = resolution_under (aliases_of t) t
