-- A whole configuration, whose aliases are taken out, and the resolved ones put into what the rest is laid to.
use Rattle.std.specs.{Prelude.{◌≡◌, ℕ, List, [], ◌∷◌, Option, option_and_then, if◌then◌else◌}, Str.bytes_eq}
use Rattle.serde_json.specs.{Data.{Data, object, Members, no_members, member}, Find.get}
use Rattle.conf_table.specs.declared.place.Place.TheVariants as places
use Rattle.conf_inherit.specs.{Laying.lay_members, Resolution.{trace_name, type_name, aliases_name}}

-- the value that a way of names leads to
abbrev pub at_way : List (List ℕ) → Option Data → Option Data
at_way [] found = found
at_way (k ∷ way) found = at_way way (option_and_then (get k) found)

-- the properties, with f of the value of one name, if it is there
abbrev pub with_property : List ℕ → (Data → Data) → Members → Members
with_property n f no_members = no_members
with_property n f (member k d ms) = if bytes_eq k n then member k (f d) ms else member k d (with_property n f ms)

abbrev pub in_property : List ℕ → (Data → Data) → Data → Data
in_property n f (object ms) = object (with_property n f ms)
in_property n f d = d

-- the object of these properties, in the place of another object
abbrev pub in_object : Members → Data → Data
in_object al (object ms) = object al
in_object al d = d

-- the object that a way leads to, with these properties, if there is one
abbrev pub with_object : List (List ℕ) → Members → Data → Data
with_object [] al = in_object al
with_object (k ∷ way) al = in_property k (with_object way al)

-- a configuration with these aliases in the place of its own, if it has any
unfoldable pub with_aliases : Members → Data → Data
with_aliases al v = with_object (trace_name ∷ type_name ∷ aliases_name ∷ []) al v

-- the resolved aliases are the aliases as they are laid
abbrev pub AreLaid : Members → Members → Type 0
AreLaid done al = done ≡ lay_members done places.FieldTypeAliases al no_members
