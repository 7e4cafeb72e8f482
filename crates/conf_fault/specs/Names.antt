-- The names that a configuration has in the maps of its trace type.
use Rattle.std.specs.Prelude.{ℕ, List, [], ◌∷◌, Option, None, Some, if◌then◌else◌, codes}
use Rattle.std.specs.Option.{option_and_then}
use Rattle.std.specs.Str.{bytes_eq}
use Rattle.serde_json.specs.Data.{Data, Members, no_members, member}
use Rattle.serde_json.specs.Find.{as_object, get}
use Rattle.conf_tree.specs.Walk.{Reads}

-- the value that a text is, where it is JSON
abbrev pub IsRead : List ℕ → Option Data → Type 0
IsRead text None = (tree : Data) → ¬ Reads text tree
IsRead text (Some tree) = Reads text tree

-- the map of this name that the trace type has
unfoldable pub map_of : List ℕ → Data → Option Members
map_of name tree = option_and_then as_object (option_and_then (get name) (option_and_then (get (codes "type")) (get (codes "trace") tree)))

-- the names of members but one
abbrev pub other_names : List ℕ → Members → List (List ℕ)
other_names own no_members = []
other_names own (member name value ms) = if bytes_eq name own then other_names own ms else name ∷ other_names own ms

abbrev pub names_in : List ℕ → Option Members → List (List ℕ)
names_in own None = []
names_in own (Some ms) = other_names own ms

-- the names but one in the map of this name; none where there is no such map
abbrev pub known_names : List ℕ → List ℕ → Option Data → List (List ℕ)
known_names map own tree = names_in own (option_and_then (map_of map) tree)
