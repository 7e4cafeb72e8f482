-- The names of an object's properties and of a members list's entries.
use Rattle.std.specs.{Prelude.{◌≡◌, ℕ, List, [], ◌∷◌, ◌++◌, Option, None, Some, not, filter}, List.list_any, Str.bytes_eq}
use Rattle.serde_json.specs.{Data.{Data, array, object, Items, no_items, item, Members, no_members, member}, Find.{get, get_member}}
pub use Rattle.conf_tree.specs.Order.{AllAbove, IsInOrder}

abbrev pub names_of : Members → List (List ℕ)
names_of no_members = []
names_of (member k d ms) = k ∷ names_of ms

abbrev pub join_members : Members → Members → Members
join_members no_members more = more
join_members (member k d ms) more = member k d (join_members ms more)

abbrev pub join_items : Items → Items → Items
join_items no_items more = more
join_items (item d ds) more = item d (join_items ds more)

-- the properties of an object
abbrev pub properties_of : Data → Members
properties_of (object ms) = ms
properties_of _ = no_members

-- the items of a list
abbrev pub items_in : Data → Items
items_in (array ds) = ds
items_in _ = no_items

-- the entries of a members list: each is an object of one property, the member's name
abbrev pub entries_of : Items → Members
entries_of no_items = no_members
entries_of (item d ds) = join_members (properties_of d) (entries_of ds)

-- the names that are not seen yet
abbrev pub new_names : List (List ℕ) → List (List ℕ) → List (List ℕ)
new_names seen names = filter (λ n. not (list_any (bytes_eq n) seen)) names

-- the value that an option has, before the others
abbrev pub cons_some : Option Data → List Data → List Data
cons_some None ds = ds
cons_some (Some d) ds = d ∷ ds

-- the values of a name in several objects, nearest first
abbrev pub values_in : List ℕ → List Data → List Data
values_in k [] = []
values_in k (d ∷ ds) = cons_some (get k d) (values_in k ds)

-- the values of a member's name in several members lists, nearest first
abbrev pub entry_values : List ℕ → List Data → List Data
entry_values n [] = []
entry_values n (d ∷ ds) = cons_some (get_member n (entries_of (items_in d))) (entry_values n ds)

-- the members' names of several lists: those of the farthest in order, then each nearer list's new ones
abbrev pub member_names : List Data → List (List ℕ)
member_names [] = []
member_names (d ∷ ds) = member_names ds ++ new_names (member_names ds) (names_of (entries_of (items_in d)))

-- several lists joined, the farthest first
abbrev pub joined : List Data → Items
joined [] = no_items
joined (d ∷ ds) = join_items (joined ds) (items_in d)

-- no name stands twice
abbrev pub NoClash : Members → Type 0
NoClash no_members = Unit {0}
NoClash (member k d ms) = (get_member k ms ≡ None) × NoClash ms

abbrev pub map_items : (Data → Data) → Items → Items
map_items f no_items = no_items
map_items f (item d ds) = item (f d) (map_items f ds)
