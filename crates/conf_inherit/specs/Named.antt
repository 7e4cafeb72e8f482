-- The names of aliases in a value.
use Rattle.std.specs.Prelude.{◌≡◌, ◌&&◌, ◌||◌, ℕ, List, Bool, true, not, is_some}
use Rattle.serde_json.specs.{Data.{Data, string, array, object, Items, no_items, item, Members, no_members, member}, Find.get_member}
use Rattle.conf_table.specs.declared.place.Place.{Place}
use Rattle.conf_inherit.specs.FieldPlaces.{place_under, place_of_items, names_type}

abbrev mutual
  -- every text of a value that names an alias passes the test
  pub all_named : (List ℕ → Bool) → Place → Data → Bool
  all_named p s (string n) = not (names_type s) || p n
  all_named p s (array ds) = all_named_in_items p (place_of_items s) ds
  all_named p s (object ms) = all_named_in_members p s ms
  all_named p s _ = true

  pub all_named_in_items : (List ℕ → Bool) → Place → Items → Bool
  all_named_in_items p s no_items = true
  all_named_in_items p s (item d ds) = all_named p s d && all_named_in_items p s ds

  pub all_named_in_members : (List ℕ → Bool) → Place → Members → Bool
  all_named_in_members p s no_members = true
  all_named_in_members p s (member k d ms) = all_named p (place_under s k) d && all_named_in_members p s ms

-- a text at this place names an alias
abbrev pub Names : Place → Type 0
Names s = names_type s ≡ true

-- one of the members has the name
abbrev pub has : Members → List ℕ → Bool
has ms n = is_some (get_member n ms)
