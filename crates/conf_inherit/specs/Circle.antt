-- Aliases that inherit in a circle.
use Rattle.std.specs.Prelude.{◌≡◌, ◌⊎◌, ℕ, zero, suc, List, Some}
use Rattle.serde_json.specs.{Data.{Data, string, array, object, Items, no_items, item, Members, no_members, member}, Find.get_member}
use Rattle.conf_table.specs.declared.place.Place.{Place}
use Rattle.conf_table.specs.declared.place.Place.TheVariants as places
use Rattle.conf_inherit.specs.{FieldPlaces.{place_under, place_of_items}, Named.Names}

abbrev mutual
  -- a value names the alias, itself or anywhere in it
  pub Mentions : List ℕ → Place → Data → Type 0
  Mentions m s (string n) = Names s × (n ≡ m)
  Mentions m s (array ds) = MentionsInItems m (place_of_items s) ds
  Mentions m s (object ms) = MentionsInMembers m s ms
  Mentions m s _ = ⊥

  pub MentionsInItems : List ℕ → Place → Items → Type 0
  MentionsInItems m s no_items = ⊥
  MentionsInItems m s (item d ds) = Mentions m s d ⊎ MentionsInItems m s ds

  pub MentionsInMembers : List ℕ → Place → Members → Type 0
  MentionsInMembers m s no_members = ⊥
  MentionsInMembers m s (member k d ms) = Mentions m (place_under s k) d ⊎ MentionsInMembers m s ms

-- so many steps from an alias to one that it names
abbrev pub Walks : Members → ℕ → List ℕ → Type 0
Walks al zero k = (w : Data) × (get_member k al ≡ Some w)
Walks al (suc n) k = (w : Data) × (m : List ℕ) × (get_member k al ≡ Some w) × Mentions m places.FieldType w × Walks al n m
