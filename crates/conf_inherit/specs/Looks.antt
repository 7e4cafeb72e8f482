-- Look-up along inheritance. A value is looked up among several, nearest first: the one that stands at a
-- place, then those that it is laid over. Their chain is the objects, or the lists, that count together.
-- Objects are looked up name by name, members lists entry by entry, and other lists are joined.
use Rattle.std.specs.Prelude.{◌≡◌, ℕ, List, [], ◌∷◌, Option, None, Some, true, false, if◌then◌else◌}
use Rattle.serde_json.specs.{Data.{Data, string, array, object, Items, no_items, item, Members, no_members, member}, Find.get_member}
use Rattle.conf_table.specs.declared.place.Place.{Place}
use Rattle.conf_table.specs.declared.place.Place.TheVariants as places
use Rattle.conf_inherit.specs.FieldPlaces.{place_under, names_alias, names_member_type, is_base_name, lists_members, field_type_name}
use Rattle.conf_inherit.specs.Names.{IsInOrder, values_in, entry_values, member_names, joined}

-- what an object inherits from: the value of `$inherit`, where a field type stands
abbrev pub base_of : Place → Members → Option Data
base_of s no_members = None
base_of s (member k d ms) = if is_base_name s k then Some d else base_of s ms

-- a chain goes on only with values of the same kind
abbrev pub if_objects : List Data → List Data
if_objects (object ms ∷ ds) = object ms ∷ ds
if_objects _ = []

abbrev pub if_lists : List Data → List Data
if_lists (array es ∷ ds) = array es ∷ ds
if_lists _ = []

-- a value that stands for itself: a scalar, null, or a text that is no alias's name
abbrev pub IsPlain : Place → Data → Type 0
IsPlain s (string n) = (names_alias s ≡ false) × (names_member_type s ≡ false)
IsPlain s (array es) = ⊥
IsPlain s (object ms) = ⊥
IsPlain s _ = Unit {0}

-- the values of a name in a chain; `$inherit` is no property of what is looked up
abbrev pub values_at : Place → List ℕ → List Data → List Data
values_at s k cs = if is_base_name s k then [] else values_in k cs

-- the chain of the values at a place, under the aliases al
pub data Chain (al : Members) : Place → List Data → List Data → Type 0 where
  nothing : {s : Place} → Chain al s [] []
  alias : {s : Place} {n : List ℕ} {w : Data} {vs cs : List Data} → names_alias s ≡ true → get_member n al ≡ Some w → Chain al places.FieldType (w ∷ []) cs → Chain al s (string n ∷ vs) cs
  member_alias : {s : Place} {n : List ℕ} {vs : List Data} → names_member_type s ≡ true → Chain al s (string n ∷ vs) (object (member field_type_name (string n) no_members) ∷ [])
  heir : {s : Place} {ms : Members} {b : Data} {vs cs : List Data} → base_of s ms ≡ Some b → Chain al places.FieldType (b ∷ []) cs → Chain al s (object ms ∷ vs) (object ms ∷ if_objects cs)
  own : {s : Place} {ms : Members} {vs cs : List Data} → base_of s ms ≡ None → Chain al s vs cs → Chain al s (object ms ∷ vs) (object ms ∷ if_objects cs)
  a_list : {s : Place} {es : Items} {vs cs : List Data} → Chain al s vs cs → Chain al s (array es ∷ vs) (array es ∷ if_lists cs)
  plain : {s : Place} {v : Data} {vs : List Data} → IsPlain s v → Chain al s (v ∷ vs) (v ∷ [])

mutual
  -- the values vs at a place, nearest first, are looked up as r
  pub data Looks (al : Members) : Place → List Data → Data → Type 0 where
    looks : {s : Place} {vs cs : List Data} {r : Data} → Chain al s vs cs → Shows al s cs r → Looks al s vs r

  -- a chain shows r
  pub data Shows (al : Members) : Place → List Data → Data → Type 0 where
    a_scalar : {s : Place} {v : Data} → IsPlain s v → Shows al s (v ∷ []) v
    an_object : {s : Place} {ms rs : Members} {cs : List Data} → IsInOrder rs
        → ((k : List ℕ) (r : Data) → get_member k rs ≡ Some r → Looks al (place_under s k) (values_at s k (object ms ∷ cs)) r)
        → ((k : List ℕ) → get_member k rs ≡ None → values_at s k (object ms ∷ cs) ≡ [])
        → Shows al s (object ms ∷ cs) (object rs)
    the_members : {s : Place} {es rs : Items} {cs : List Data} → lists_members s ≡ true → Entries al (array es ∷ cs) (member_names (array es ∷ cs)) rs → Shows al s (array es ∷ cs) (array rs)
    a_join : {s : Place} {es : Items} {cs : List Data} → lists_members s ≡ false → Shows al s (array es ∷ cs) (array (joined (array es ∷ cs)))

  -- the entries of these names, each looked up in the lists of a chain
  pub data Entries (al : Members) : List Data → List (List ℕ) → Items → Type 0 where
    no_entry : {cs : List Data} → Entries al cs [] no_items
    an_entry : {cs : List Data} {n : List ℕ} {r : Data} {ns : List (List ℕ)} {rs : Items} → Looks al places.Member (entry_values n cs) r → Entries al cs ns rs → Entries al cs (n ∷ ns) (item (object (member n r no_members)) rs)

-- every resolved alias is what the alias is looked up as
abbrev pub AreResolved : Members → Members → Type 0
AreResolved al done = (n : List ℕ) (r : Data) → get_member n done ≡ Some r → (w : Data) × (get_member n al ≡ Some w) × Looks al places.FieldType (w ∷ []) r
