-- A value laid over the resolved value of what it inherits from, or over nothing, where `done` holds the
-- resolved aliases. This is the merge that the code makes; that it is what look-up finds is proved.
use Rattle.std.specs.Prelude.{ℕ, List, Option, None, Some, Bool, false, ◌||◌, is_some, unwrap_or, if◌then◌else◌}
use Rattle.serde_json.specs.Data.{Data, null, boolean, number, string, array, object, Items, no_items, item, Members, no_members, member, put}
use Rattle.serde_json.specs.Find.{get, get_member}
use Rattle.conf_table.specs.declared.place.Place.{Place}
use Rattle.conf_table.specs.declared.place.Place.TheVariants as places
use Rattle.conf_inherit.specs.FieldPlaces.{place_under, names_alias, names_member_type, is_base_name, lists_members, field_type_name}
use Rattle.conf_inherit.specs.Names.{properties_of, items_in, join_items, map_items}

-- the resolved alias of a name
abbrev pub resolved : Members → List ℕ → Data
resolved done n = unwrap_or (get_member n done) null

-- what is laid over: a value of another kind counts as nothing
abbrev pub members_below : Option Data → Members
members_below None = no_members
members_below (Some b) = properties_of b

abbrev pub items_below : Option Data → Items
items_below None = no_items
items_below (Some b) = items_in b

-- a text where a field type stands, or anywhere else
abbrev pub lay_text : Members → Place → List ℕ → Data
lay_text done s n =
    if names_alias s then resolved done n
    else if names_member_type s then object (member field_type_name (resolved done n) no_members)
    else string n

-- a members list has an entry of the name
abbrev pub has_entry : List ℕ → Items → Bool
has_entry n no_items = false
has_entry n (item e es) = is_some (get n e) || has_entry n es

abbrev mutual
  pub lay : Members → Place → Data → Option Data → Data
  lay done s null base = null
  lay done s (boolean b) base = boolean b
  lay done s (number n) base = number n
  lay done s (string n) base = lay_text done s n
  lay done s (array es) base =
      if lists_members s then array (join_items (map_items (λ b. lay_over done es b) (items_below base)) (lay_new done es (items_below base)))
      else array (join_items (items_below base) es)
  lay done s (object ms) base = object (lay_members done s ms (members_below (lay_base done s ms base)))

  -- what an object is laid over: what it inherits from, or else the base
  pub lay_base : Members → Place → Members → Option Data → Option Data
  lay_base done s no_members base = base
  lay_base done s (member k d ms) base = if is_base_name s k then Some (lay done places.FieldType d None) else lay_base done s ms base

  -- each property over the base's property of its name
  pub lay_members : Members → Place → Members → Members → Members
  lay_members done s no_members base = base
  lay_members done s (member k d ms) base =
      if is_base_name s k then lay_members done s ms base
      else put k (lay done (place_under s k) d (get_member k base)) (lay_members done s ms base)

  -- the base's entry b, with the entry of its name over it
  pub lay_over : Members → Items → Data → Data
  lay_over done no_items b = b
  lay_over done (item e es) b = lay_over_entry done e b (lay_over done es b)

  pub lay_over_entry : Members → Data → Data → Data → Data
  lay_over_entry done (object ms) b rest = lay_over_member done ms b rest
  lay_over_entry done _ b rest = rest

  pub lay_over_member : Members → Members → Data → Data → Data
  lay_over_member done no_members b rest = rest
  lay_over_member done (member n d ms) b rest =
      if is_some (get n b) then object (member n (lay done places.Member d (get n b)) no_members)
      else lay_over_member done ms b rest

  -- the entries whose names the base has not
  pub lay_new : Members → Items → Items → Items
  lay_new done no_items seen = no_items
  lay_new done (item e es) seen = lay_new_entry done e seen (lay_new done es seen)

  pub lay_new_entry : Members → Data → Items → Items → Items
  lay_new_entry done (object ms) seen rest = lay_new_member done ms seen rest
  lay_new_entry done _ seen rest = rest

  pub lay_new_member : Members → Members → Items → Items → Items
  lay_new_member done no_members seen rest = rest
  lay_new_member done (member n d ms) seen rest =
      if has_entry n seen then lay_new_member done ms seen rest
      else item (object (member n (lay done places.Member d None) no_members)) (lay_new_member done ms seen rest)
