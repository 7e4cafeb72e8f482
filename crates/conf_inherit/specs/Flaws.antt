-- What is wrong with a value: names of no alias, members lists of another form, names that stand twice in one, more
-- extra members than a packet context may have, and, where the resolved aliases are known, the limit that a field type
-- passes which is no part of another: the value of a `$inherit`, or any outside of all field types. The flaws are in
-- walk order: an object or a list before its content, an object in the byte order of its names, a list by index. The
-- limit of a field type comes behind all else that is wrong in it.
use Rattle.std.specs.Prelude.{◌&&◌, ◌||◌, ◌++◌, ℕ, suc, List, [], ◌∷◌, map, Option, None, Some, Bool, true, false, not, is_some, nat_lt, if◌then◌else◌}
use Rattle.serde_json.specs.Data.{Data, null, boolean, number, string, array, object, Items, no_items, item, Members, no_members, member, put}
use Rattle.serde_json.specs.{Events.items_len, Find.{get_member}}
use Rattle.ctf_types.specs.declared.limits.TheConstants.{MAX_CONFIG_MEMBERS}
use Rattle.conf_tree.specs.{Flaw.{Flaw, key, index, here, within}, declared.fault_kind.FaultKind.FaultKind}
use Rattle.conf_tree.specs.declared.fault_kind.FaultKind.TheVariants.{WrongKind, NoSuchAlias, NameClash, Limit}
use Rattle.conf_table.specs.declared.place.Place.{Place}
use Rattle.conf_table.specs.declared.place.Place.TheVariants as places
use Rattle.conf_inherit.specs.FieldPlaces.{place_under, place_of_items, names_type, names_member_type, is_base_name, lists_members, lists_extra_members, is_entry}
use Rattle.conf_inherit.specs.{Limits.limit_flaws, Named.has}

-- a members list is a list, or null
abbrev pub is_no_list : Data → Bool
is_no_list null = false
is_no_list (array es) = false
is_no_list _ = true

-- an entry is an object of one property
abbrev pub is_no_entry : Data → Bool
is_no_entry (object (member k d no_members)) = false
is_no_entry _ = true

-- a member's value is the name of an alias, or an object
abbrev pub is_no_member : Data → Bool
is_no_member (string n) = false
is_no_member (object ms) = false
is_no_member _ = true

-- a value of another kind than its place asks for
abbrev pub is_wrong : Place → Data → Bool
is_wrong s v = (lists_members s && is_no_list v) || (is_entry s && is_no_entry v) || (names_member_type s && is_no_member v)

-- what is wrong with the name of a type: it is no alias's
abbrev pub known_in : Members → List ℕ → Option FaultKind
known_in al n = if has al n then None else Some NoSuchAlias

-- what is wrong with a text that has to be such a name
abbrev pub name_fault : (List ℕ → Option FaultKind) → Place → Data → Option FaultKind
name_fault ask s (string n) = if names_type s then ask n else None
name_fault ask s _ = None

-- a list of more extra members than a packet context may have
abbrev pub is_crowded : Place → Data → Bool
is_crowded s (array es) = lists_extra_members s && nat_lt MAX_CONFIG_MEMBERS (items_len es)
is_crowded s _ = false

abbrev pub fault_or : Option FaultKind → List Flaw → List Flaw
fault_or (Some kind) flaws = here kind ∷ []
fault_or None flaws = flaws

-- the flaw of a value itself, where its name may be taken; `ask` says what is wrong with the name of a type
unfoldable pub own_flaws : (List ℕ → Option FaultKind) → Place → Bool → Data → List Flaw
own_flaws ask s taken v =
    if is_wrong s v then here WrongKind ∷ []
    else fault_or (name_fault ask s v) (if taken then here NameClash ∷ [] else if is_crowded s v then here Limit ∷ [] else [])

-- the names of the entries so far, with those of this one
abbrev pub mark_names : Members → Members → Members
mark_names no_members seen = seen
mark_names (member n d ms) seen = mark_names ms (put n null seen)

abbrev pub mark : Data → Members → Members
mark (object ms) seen = mark_names ms seen
mark _ seen = seen

-- the limit that a field type passes, where the resolved aliases are known
abbrev pub limits : Option Members → Place → Data → List Flaw
limits None s d = []
limits (Some done) s d = limit_flaws done s d

-- the value of this name in an object is a field type that is no part of another: what the object inherits from, or,
-- outside of all field types, any
abbrev pub is_alone : Bool → Place → List ℕ → Bool
is_alone outside s k = is_base_name s k || (outside && names_type (place_under s k))

unfoldable pub alone_flaws : Option Members → Bool → Place → List ℕ → Data → List Flaw
alone_flaws known outside s k d = if is_alone outside s k then limits known (place_under s k) d else []

-- what is in a value that stands outside of all field types does so too, unless the value is one
abbrev pub is_outside : Bool → Place → Bool
is_outside outside s = outside && not (names_type s)

abbrev mutual
  -- the flaws of all that is in a value; `seen` has the names of the entries before it
  pub inner_flaws : (List ℕ → Option FaultKind) → Option Members → Bool → Place → Members → Data → List Flaw
  inner_flaws ask known outside s seen null = []
  inner_flaws ask known outside s seen (boolean b) = []
  inner_flaws ask known outside s seen (number n) = []
  inner_flaws ask known outside s seen (string n) = []
  inner_flaws ask known outside s seen (array es) = item_flaws ask known outside s 0 no_members es
  inner_flaws ask known outside s seen (object ms) = member_flaws ask known outside s seen ms

  -- the items from place i on
  pub item_flaws : (List ℕ → Option FaultKind) → Option Members → Bool → Place → ℕ → Members → Items → List Flaw
  item_flaws ask known outside s i seen no_items = []
  item_flaws ask known outside s i seen (item e es) =
      map (within (index i)) (own_flaws ask (place_of_items s) false e ++ inner_flaws ask known outside (place_of_items s) seen e) ++ item_flaws ask known outside s (suc i) (mark e seen) es

  pub member_flaws : (List ℕ → Option FaultKind) → Option Members → Bool → Place → Members → Members → List Flaw
  member_flaws ask known outside s seen no_members = []
  member_flaws ask known outside s seen (member k d ms) =
      map (within (key k))
      ((own_flaws ask (place_under s k) (is_entry s && is_some (get_member k seen)) d ++ inner_flaws ask known (is_outside outside (place_under s k)) (place_under s k) no_members d)
      ++ alone_flaws known outside s k d)
      ++ member_flaws ask known outside s seen ms

-- the flaws of a value and all that is in it
abbrev pub value_flaws : (List ℕ → Option FaultKind) → Option Members → Bool → Place → Bool → Members → Data → List Flaw
value_flaws ask known outside s taken seen v = own_flaws ask s taken v ++ inner_flaws ask known outside s seen v

-- those of a field type, or of a part of one
abbrev pub flaws : Members → Option Members → Place → Bool → Members → Data → List Flaw
flaws al known s taken seen v = value_flaws (known_in al) known false s taken seen v

-- the flaws of a field type, and then the limit that it passes
abbrev pub asked_flaws : (List ℕ → Option FaultKind) → Members → Place → Data → List Flaw
asked_flaws ask done s v = value_flaws ask (Some done) false s false no_members v ++ limit_flaws done s v

abbrev pub type_flaws : Members → Members → Place → Data → List Flaw
type_flaws al done s v = asked_flaws (known_in al) done s v

-- the flaws of a whole configuration
abbrev pub whole_flaws : Members → Members → Data → List Flaw
whole_flaws al done t = value_flaws (known_in al) (Some done) true places.Root false no_members t
