-- Worked rows of inheritance, by computing: three aliases that inherit one from another, two that inherit from each
-- other, and one that names itself and what is no alias.
use Rattle.std.specs.Prelude.{◌≡◌, ℕ, List, codes, Ok, Err, [], ◌∷◌, refl}
use Rattle.serde_json.specs.Data.{Data, number, string, array, object, unsigned, Items, no_items, item, Members, no_members, member}
use Rattle.conf_tree.specs.{declared.fault_kind.FaultKind.TheVariants.{InheritCycle, NoSuchAlias}, Flaw.{key, index}}
use Rattle.conf_table.specs.Table.{rows_of, entries_of, content_under, place_in}
use Rattle.conf_inherit.specs.{AliasFlaws.alias_flaws, Flaws.{own_flaws, alone_flaws}, Resolution.{Resolves, aliases_of, resolution, trace_name, type_name, aliases_name}, Names.NoClash}
use Rattle.conf_inherit.specs.FieldPlaces.{field_place, field_type_name, names_alias, place_under, place_in_type, inherit_name, names_member_type, place_of_items, lists_members, lists_extra_members, is_entry, is_base_name}
use Rattle.conf_inherit.proofs.RoundLemmas.{resolution_sound}

-- `{"class": "uint", "size": size}`
abbrev integer : ℕ → Data
integer size = object (member (codes "class") (string (codes "uint")) (member (codes "size") (number (unsigned size)) no_members))

-- `{name: {"field-type": type}}`
abbrev entry : List ℕ → Data → Data
entry name type = object (member name (object (member (codes "field-type") type no_members)) no_members)

-- `{"class": "struct", "members": members}`
abbrev structure : Items → Data
structure members = object (member (codes "class") (string (codes "struct")) (member (codes "members") (array members) no_members))

-- `{"$inherit": base, "members": members}`
abbrev heir_of : List ℕ → Items → Data
heir_of base members = object (member (codes "$inherit") (string base) (member (codes "members") (array members) no_members))

-- x of 8 bits and y of 8 bits
abbrev alias_a : Data
alias_a = structure (item (entry (codes "x") (integer 8)) (item (entry (codes "y") (integer 8)) no_items))

-- inherits from A, with an x of 4 bits
abbrev alias_b : Data
alias_b = heir_of (codes "A") (item (entry (codes "x") (object (member (codes "size") (number (unsigned 4)) no_members))) no_items)

-- inherits from B, with a z of 4 bits behind
abbrev alias_c : Data
alias_c = heir_of (codes "B") (item (entry (codes "z") (integer 4)) no_items)

-- a configuration with these aliases
abbrev with_aliases : Members → Data
with_aliases aliases =
    object (member (codes "trace") (object (member (codes "type") (object (member (codes "$field-type-aliases") (object aliases) no_members)) no_members)) no_members)

abbrev three : Data
three = with_aliases (member (codes "A") alias_a (member (codes "B") alias_b (member (codes "C") alias_c no_members)))

abbrev resolved_b : Data
resolved_b = structure (item (entry (codes "x") (integer 4)) (item (entry (codes "y") (integer 8)) no_items))

-- x of 4 bits, y and z, in this order
abbrev resolved_c : Data
resolved_c = structure (item (entry (codes "x") (integer 4)) (item (entry (codes "y") (integer 8)) (item (entry (codes "z") (integer 4)) no_items)))

abbrev resolved_three : Data
resolved_three = with_aliases (member (codes "A") alias_a (member (codes "B") resolved_b (member (codes "C") resolved_c no_members)))

three_resolved : resolution three ≡ Ok resolved_three
unfolding alias_flaws own_flaws alone_flaws trace_name type_name aliases_name field_type_name names_alias place_under content_under entries_of rows_of place_in field_place place_in_type inherit_name names_member_type place_of_items lists_members lists_extra_members is_entry is_base_name
three_resolved = refl

three_apart : NoClash (aliases_of three)
unfolding trace_name type_name aliases_name
three_apart = (refl, (refl, (refl, tt)))

-- each property has the value that look-up finds
three_resolves : Resolves three resolved_three
three_resolves = (resolution_sound three resolved_three three_apart three_resolved).0

-- P inherits from Q, and Q from P
abbrev circle : Data
circle =
    with_aliases (member (codes "P") (object (member (codes "$inherit") (string (codes "Q")) no_members))
    (member (codes "Q") (object (member (codes "$inherit") (string (codes "P")) no_members)) no_members))

circle_refused : resolution circle ≡ Err (record { path = key (codes "trace") ∷ key (codes "type") ∷ key (codes "$field-type-aliases") ∷ key (codes "P") ∷ []; kind = InheritCycle })
unfolding alias_flaws own_flaws alone_flaws trace_name type_name aliases_name field_type_name names_alias place_under content_under entries_of rows_of place_in field_place place_in_type inherit_name lists_members is_entry names_member_type is_base_name
circle_refused = refl

-- P with the members x and y, of these types
abbrev two_texts : List ℕ → List ℕ → Data
two_texts one other =
    with_aliases (member (codes "P") (object (member (codes "members") (array (item (object (member (codes "x") (string one) no_members)) (item (object (member (codes "y") (string other) no_members)) no_items))) no_members)) no_members)

-- the flaw stands before the circle
flaw_before_circle : resolution (two_texts (codes "nope") (codes "P")) ≡ Err (record { path = key (codes "trace") ∷ key (codes "type") ∷ key (codes "$field-type-aliases") ∷ key (codes "P") ∷ key (codes "members") ∷ index 0 ∷ key (codes "x") ∷ []; kind = NoSuchAlias })
unfolding alias_flaws own_flaws alone_flaws trace_name type_name aliases_name field_type_name names_alias place_under content_under entries_of rows_of place_in field_place place_in_type inherit_name lists_members is_entry names_member_type place_of_items lists_extra_members
flaw_before_circle = refl

-- the circle stands before the flaw
circle_before_flaw : resolution (two_texts (codes "P") (codes "nope")) ≡ Err (record { path = key (codes "trace") ∷ key (codes "type") ∷ key (codes "$field-type-aliases") ∷ key (codes "P") ∷ []; kind = InheritCycle })
unfolding alias_flaws own_flaws alone_flaws trace_name type_name aliases_name field_type_name names_alias place_under content_under entries_of rows_of place_in field_place place_in_type inherit_name lists_members is_entry names_member_type place_of_items is_base_name lists_extra_members
circle_before_flaw = refl
