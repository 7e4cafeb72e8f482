-- The names of the entries of maps, and the names that members take: a member's own, and that of its length where it is a
-- dynamic array (barectf 3.1, "Structure field type member object"; CTF 1.8.3, section 5.2).
use Rattle.std.specs.Prelude.{◌&&◌, ◌||◌, ℕ, Bool, false, List, [], ◌∷◌, Option, option_and_then, is_some, Result, Ok, Err, codes, ⊤, if◌then◌else◌}
use Rattle.serde_json.specs.Data.{Data, null, object, Members, no_members, member, put}
use Rattle.std.specs.Option.{option_map_or}
use Rattle.serde_json.specs.Find.{get_member, as_object}
use Rattle.ctf_types.specs.Packets.{own_names}
use Rattle.ctf_types.specs.Shown.{length_name}
use Rattle.conf_tree.specs.declared.fault_kind.FaultKind.TheVariants.{NameClash}
use Rattle.conf_tree.specs.Flaw.{Flaw, here}
use Rattle.conf_tree.specs.Reading.{◌>>=◌}
use Rattle.conf_table.specs.declared.place.Place.{Place}
use Rattle.conf_table.specs.declared.place.Place.TheVariants as places
use Rattle.conf_table.specs.declared.row.Keys.{Keys}
use Rattle.conf_table.specs.declared.row.Keys.TheVariants.{Name, PlainName, Label, Index}
use Rattle.conf_table.specs.Classes.{class_of, is_dynamic_array}
use Rattle.conf_table.specs.Table.{entries_of}
use Rattle.conf_values.specs.Name.{name_of, plain_name_of}
use Rattle.conf_values.specs.Scalar.{is_printable}
use Rattle.conf_judge.specs.Known.{Known}
use Rattle.conf_judge.specs.Leaves.{only_if}

-- the class of the member that an entry's value tells of
abbrev pub class_of_member : Data → Option Place
class_of_member d = option_and_then class_of (option_and_then as_object (option_and_then (get_member (codes "field-type")) (as_object d)))

-- the member of this value is a dynamic array
unfoldable pub is_dynamic : Data → Bool
is_dynamic d = option_map_or is_dynamic_array (class_of_member d) false

-- ---- names that are taken

abbrev pub take : List ℕ → Members → Members
take name taken = put name null taken

abbrev pub take_each : List (List ℕ) → Members → Members
take_each [] taken = taken
take_each (name ∷ names) taken = take_each names (take name taken)

-- of a packet context, the members that it has itself
unfoldable pub names_beside : Place → Members
names_beside places.ExtraMembers = take_each own_names no_members
names_beside _ = no_members

abbrev pub take_all : Members → Members → Members
take_all no_members taken = taken
take_all (member k d ms) taken = take_all ms (take k (if is_dynamic d then take (length_name k) taken else taken))

-- with the names that an entry's member has
abbrev pub with_names : Data → Members → Members
with_names (object ms) taken = take_all ms taken
with_names _ taken = taken

abbrev pub is_taken : Members → List ℕ → Bool
is_taken taken name = is_some (get_member name taken)

unfoldable pub free_of : Members → List ℕ → Data → Result ⊤ Flaw
free_of taken name d = if is_taken taken name || is_dynamic d && is_taken taken (length_name name) then Err (here NameClash) else Ok tt

-- ---- the name of an entry

-- the one property of an entry of a members list is a member's name
unfoldable pub key_by : Known → Place → Keys → List ℕ → Data → Result ⊤ Flaw
key_by k place Name name d = name_of name
key_by k places.Entry PlainName name d = plain_name_of name >>= (λ _. free_of k.taken name d)
key_by k place PlainName name d = plain_name_of name
key_by k place Label name d = only_if (is_printable name)
key_by k place Index name d = Ok tt

unfoldable pub key_of : Known → Place → List ℕ → Data → Result ⊤ Flaw
key_of k place name d = option_map_or (λ entries. key_by k place entries.keys name d) (entries_of place) (Ok tt)
