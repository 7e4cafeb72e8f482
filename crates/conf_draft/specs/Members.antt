-- The members that a members list has: each entry is an object of one property, whose name is the member's and whose value tells
-- of its field type (barectf 3.1, "Structure field type member object").
use Rattle.std.specs.Prelude.{ℕ, false, List, [], ◌∷◌, ◌++◌, Option, Some, None, option_map, option_and_then, codes, if◌then◌else◌}
use Rattle.std.specs.List.{list_any}
use Rattle.std.specs.Option.{option_map_or}
use Rattle.std.specs.Str.{bytes_eq}
use Rattle.serde_json.specs.Data.{Data, object, Items, no_items, item, Members, no_members, member}
use Rattle.serde_json.specs.Find.{as_object}
use Rattle.ctf_types.specs.declared.Length.TheVariants.{Auto}
use Rattle.ctf_types.specs.declared.MemberType.{MemberType}
use Rattle.ctf_types.specs.declared.MemberType.TheVariants.{Plain, Dyn}
use Rattle.ctf_types.specs.Members.{names_in}
use Rattle.conf_table.specs.Classes.{class_of, is_dynamic_array}
use Rattle.conf_draft.specs.FieldTypes.{field_type, element}
use Rattle.conf_draft.specs.Lookups.{object as object_at}

unfoldable pub member_type : Members → Option MemberType
member_type ms = if option_map_or is_dynamic_array (class_of ms) false then option_map (λ t. Dyn t Auto) (element ms) else option_map (λ t. Plain t) (field_type (object ms))

-- the type that the value of an entry tells of
abbrev pub member_of : Data → Option MemberType
member_of d = option_and_then member_type (option_and_then (object_at (codes "field-type")) (as_object d))

-- a member behind others, none of which has its name
unfoldable pub behind : List (List ℕ × MemberType) → List ℕ → Option MemberType → Option (List (List ℕ × MemberType))
behind done name None = None
behind done name (Some t) = if list_any (bytes_eq name) (names_in done) then None else Some (done ++ (name, t) ∷ [])

abbrev pub behind_named : List (List ℕ × MemberType) → Members → Option (List (List ℕ × MemberType))
behind_named done no_members = Some done
behind_named done (member name d ms) = option_and_then (λ more. behind_named more ms) (behind done name (member_of d))

abbrev pub behind_entry : List (List ℕ × MemberType) → Data → Option (List (List ℕ × MemberType))
behind_entry done (object ms) = behind_named done ms
behind_entry done _ = Some done

abbrev pub members_behind : List (List ℕ × MemberType) → Items → Option (List (List ℕ × MemberType))
members_behind done no_items = Some done
members_behind done (item d ds) = option_and_then (λ more. members_behind more ds) (behind_entry done d)
