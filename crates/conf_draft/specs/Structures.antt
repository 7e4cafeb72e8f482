-- Structures: payloads, contexts, and the extra members of a packet context (barectf 3.1, "Structure field type object"). A
-- structure without members aligns nothing.
use Rattle.std.specs.Prelude.{ℕ, ◌%◌, ◌==◌, nat_lt, List, [], ◌∷◌, Option, Some, option_and_then, unwrap_or, codes}
use Rattle.std.specs.Option.{option_map_or}
use Rattle.std.proofs.lemmas.Bool.{ltb-true, eqb-true}
use Rattle.serde_json.specs.Data.{no_items, Members}
use Rattle.ctf_types.specs.declared.limits.TheConstants.{LARGEST_ALIGN}
use Rattle.ctf_types.specs.declared.MemberType.{MemberType}
use Rattle.ctf_types.specs.declared.StructType.{StructType}
use Rattle.conf_table.specs.declared.place.Place.TheVariants as places
use Rattle.conf_values.specs.Parts.{proved}
use Rattle.conf_draft.specs.Defaults.{alignment_or_default}
use Rattle.conf_draft.specs.Lookups.{object, list}
use Rattle.conf_draft.specs.Members.{members_behind}

-- its minimum alignment is a power of two up to the largest
unfoldable pub made : List (List ℕ × MemberType) → ℕ → Option StructType
made members align =
    proved (nat_lt 0 align) (λ positive. proved (LARGEST_ALIGN % align == 0) (λ power.
    Some (record { members = members; min_align = align; positive = ltb-true 0 align positive; power_of_two = eqb-true (LARGEST_ALIGN % align) 0 power })))

abbrev pub align_for : List (List ℕ × MemberType) → ℕ → ℕ
align_for [] align = 1
align_for (m ∷ ms) align = align

unfoldable pub listed : List ℕ → Members → Option (List (List ℕ × MemberType))
listed name ms = members_behind [] (unwrap_or (list name ms) no_items)

unfoldable pub align_of : Members → ℕ
align_of ms = alignment_or_default places.Structure (codes "minimum-alignment") ms

unfoldable pub structure_of : Members → Option StructType
structure_of ms = option_and_then (λ members. made members (align_for members (align_of ms))) (listed (codes "members") ms)

-- the structure that the property is; left out, it has no members
unfoldable pub structure : List ℕ → Members → Option StructType
structure name ms = option_map_or structure_of (object name ms) (made [] 1)

-- extra members are a structure that aligns nothing itself
unfoldable pub extra_members : List ℕ → Members → Option StructType
extra_members name ms = option_and_then (λ members. made members 1) (listed name ms)
