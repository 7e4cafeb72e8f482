-- What a structure means (CTF 1.8.3, section 4.2.1): its members in order, no more than the limit and no two of one name, and its
-- minimum alignment, 1 by default. A structure without members is not there, and has the minimum alignment 1.
use Rattle.std.specs.Prelude.{ℕ, ◌%◌, Bool, not, ◌&&◌, ◌==◌, nat_lt, nat_le, List, [], ◌∷◌, ◌++◌, length, Option, Some, None, bytes_eq}
use Rattle.std.specs.List.{list_any, list_all}
use Rattle.std.proofs.lemmas.Bool.{ltb-true, eqb-true}
use Rattle.ctf_types.specs.{declared.MemberType.MemberType, declared.StructType.StructType}
use Rattle.ctf_types.specs.declared.limits.TheConstants.{LARGEST_ALIGN, MAX_MEMBERS}
use Rattle.tsdl_grammar.specs.{declared.tree.Number.Number, declared.tree.MemberTree.MemberTree, declared.tree.Structure.Structure, declared.tree.Scope.Scope}
use Rattle.tsdl_grammar.specs.{Lookups.scope, AttributeValues.natural, IntegerMeaning.Known, MemberMeaning.member_meaning}
use Rattle.tsdl_grammar.specs.Steps.{◌>>=◌, provided, proved}

-- the structure type of these parts, where its alignment is one
unfoldable pub struct_type : List (List ℕ × MemberType) → ℕ → Option StructType
struct_type members align =
    proved (nat_lt 0 align) (λ positive. proved (LARGEST_ALIGN % align == 0) (λ power.
    Some (record { members = members; min_align = align; positive = ltb-true 0 align positive; power_of_two = eqb-true (LARGEST_ALIGN % align) 0 power })))

-- a member of this name is there
abbrev pub has_member : List ℕ → List (List ℕ × MemberType) → Bool
has_member w members = list_any (λ m. bytes_eq w m.0) members

-- the members, behind those before them
unfoldable pub members_meaning : Known → List (List ℕ × MemberType) → List MemberTree → Option (List (List ℕ × MemberType))
members_meaning known before [] = Some before
members_meaning known before (m ∷ ms) = do
  t ← provided (not (has_member m.name before)) (member_meaning known before m)
  members_meaning known (before ++ (m.name, t) ∷ []) ms

abbrev pub align_of : Option Number → Option ℕ
align_of None = Some 1
align_of (Some n) = natural n >>= λ align. provided (nat_lt 0 align && (LARGEST_ALIGN % align == 0)) (Some align)

-- no members, no alignment
abbrev pub align_with : List (List ℕ × MemberType) → ℕ → ℕ
align_with [] align = 1
align_with (m ∷ ms) align = align

unfoldable pub struct_meaning : Known → Structure → Option StructType
struct_meaning known s = do
  members ← provided (nat_le (length s.members) MAX_MEMBERS) (members_meaning known [] s.members)
  align ← align_of s.align
  struct_type members (align_with members align)

-- the structure of a scope, without members where the scope is not there
abbrev pub structure_of : Known → Option Structure → Option StructType
structure_of known None = struct_type [] 1
structure_of known (Some s) = struct_meaning known s

-- the structure of the scope of this name, whose members have what a test asks
abbrev pub scope_meaning : Known → List (List ℕ) → (List ℕ × MemberType → Bool) → List Scope → Option StructType
scope_meaning known name test scopes = structure_of known (scope name scopes) >>= λ t. provided (list_all test t.members) (Some t)
