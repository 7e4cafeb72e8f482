-- What a configuration's rules allow of fields, names and members, metadata's rules allow where a reader sees it.
use Rattle.std.proofs.Common.{◌≡◌, ℕ, ◌+◌, ◌-◌, ◌*◌, ◌^◌, ◌≤◌, pos, negsuc, ◌≤ℤ◌, Bool, true, false, ◌||◌, IsTrue, List, [], ◌∷◌, ◌++◌, length, slice_get, All, Some, None, refl, sym, ap, subst, ◌∙◌, arith, length-append, pow_mono, codes, bytes_eq}
use Rattle.std.proofs.lemmas.Int.{ints}
use Rattle.std.proofs.lemmas.Bool.{and_parts, and_from, or_left}
use Rattle.std.proofs.lemmas.Option.{none-some}
use Rattle.std.proofs.lemmas.List.Elements.{All-head, All-tail, All-cons, All-nil, All-weaker}
use Rattle.std.proofs.lemmas.List.Folds.{list_all-append}
use Rattle.std.specs.List.{list_any, list_all}
use Rattle.data_types.specs.declared.int_type.IntType.{IntType}
use Rattle.data_types.specs.declared.enum_type.Mapping.{Mapping}
use Rattle.data_types.specs.declared.field_type.FieldType.{FieldType}
use Rattle.data_types.specs.declared.field_type.FieldType.TheVariants.{Int}
use Rattle.data_types.specs.declared.member_type.Length.TheVariants.{Auto, At}
use Rattle.data_types.specs.declared.member_type.MemberType.{MemberType}
use Rattle.data_types.specs.declared.member_type.MemberType.TheVariants.{Plain, Dyn}
use Rattle.data_types.specs.declared.struct_type.StructType.{StructType}
use Rattle.ctf_types.specs.Allowed.{IsMappedTo, IsRange, IsLeaf, IsNest, elements_of, IsField, HasBits, IsCount, AreMembers, IsStruct}
use Rattle.ctf_types.specs.AllowedConfig.{IsRangeOf, lowest, highest, IsConfigLeaf, IsConfigField, IsConfigMember, AreConfigMembers, IsConfigStruct}
use Rattle.data_types.specs.Chain.{Leaf, Number, Labelled, ByteString}
use Rattle.data_types.specs.FieldTypes.{chain_of}
use Rattle.data_types.specs.Members.{names_in}
use Rattle.ctf_types.specs.Names.{is_letter, is_digit, is_identifier, unused_keywords, IsMetadataName, IsPlainName}
use Rattle.ctf_types.specs.Shown.{length_name, length_type, shown_members, shown_struct}

-- ---- fields

lowest_holds : (s : Bool) (n : ℕ) → n ≤ 64 → negsuc (2 ^ 64 - 2) ≤ℤ lowest s n
lowest_holds false n h = omega (arith, ints)
lowest_holds true n h = let k : 2 ^ (n - 1) ≤ 2 ^ 63 = pow_mono (let l : n - 1 ≤ 63 = omega arith in l) in omega (arith, ints)

highest_holds : (s : Bool) (n : ℕ) → n ≤ 64 → highest s n ≤ℤ pos (2 ^ 64 - 1)
highest_holds false n h = let k : 2 ^ n ≤ 2 ^ 64 = pow_mono h in omega (arith, ints)
highest_holds true n h = let k : 2 ^ (n - 1) ≤ 2 ^ 63 = pow_mono (let l : n - 1 ≤ 63 = omega arith in l) in omega (arith, ints)

-- what an integer of at most 64 bits can hold is a range that a text can hold
pub range_of_int : (t : IntType) (m : Mapping) → IsRangeOf t m → IsRange m
range_of_int t m h =
    let low : negsuc (2 ^ 64 - 2) ≤ℤ lowest t.signed t.size = lowest_holds t.signed t.size t.at_most_64 in
    let high : highest t.signed t.size ≤ℤ pos (2 ^ 64 - 1) = highest_holds t.signed t.size t.at_most_64 in
    let above : lowest t.signed t.size ≤ℤ m.low = h.above in
    let below : m.high ≤ℤ highest t.signed t.size = h.below in
    record { ordered = h.ordered; above = omega (arith, ints); below = omega (arith, ints) }

pub mapped_without_clock : (clocks : List (List ℕ)) (t : IntType) → t.clock ≡ None → IsMappedTo clocks t
mapped_without_clock clocks t h = λ name e. absurd (none-some name (sym h ∙ e))

pub leaf_of_config : (clocks : List (List ℕ)) (t : Leaf) → IsConfigLeaf t → IsLeaf clocks t
leaf_of_config clocks (Number t) h = mapped_without_clock clocks t h
leaf_of_config clocks (Labelled t) h =
    (mapped_without_clock clocks t.int h.no_clock, All-weaker (IsRangeOf t.int) IsRange (range_of_int t.int) t.mappings h.ranges, omega (arith, h.few))
leaf_of_config clocks ByteString h = tt

pub field_of_config : (clocks : List (List ℕ)) (t : FieldType) → IsConfigField t → IsField clocks t
field_of_config clocks t h = (leaf_of_config clocks (chain_of t).leaf h.0, h.1)

-- no array at all is a small nest of arrays
no_nest : IsNest []
unfolding elements_of
no_nest = record { depth = omega arith; size = omega arith }

pub int_is_field : (clocks : List (List ℕ)) (t : IntType) → IsMappedTo clocks t → IsField clocks (Int t)
int_is_field clocks t h = (h, no_nest)

-- ---- names

pub metadata_name_of_plain : (name : List ℕ) → IsPlainName name → IsMetadataName name
metadata_name_of_plain name h = record { identifier = h.named.identifier; no_keyword = h.no_unused_keyword }

identifier_parts : (name : List ℕ) → IsTrue (is_identifier name) → list_all (λ d. is_letter d || is_digit d) name ≡ true
unfolding is_identifier
identifier_parts [] h = refl
identifier_parts (c ∷ name) h =
    let p : (is_letter c ≡ true) × (list_all (λ d. is_letter d || is_digit d) name ≡ true) = and_parts (is_letter c) (list_all (λ d. is_letter d || is_digit d) name) h in
    and_from (is_letter c || is_digit c) (list_all (λ d. is_letter d || is_digit d) name) (or_left (is_letter c) (is_digit c) p.0) p.1

length_name_identifier : (name : List ℕ) → IsTrue (is_identifier name) → IsTrue (is_identifier (length_name name))
unfolding is_identifier
length_name_identifier name h =
    list_all-append (λ d. is_letter d || is_digit d) name (codes "_len")
    ∙ and_from (list_all (λ d. is_letter d || is_digit d) name) true (identifier_parts name h) refl

length_name_no_keyword : (name : List ℕ) → list_any (bytes_eq (length_name name)) unused_keywords ≡ false
length_name_no_keyword name = refl

pub metadata_name_of_length : (name : List ℕ) → IsTrue (is_identifier name) → IsMetadataName (length_name name)
metadata_name_of_length name h = record { identifier = length_name_identifier name h; no_keyword = length_name_no_keyword name }

pub shown_names : (n : ℕ) (ms : List (List ℕ × MemberType)) → All IsPlainName (names_in ms) → All IsMetadataName (names_in (shown_members n ms))
unfolding shown_members
shown_names n [] h = All-nil IsMetadataName
shown_names n ((name, Plain t) ∷ ms) h =
    All-cons IsMetadataName name (names_in (shown_members (n + 1) ms)) (metadata_name_of_plain name (All-head IsPlainName name (names_in ms) h))
    (shown_names (n + 1) ms (All-tail IsPlainName name (names_in ms) h))
shown_names n ((name, Dyn t Auto) ∷ ms) h =
    let p : IsPlainName name = All-head IsPlainName name (names_in ms) h in
    All-cons IsMetadataName (length_name name) (name ∷ names_in (shown_members (n + 2) ms)) (metadata_name_of_length name p.named.identifier)
    (All-cons IsMetadataName name (names_in (shown_members (n + 2) ms)) (metadata_name_of_plain name p)
    (shown_names (n + 2) ms (All-tail IsPlainName name (names_in ms) h)))
shown_names n ((name, Dyn t (At i)) ∷ ms) h =
    All-cons IsMetadataName name (names_in (shown_members (n + 1) ms)) (metadata_name_of_plain name (All-head IsPlainName name (names_in ms) h))
    (shown_names (n + 1) ms (All-tail IsPlainName name (names_in ms) h))

-- the shown names do not depend on the place of the first member
pub shown_names_anywhere : (n k : ℕ) (ms : List (List ℕ × MemberType)) → names_in (shown_members n ms) ≡ names_in (shown_members k ms)
unfolding shown_members
shown_names_anywhere n k [] = refl
shown_names_anywhere n k ((name, Plain t) ∷ ms) = ap (λ l. name ∷ l) (shown_names_anywhere (n + 1) (k + 1) ms)
shown_names_anywhere n k ((name, Dyn t Auto) ∷ ms) = ap (λ l. length_name name ∷ name ∷ l) (shown_names_anywhere (n + 2) (k + 2) ms)
shown_names_anywhere n k ((name, Dyn t (At i)) ∷ ms) = ap (λ l. name ∷ l) (shown_names_anywhere (n + 1) (k + 1) ms)

-- ---- members

pub length-shown_members-le : (n : ℕ) (ms : List (List ℕ × MemberType)) → length (shown_members n ms) ≤ 2 * length ms
unfolding shown_members
length-shown_members-le n [] = omega arith
length-shown_members-le n ((name, Plain t) ∷ ms) = omega (arith, length-shown_members-le (n + 1) ms)
length-shown_members-le n ((name, Dyn t Auto) ∷ ms) = omega (arith, length-shown_members-le (n + 2) ms)
length-shown_members-le n ((name, Dyn t (At i)) ∷ ms) = omega (arith, length-shown_members-le (n + 1) ms)

pub no_members_shown : (n : ℕ) (ms : List (List ℕ × MemberType)) → shown_members n ms ≡ [] → ms ≡ []
unfolding shown_members
no_members_shown n [] h = refl
no_members_shown n ((name, Plain t) ∷ ms) h = absurd (omega (arith, ap length h))
no_members_shown n ((name, Dyn t Auto) ∷ ms) h = absurd (omega (arith, ap length h))
no_members_shown n ((name, Dyn t (At i)) ∷ ms) h = absurd (omega (arith, ap length h))

-- a member that metadata's rules allow once its length, if it has one, is shown
abbrev pub IsShowable : List (List ℕ) → MemberType → Type 0
IsShowable clocks (Plain t) = IsField clocks t
IsShowable clocks (Dyn t Auto) = IsField clocks t × HasBits t
IsShowable clocks (Dyn t (At i)) = ⊥

abbrev pub AreShowable : List (List ℕ) → List (List ℕ × MemberType) → Type 0
AreShowable clocks ms = All (λ m. IsShowable clocks m.1) ms

pub showable_of_config : (clocks : List (List ℕ)) (m : MemberType) → IsConfigMember m → IsShowable clocks m
showable_of_config clocks (Plain t) h = field_of_config clocks t h
showable_of_config clocks (Dyn t Auto) h = (field_of_config clocks t h.0, h.1)
showable_of_config clocks (Dyn t (At i)) h = absurd h

pub all_showable_of_config : (clocks : List (List ℕ)) (ms : List (List ℕ × MemberType)) → AreConfigMembers ms → AreShowable clocks ms
all_showable_of_config clocks ms h =
    All-weaker (λ (m : List ℕ × MemberType). IsConfigMember m.1) (λ (m : List ℕ × MemberType). IsShowable clocks m.1) (λ m. showable_of_config clocks m.1) ms h.types

slice_get-last : (before : List (List ℕ × MemberType)) (m : List ℕ × MemberType) → slice_get (before ++ m ∷ []) (length before) ≡ Some m
slice_get-last [] m = refl
slice_get-last (k ∷ before) m = slice_get-last before m

-- the length that stands just before is an unsigned integer
count_before : (before : List (List ℕ × MemberType)) (n : ℕ) (name : List ℕ) → length before ≡ n →
    IsCount (slice_get (before ++ (name, Plain (Int length_type)) ∷ []) n)
count_before before n name h =
    subst (λ (k : ℕ). IsCount (slice_get (before ++ (name, Plain (Int length_type)) ∷ []) k)) h
    (subst IsCount (sym (slice_get-last before (name, Plain (Int length_type)))) refl)

pub members_are_allowed : (clocks : List (List ℕ)) (n : ℕ) (before ms : List (List ℕ × MemberType)) → length before ≡ n → AreShowable clocks ms →
    AreMembers clocks before (shown_members n ms)
unfolding AreMembers shown_members
members_are_allowed clocks n before [] e h = tt
members_are_allowed clocks n before ((name, Plain t) ∷ ms) e h = (
  All-head (λ (m : List ℕ × MemberType). IsShowable clocks m.1) (name, Plain t) ms h,
  members_are_allowed clocks (n + 1) (before ++ (name, Plain t) ∷ []) ms (omega (arith, length-append before ((name, Plain t) ∷ [])))
      (All-tail (λ (m : List ℕ × MemberType). IsShowable clocks m.1) (name, Plain t) ms h),
)
members_are_allowed clocks n before ((name, Dyn t Auto) ∷ ms) e h =
    let here : IsField clocks t × HasBits t = All-head (λ (m : List ℕ × MemberType). IsShowable clocks m.1) (name, Dyn t Auto) ms h in
    let with_length : List (List ℕ × MemberType) = before ++ (length_name name, Plain (Int length_type)) ∷ [] in
    let with_array : List (List ℕ × MemberType) = with_length ++ (name, Dyn t (At n)) ∷ [] in
    let len : length with_array ≡ n + 2 =
    omega (arith, length-append with_length ((name, Dyn t (At n)) ∷ []), length-append before ((length_name name, Plain (Int length_type)) ∷ [])) in (
      int_is_field clocks length_type (mapped_without_clock clocks length_type refl),
      (
        (here.0, here.1, count_before before n (length_name name) e),
        members_are_allowed clocks (n + 2) with_array ms len (All-tail (λ (m : List ℕ × MemberType). IsShowable clocks m.1) (name, Dyn t Auto) ms h),
      ),
    )
members_are_allowed clocks n before ((name, Dyn t (At i)) ∷ ms) e h =
    absurd (All-head (λ (m : List ℕ × MemberType). IsShowable clocks m.1) (name, Dyn t (At i)) ms h)

-- ---- structures

pub struct_is_allowed : (clocks : List (List ℕ)) (s : StructType) → IsConfigStruct s → IsStruct clocks (shown_struct s)
struct_is_allowed clocks s h = record {
  members = members_are_allowed clocks 0 [] s.members refl (all_showable_of_config clocks s.members h.members);
  names = shown_names 0 s.members h.members.names;
  distinct = h.members.distinct;
  few = omega (arith, length-shown_members-le 0 s.members, h.members.few);
  empty = λ e. h.empty (no_members_shown 0 s.members e);
}
