-- The tokens of an allowed configuration's members can be written: their names are identifiers, and their numbers have 64 bits.
use Rattle.tsdl_writer.proofs.TreeWords.{lit<, All, All-contains, All-head, All-tail, AreMembers, At, Auto, Base, Bool, ByteString, Dyn, Int, IntType, IsLeaf, IsMappedTo, IsMetadataName, IsRange, Labelled, Leaf, List, Mapping, None, Number, Option, Plain, Some, [], arith, attr_toks, base_number, bracket_toks, cases_lt, chain_of, count_bracket, entries_toks, entry_toks, entry_tree, entry_trees, false, flag_word, flat_map, high_number, high_toks, inl, inr, int_toks, integer_attributes, ints, is_identifier, kind_toks, kind_tree, length_name, length_type, map, mapping_attributes, max, member_toks, member_trees, mod-eq_of_lt, names_in, negsuc, next_entry_toks, pos, refl, shown_members, true, ℕ, ◌%◌, ◌*◌, ◌++◌, ◌+◌, ◌-◌, ◌<◌, ◌^◌, ◌∷◌, ◌≡◌, ◌≤ℤ◌, ◌≤◌}
use Rattle.tsdl_writer.proofs.Writable.{Can, both, whole}
use Rattle.tsdl_writer.proofs.FieldMeanings.{Members, AreAutomatic}
use Rattle.std.proofs.Math.Nat.{le-mul_of_pos_right, mul-le-mul_right, mul-pos}
use Rattle.ctf_types.specs.{Allowed.elements_of, declared.limits.TheConstants.{LARGEST_ALIGN, MAX_ELEMENTS}}

-- an alignment is no larger than the largest one
pub align_fits : (a : ℕ) → 0 < a → LARGEST_ALIGN % a ≡ 0 → a < 2 ^ 64
align_fits a h e = elim (cases_lt LARGEST_ALIGN a) [ inl lt ↦ absurd (omega (arith, e, mod-eq_of_lt lt)) | inr le ↦ omega arith ]

pub flag_named : (b : Bool) → IsMetadataName (flag_word b)
unfolding is_identifier
flag_named true = record { identifier = refl; no_keyword = refl }
flag_named false = record { identifier = refl; no_keyword = refl }

base_fits : (b : Base) → base_number b < 2 ^ 64
base_fits b = grind arith

mapping_writable : (clock : Option (List ℕ)) → ((name : List ℕ) → clock ≡ Some name → IsMetadataName name) → Can (flat_map attr_toks (mapping_attributes clock))
unfolding is_identifier
mapping_writable None h = tt
mapping_writable (Some name) h = search (h name refl) depth 20

pub integer_writable : (clocks : List (List ℕ)) (t : IntType) → All IsMetadataName clocks → IsMappedTo clocks t → Can (int_toks (integer_attributes t))
unfolding is_identifier
integer_writable clocks t names h =
    let size : t.size < 2 ^ 64 = omega (arith, t.at_most_64) in
    search (both, size, align_fits t.align t.positive t.power_of_two, flag_named t.signed, base_fits t.base, mapping_writable t.clock (λ name e. All-contains IsMetadataName clocks name names (h name e))) depth 40

entry_writable : (m : Mapping) → IsRange m → Can (entry_toks (entry_tree m))
entry_writable m h =
    let ordered : m.low ≤ℤ m.high = h.ordered in let above : negsuc (2 ^ 64 - 2) ≤ℤ m.low = h.above in let below : m.high ≤ℤ pos (2 ^ 64 - 1) = h.below in
    let low = whole m.low above (omega (arith, ints)) in let high = whole m.high (omega (arith, ints)) below in
    let end : Can (high_toks (high_number m.low m.high)) = grind (arith, high) in
    search (both, low, end)

others_writable : (ms : List Mapping) → All IsRange ms → Can (flat_map next_entry_toks (map entry_tree ms))
others_writable [] h = tt
others_writable (m ∷ ms) h = search (both, entry_writable m (All-head IsRange m ms h), others_writable ms (All-tail IsRange m ms h))

entries_writable : (ms : List Mapping) → All IsRange ms → Can (entries_toks (entry_trees ms))
entries_writable [] h = tt
entries_writable (m ∷ ms) h = search (both, entry_writable m (All-head IsRange m ms h), others_writable ms (All-tail IsRange m ms h))

kind_writable : (clocks : List (List ℕ)) (leaf : Leaf) → All IsMetadataName clocks → IsLeaf clocks leaf → Can (kind_toks (kind_tree leaf))
unfolding is_identifier
kind_writable clocks (Number t) names h = integer_writable clocks t names h
kind_writable clocks (Labelled t) names h = search (both, integer_writable clocks t.int names h.0, entries_writable t.mappings h.1)
kind_writable clocks ByteString names h = search depth 20

some_elements : (ns : List ℕ) → 0 < elements_of ns
unfolding elements_of
some_elements [] = omega arith
some_elements (n ∷ ns) = mul-pos (omega arith) (some_elements ns)

counts_writable : (ns : List ℕ) → elements_of ns ≤ MAX_ELEMENTS → Can (flat_map bracket_toks (map count_bracket ns))
unfolding elements_of
counts_writable [] h = tt
counts_writable (n ∷ ns) h =
    let count : max 1 n ≤ max 1 n * elements_of ns = le-mul_of_pos_right (max 1 n) (some_elements ns) in
    let one : 1 ≤ max 1 n = omega arith in let others = mul-le-mul_right (elements_of ns) one in
    (tt, (omega arith, (tt, counts_writable ns (omega arith))))

pub members_writable : (clocks : List (List ℕ)) (n : ℕ) (before ms : Members) → All IsMetadataName clocks → AreAutomatic ms → AreMembers clocks before (shown_members n ms)
    → All IsMetadataName (names_in (shown_members n ms)) → Can (flat_map member_toks (flat_map member_trees ms))
unfolding AreMembers shown_members is_identifier
members_writable clocks n before [] names a h w = tt
members_writable clocks n before ((name, Plain t) ∷ ms) names a h w =
    let rest = names_in (shown_members (n + 1) ms) in
    let named = All-head IsMetadataName name rest w in
    let behind = members_writable clocks (n + 1) (before ++ (name, Plain t) ∷ []) ms names a h.1 (All-tail IsMetadataName name rest w) in
    search (both, kind_writable clocks (chain_of t).leaf names h.0.0, named, counts_writable (chain_of t).lengths h.0.1.size, behind) depth 20
members_writable clocks n before ((name, Dyn t Auto) ∷ ms) names a h w =
    let rest = names_in (shown_members (n + 2) ms) in
    let length_named = All-head IsMetadataName (length_name name) (name ∷ rest) w in
    let w2 = All-tail IsMetadataName (length_name name) (name ∷ rest) w in
    let named = All-head IsMetadataName name rest w2 in
    let behind = members_writable clocks (n + 2) (before ++ (length_name name, Plain (Int length_type)) ∷ [] ++ (name, Dyn t (At n)) ∷ []) ms names a h.1.1 (All-tail IsMetadataName name rest w2) in
    search (both, lit<, length_named, kind_writable clocks (chain_of t).leaf names h.1.0.0.0, named, counts_writable (chain_of t).lengths h.1.0.0.1.size, behind) depth 60
members_writable clocks n before ((name, Dyn t (At i)) ∷ ms) names a h w = absurd cc
