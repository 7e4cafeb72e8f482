-- What the trees of a structure mean: its members as metadata has them, a dynamic array behind the member of its length.
use Rattle.tsdl_writer.proofs.TreeWords.{IsField, Structure, nat_tests, get_or, AreMembers, IsStruct, AllByRecursion, At, Auto, Bool, Dyn, FieldType, HasBits, Int, IsDistinct, IsDistinct-head, IsDistinct-tail, Known, List, MemberType, None, Option, Plain, Some, StructType, [], ap, append-nil, append_assoc, arith, array_member, bracketed, bytes_eq, bytes_eq-Decides, chain_of, false, flat_map, has_member, is_unsigned, length, length-append, length_member, length_name, length_place, length_type, lt-ltb, member_meaning, member_tree, member_trees, members_meaning, names_in, nat_lt, not, prefix_len, refl, shown_members, struct_meaning, struct_type-gives, structure_of, structure_tree, subst, sym, ℕ, ◌&&◌, ◌++◌, ◌+◌, ◌∷◌, ◌≡◌}
use Rattle.tsdl_writer.proofs.FieldMeanings.{AreAutomatic, Members, kind_meant, no_nest, count_meant, lengths_allowed, arrays_of-chain, plain_meant}
use Rattle.std.proofs.lemmas.{List.Folds.{list_any-append}, List.Sums.{list_all-from_AllPass}}

-- no member before has one of the names
abbrev pub AreNew : Members → List (List ℕ) → Type 0
AreNew before names = AllByRecursion (λ w. has_member w before ≡ false) names

all_still_new : (before : Members) (x : List ℕ) (t : MemberType) (names : List (List ℕ)) → AreNew before names → AllByRecursion (λ y. bytes_eq x y ≡ false) names → AreNew (before ++ (x, t) ∷ []) names
all_still_new before x t [] h e = tt
all_still_new before x t (w ∷ names) h e = (grind (arith, bytes_eq-Decides, list_any-append (λ (m : List ℕ × MemberType). bytes_eq w m.0) before ((x, t) ∷ []), h, e), all_still_new before x t names h.1 e.1)

plain_tree_meant : (known : Known) (before : Members) (name : List ℕ) (t : FieldType) → IsField known.clocks t → member_meaning known before (member_tree name (chain_of t) []) ≡ Some (Plain t)
unfolding member_meaning
plain_tree_meant known before name t h = rw (kind_meant known (chain_of t).leaf h.0) (plain_meant before t h.1)

length_meant : (known : Known) (before : Members) (name : List ℕ) → member_meaning known before (length_member name) ≡ Some (Plain (Int length_type))
length_meant known before name = plain_tree_meant known before (length_name name) (Int length_type) ((λ w e. absurd cc), no_nest)

-- the length's member is the last before the array
abbrev is_length : List ℕ → List ℕ × MemberType → Bool
is_length w m = bytes_eq w m.0 && is_unsigned m.1

passed_over : (before : Members) (w : List ℕ) → has_member w before ≡ false → prefix_len (λ m. not (is_length w m)) (before ++ (w, Plain (Int length_type)) ∷ []) ≡ length before
passed_over [] w h = grind (arith, bytes_eq-Decides)
passed_over (m ∷ before) w h = grind (arith, passed_over before w)

place_meant : (before : Members) (n : ℕ) (w : List ℕ) → length before ≡ n → has_member w before ≡ false → length_place (before ++ (w, Plain (Int length_type)) ∷ []) w ≡ Some n
place_meant before n w e h = grind (arith, nat_tests, passed_over before w h, length-append before ((w, Plain (Int length_type)) ∷ []))

array_meant : (known : Known) (before : Members) (n : ℕ) (name : List ℕ) (t : FieldType) → length before ≡ n → has_member (length_name name) before ≡ false → IsField known.clocks t → HasBits t
    → member_meaning known (before ++ (length_name name, Plain (Int length_type)) ∷ []) (array_member name (chain_of t)) ≡ Some (Dyn t (At n))
unfolding member_meaning bracketed
array_meant known before n name t e new h bits =
    let some = list_all-from_AllPass (nat_lt 0) (chain_of t).lengths (λ k d l. lt-ltb 0 (get_or (chain_of t).lengths k d) (bits k d l)) in
    rw (kind_meant known (chain_of t).leaf h.0, count_meant (chain_of t).lengths, place_meant before n (length_name name) e new, lengths_allowed (chain_of t).lengths h.1, some, arrays_of-chain t) refl

members_meant : (known : Known) (n : ℕ) (before ms : Members) → length before ≡ n → AreAutomatic ms → AreMembers known.clocks before (shown_members n ms) → AreNew before (names_in (shown_members n ms)) → IsDistinct bytes_eq (names_in (shown_members n ms))
    → members_meaning known before (flat_map member_trees ms) ≡ Some (before ++ shown_members n ms)
unfolding members_meaning shown_members AreMembers
members_meant known n before [] len a h new apart = ap Some (sym (append-nil before))
members_meant known n before ((name, Plain t) ∷ ms) len a h new apart =
    let names = names_in (shown_members (n + 1) ms) in
    let new1 = all_still_new before name (Plain t) names new.1 (IsDistinct-head bytes_eq name names apart) in
    grind (arith, length-append before ((name, Plain t) ∷ []), plain_tree_meant known before name t h.0, members_meant known (n + 1) (before ++ (name, Plain t) ∷ []) ms, new1, IsDistinct-tail bytes_eq name names apart, append_assoc before ((name, Plain t) ∷ []) (shown_members (n + 1) ms))
members_meant known n before ((name, Dyn t Auto) ∷ ms) len a h new apart =
    let names = names_in (shown_members (n + 2) ms) in
    let first : List ℕ × MemberType = (length_name name, Plain (Int length_type)) in
    let second : List ℕ × MemberType = (name, Dyn t (At n)) in
    let with_length = before ++ first ∷ [] in
    let apart2 = IsDistinct-tail bytes_eq (length_name name) (name ∷ names) apart in
    let new2 = all_still_new before (length_name name) (Plain (Int length_type)) (name ∷ names) new.1 (IsDistinct-head bytes_eq (length_name name) (name ∷ names) apart) in
    let new3 = all_still_new with_length name (Dyn t (At n)) names new2.1 (IsDistinct-head bytes_eq name names apart2) in
    grind (
      arith,
      length-append with_length (second ∷ []),
      length-append before (first ∷ []),
      plain_tree_meant known before (length_name name) (Int length_type) ((λ w e. absurd cc), no_nest),
      array_meant known before n name t len new.0 h.1.0.0 h.1.0.1,
      members_meant known (n + 2) (with_length ++ second ∷ []) ms,
      new2,
      new3,
      IsDistinct-tail bytes_eq name names apart2,
      append_assoc with_length (second ∷ []) (shown_members (n + 2) ms),
      append_assoc before (first ∷ []) (second ∷ shown_members (n + 2) ms),
    )
members_meant known n before ((name, Dyn t (At i)) ∷ ms) len a h new apart = absurd cc

all_new : (names : List (List ℕ)) → AreNew [] names
all_new [] = tt
all_new (w ∷ names) = (refl, all_new names)

same_count : (n : ℕ) (ms : Members) → AreAutomatic ms → length (flat_map member_trees ms) ≡ length (shown_members n ms)
unfolding shown_members
same_count n [] h = refl
same_count n ((name, t) ∷ ms) h = grind (arith, same_count (n + 1) ms, same_count (n + 2) ms)

-- the structure that is left out where it has no members
abbrev pub found : Members → ℕ → Option Structure
found [] align = None
found (m ∷ ms) align = Some (structure_tree (m ∷ ms) align)

-- a structure of metadata that is allowed, and that these members of a configuration make
pub record Shows (clocks : List (List ℕ)) (ms : Members) (align : ℕ) (t : StructType) : Type 0 where
  pub same : t.members ≡ shown_members 0 ms
  pub aligned : (ms ≡ [] → ⊥) → t.min_align ≡ align
  pub automatic : AreAutomatic ms
  pub allowed : IsStruct clocks t

-- it is what its tree means
pub structure_read : (known : Known) (ms : Members) (align : ℕ) (t : StructType) → Shows known.clocks ms align t → structure_of known (found ms align) ≡ Some t
unfolding struct_meaning shown_members
structure_read known [] align t h = struct_type-gives t [] 1 h.same (h.allowed.empty h.same)
structure_read known (m ∷ ms) align t h =
    let allowed = subst (AreMembers known.clocks []) h.same h.allowed.members in
    let apart = subst (λ (l : Members). IsDistinct bytes_eq (names_in l)) h.same h.allowed.distinct in
    let members = members_meant known 0 [] (m ∷ ms) refl h.automatic allowed (all_new (names_in (shown_members 0 (m ∷ ms)))) apart in
    grind (arith, nat_tests, same_count 0 (m ∷ ms) h.automatic, members, h.same, h.aligned, h.automatic, h.allowed.few, t.positive, t.power_of_two, struct_type-gives t (shown_members 0 (m ∷ ms)) align h.same)
