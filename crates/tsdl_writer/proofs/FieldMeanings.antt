-- What the trees of field types mean: the integer, the enumeration, the string or the array that they were made of.
use Rattle.tsdl_writer.proofs.TreeWords.{nat_tests, get_or, All, All-head, All-tail, At, Contains, Dyn, list_all, IsLeaf, IsMappedTo, bytes_eq-Decides, sym, Base, Bool, FieldType, IntType, IsNest, IsRange, Known, Labelled, Leaf, List, Mapping, MemberType, None, Option, Plain, Some, [], are_lengths, arith, arrays_of, attributes, base_value, bracketed, bytes_eq, chain_of, clock_value, count_bracket, count_of, each, entry_meaning, entry_tree, enum_meaning, false, flag_value, int_meaning, int_type, int_type-own, integer_attributes, ints, kind_meaning, kind_tree, length-map, list_any, map, refl, text_meaning, true, ℕ, ◌∙◌, ◌∷◌, ◌≡◌}
use Rattle.std.proofs.lemmas.List.Folds.{list_any_at}
use Rattle.ctf_types.specs.Allowed.{elements_of}

clock_there : (clocks : List (List ℕ)) (name : List ℕ) → Contains clocks name → list_any (bytes_eq name) clocks ≡ true
clock_there clocks name (k, below, same) = list_any_at (bytes_eq name) clocks k name below ((bytes_eq-Decides name (get_or clocks k name)).1 (sym same))

parts_meant : (known : Known) (size align : ℕ) (signed : Bool) (base : Base) (clock : Option (List ℕ)) → ((name : List ℕ) → clock ≡ Some name → Contains known.clocks name)
    → int_meaning known (attributes size align signed base clock) ≡ int_type size align signed base clock
unfolding int_meaning flag_value base_value clock_value
parts_meant known size align signed base None h = grind arith
parts_meant known size align signed base (Some name) h = rw (clock_there known.clocks name (h name refl)) (grind arith)

integer_meant : (known : Known) (t : IntType) → IsMappedTo known.clocks t → int_meaning known (integer_attributes t) ≡ Some t
integer_meant known t h = parts_meant known t.size t.align t.signed t.base t.clock h ∙ int_type-own t

entry_meant : (m : Mapping) → IsRange m → entry_meaning (entry_tree m) ≡ Some m
unfolding entry_meaning
entry_meant m h = grind (arith, ints, h)

-- each tree means what it was made of
pub each_own : {A B : Type 0} (P : A → Type 0) (meaning : B → Option A) (tree : A → B) → ((x : A) → P x → meaning (tree x) ≡ Some x) → (xs : List A) → All P xs → each meaning (map tree xs) ≡ Some xs
each_own P meaning tree own [] h = refl
each_own P meaning tree own (x ∷ xs) h = rw (own x (All-head P x xs h), each_own P meaning tree own xs (All-tail P x xs h)) refl

pub kind_meant : (known : Known) (leaf : Leaf) → IsLeaf known.clocks leaf → kind_meaning known (kind_tree leaf) ≡ Some leaf
unfolding kind_meaning text_meaning enum_meaning
kind_meant known (Labelled t) h = grind (arith, nat_tests, integer_meant known t.int, each_own IsRange entry_meaning entry_tree entry_meant t.mappings, length-map t.mappings entry_tree, h)
kind_meant known leaf h = grind (arith, integer_meant known, h)

pub count_meant : (ns : List ℕ) → each count_of (map count_bracket ns) ≡ Some ns
count_meant [] = refl
count_meant (n ∷ ns) = rw (count_meant ns) refl

pub lengths_allowed : (ns : List ℕ) → IsNest ns → are_lengths ns ≡ true
lengths_allowed ns h = grind (arith, nat_tests, h)

pub arrays_of-chain : (t : FieldType) → arrays_of (chain_of t).leaf (chain_of t).lengths ≡ t
arrays_of-chain t = grind arith

abbrev pub Members : Type 0
Members = List (List ℕ × MemberType)

-- a member without a listed length
abbrev pub is_automatic : MemberType → Bool
is_automatic (Dyn t (At i)) = false
is_automatic _ = true

abbrev pub AreAutomatic : Members → Type 0
AreAutomatic ms = list_all (λ m. is_automatic m.1) ms ≡ true

-- no array at all
pub no_nest : IsNest []
unfolding elements_of
no_nest = record { depth = omega arith; size = omega arith }

pub plain_meant : (before : Members) (t : FieldType) → IsNest (chain_of t).lengths → bracketed before (chain_of t).leaf (map count_bracket (chain_of t).lengths) ≡ Some (Plain t)
unfolding bracketed
plain_meant before t h = grind (arith, count_meant, lengths_allowed, h)
