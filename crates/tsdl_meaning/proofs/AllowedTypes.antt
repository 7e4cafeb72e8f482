-- Types and structures that a metadata text means are those that the rules allow.
use Rattle.std.proofs.Common.{◌≡◌, ℕ, suc, ◌-◌, ◌<◌, ◌≤◌, ◌^◌, ℤ, pos, negsuc, ◌≤ℤ◌, Bool, true, false, ◌&&◌, List, ◌∷◌, ◌++◌, length, slice_get, All, Option, Some, None, refl, sym, ap, subst, ◌∙◌, arith, codes, not, append-nil, append_assoc, []}
use Rattle.tsdl_meaning.proofs.TextWords.{AllByRecursion, AreMembers, Atom, Attribute, Bracket, ByteString, Chain, Dyn, Entries, Entry, HasBits, IsCount, IsDistinct, IsField, IsLeaf, IsMappedTo, IsMember, IsMetadataName, IsNest, IsRange, IsStruct, IsUnsigned, Item, Kind, Known, Labelled, Leaf, MAX_MEMBERS, MAX_RANGES, MemberTree, MemberType, Plain, Scope, Str, StructType, Structure, Value, align_of, align_toks, align_with, and_true, are_lengths, arrays_of, bind_some, braced, bracket_toks, bracketed, bytes_eq, bytes_eq-Decides, clock_value, closing_toks, count_of, each, elements_of, entries_of, entries_toks, entry_meaning, entry_toks, enum_meaning, flat_map, has_member, high_of, high_toks, int_meaning, int_toks, is_unsigned, item_toks, items_toks, kind_meaning, kind_toks, label_toks, leb-true, length_place, list_all, list_any, ltb-true, map-append, map_some, mark, member_meaning, member_toks, members_meaning, name_toks, names_in, nat_le, nat_list_eq_equiv, nat_lt, next_entry_toks, not-true, number_toks, option_map, or_parts, provided, provided_some, scope, scope_meaning, scope_toks, scopes_in, sign_toks, signed_of, some_same, struct_meaning, struct_toks, struct_type, structure_of, text_meaning, word, ◌>>=◌}
use Rattle.std.proofs.lemmas.Int.{ints}
use Rattle.std.proofs.lemmas.Bool.Decides.{nat_tests}
use Rattle.std.proofs.lemmas.List.Elements.{All-from_recursion, All-weaker}
use Rattle.std.proofs.lemmas.List.Sums.{AllPass-from_list_all}
use Rattle.std.proofs.lemmas.List.Quantifiers.{position-Some}
use Rattle.std.proofs.lemmas.Option.{slice_get-get_or}
use Rattle.std.proofs.lemmas.Map.Views.{Contains-from_any}
use Rattle.ctf_types.specs.declared.IntType.{IntType}
use Rattle.ctf_types.specs.declared.EnumType.{EnumType}
use Rattle.ctf_types.specs.declared.Mapping.{Mapping}
use Rattle.ctf_types.specs.declared.Length.TheVariants.{At}
use Rattle.ctf_types.specs.Chain.{Number}
use Rattle.ctf_types.specs.FieldTypes.{chain_of}
use Rattle.tsdl_grammar.specs.declared.atom.Atom.TheVariants as atoms
use Rattle.tsdl_grammar.specs.declared.token.Mark.TheVariants as marks
use Rattle.tsdl_grammar.specs.declared.tree.Number as numbers
use Rattle.tsdl_grammar.specs.declared.tree.Entries.TheVariants as entries
use Rattle.tsdl_grammar.specs.declared.tree.Kind.TheVariants as kinds
use Rattle.tsdl_grammar.specs.declared.tree.Bracket.TheVariants as brackets
use Rattle.tsdl_grammar.proofs.MeaningParts.{says_integer, says_structure}
use Rattle.tsdl_meaning.proofs.GoodAtoms.{IsGood, AreGood, all_front, all_back}
use Rattle.tsdl_grammar.specs.declared.tree.Item.TheVariants as items
use Rattle.tsdl_grammar.proofs.TypeParts.{struct_type-parts}
use Rattle.tsdl_meaning.proofs.FlawlessItems.{all_more, all_weaker}

-- ---- lists

-- what is made of each item, where each item has what it needs
pub each_keeps : {A B : Type 0} (f : A → Option B) (P : A → Type 0) (Q : B → Type 0) → ((x : A) (y : B) → P x → f x ≡ Some y → Q y)
    → (xs : List A) (ys : List B) → AllByRecursion P xs → each f xs ≡ Some ys → AllByRecursion Q ys × (length ys ≡ length xs)
each_keeps f P Q h [] ys p e = grind (arith, e)
each_keeps f P Q h (x ∷ xs) ys p e = grind (arith, h, each_keeps f P Q h xs, e)

pub all_spelled : {A : Type 0} (toks : A → List Atom) (xs : List A) → AreGood (flat_map toks xs) → AllByRecursion (λ x. AreGood (toks x)) xs
all_spelled toks [] g = tt
all_spelled toks (x ∷ xs) g = (all_front IsGood (toks x) (flat_map toks xs) g, all_spelled toks xs (all_back IsGood (toks x) (flat_map toks xs) g))

pub inside : (inner : List Atom) → AreGood (braced inner) → AreGood inner
inside inner g = (all_front IsGood (mark marks.OpenBrace ∷ inner) (mark marks.CloseBrace ∷ []) g).1

-- ---- integers

names_clock : (clocks : List (List ℕ)) (v : Value) (name : List ℕ) → clock_value clocks v ≡ Some name → list_any (bytes_eq name) clocks ≡ true
unfolding clock_value
names_clock clocks v name e = grind (arith, e)

pub mapped : (known : Known) (attrs : List Attribute) (t : IntType) → int_meaning known attrs ≡ Some t → IsMappedTo known.clocks t
mapped known attrs t e name h = Contains-from_any (λ x y same. (bytes_eq-Decides x y).0 same) name known.clocks (grind (arith, names_clock known.clocks, (says_integer known attrs t e).clock, h))

-- ---- enumerations

signed_bounds : (n : numbers.Number) → AreGood (number_toks n) → (negsuc (2 ^ 64 - 2) ≤ℤ signed_of n) × (signed_of n ≤ℤ pos (2 ^ 64 - 1))
signed_bounds n g = let small = (all_back IsGood (sign_toks n.sign) (atoms.Number n.literal ∷ []) g).0 in grind (arith, ints, small)

high_bound : (low : ℤ) (high : Option numbers.Number) → low ≤ℤ pos (2 ^ 64 - 1) → AreGood (high_toks high) → high_of low high ≤ℤ pos (2 ^ 64 - 1)
high_bound low high h g = grind (arith, signed_bounds, h, g)

in_range : (e : Entry) (m : Mapping) → AreGood (entry_toks e) → entry_meaning e ≡ Some m → IsRange m
unfolding entry_meaning
in_range e m g h =
    let front = label_toks e.label ++ mark marks.Equals ∷ number_toks e.low in
    let low = signed_bounds e.low (all_back IsGood (label_toks e.label) (mark marks.Equals ∷ number_toks e.low) (all_front IsGood front (high_toks e.high) g)).1 in
    let high = high_bound (signed_of e.low) e.high low.1 (all_back IsGood front (high_toks e.high) g) in
    grind (arith, ints, low.0, high, h)

entry_list : (es : Entries) → AreGood (entries_toks es) → AllByRecursion (λ e. AreGood (entry_toks e)) (entries_of es)
entry_list entries.Empty g = tt
entry_list (entries.Listed e es closing) g =
    let both = all_front IsGood (entry_toks e ++ flat_map next_entry_toks es) (closing_toks closing) g in
    let others = all_spelled next_entry_toks es (all_back IsGood (entry_toks e) (flat_map next_entry_toks es) both) in
    (all_front IsGood (entry_toks e) (flat_map next_entry_toks es) both, all_weaker (λ x. AreGood (next_entry_toks x)) (λ x. AreGood (entry_toks x)) es (λ x h. h.1) others)

enum_allowed : (clocks : List (List ℕ)) (int : IntType) (es : Entries) (t : EnumType) → IsMappedTo clocks int → AreGood (entries_toks es) → enum_meaning int es ≡ Some t → IsLeaf clocks (Labelled t)
unfolding enum_meaning
enum_allowed clocks int es t m g e =
    let a = bind_some (provided (nat_le (length (entries_of es)) MAX_RANGES) (each entry_meaning (entries_of es))) _ t e in
    let p = provided_some (nat_le (length (entries_of es)) MAX_RANGES) (each entry_meaning (entries_of es)) a.0 a.1 in
    let k = each_keeps entry_meaning (λ (x : Entry). AreGood (entry_toks x)) IsRange in_range (entries_of es) a.0 (entry_list es g) p.1 in
    let few : length a.0 ≤ MAX_RANGES = omega (arith, leb-true (length (entries_of es)) MAX_RANGES p.0, k.1) in
    let made : EnumType = record { int = int; mappings = a.0 } in
    subst (λ (u : EnumType). IsLeaf clocks (Labelled u)) (some_same made t (Some made) refl a.2) (m, All-from_recursion IsRange a.0 k.0, few)

-- ---- members before their brackets

text_allowed : (clocks : List (List ℕ)) (attrs : Option (List Attribute)) (leaf : Leaf) → text_meaning attrs ≡ Some leaf → IsLeaf clocks leaf
unfolding text_meaning
text_allowed clocks None leaf e = grind (arith, e)
text_allowed clocks (Some attrs) leaf e = subst (IsLeaf clocks) (some_same ByteString leaf (Some ByteString) refl (bind_some _ (λ _. Some ByteString) leaf e).2) tt

kind_allowed : (known : Known) (k : Kind) (leaf : Leaf) → AreGood (kind_toks k) → kind_meaning known k ≡ Some leaf → IsLeaf known.clocks leaf
unfolding kind_meaning
kind_allowed known (kinds.Integer attrs) leaf g e =
    let m = map_some Number (int_meaning known attrs) leaf e in subst (IsLeaf known.clocks) m.2 (mapped known attrs m.0 m.1)
kind_allowed known (kinds.Enumeration attrs es) leaf g e =
    let a = bind_some (int_meaning known attrs) (λ int. option_map Labelled (enum_meaning int es)) leaf e in
    let m = map_some Labelled (enum_meaning a.0 es) leaf a.2 in
    let front : List Atom = word (codes "enum") ∷ mark marks.Colon ∷ int_toks attrs in
    let good = inside (entries_toks es) (all_back IsGood front (braced (entries_toks es)) g) in
    subst (IsLeaf known.clocks) m.2 (enum_allowed known.clocks a.0 es m.0 (mapped known attrs a.0 a.1) good m.1)
kind_allowed known (kinds.Text attrs) leaf g e = text_allowed known.clocks attrs leaf e

-- ---- arrays

chain_of_arrays : (leaf : Leaf) (ns : List ℕ) → chain_of (arrays_of leaf ns) ≡ record { lengths = ns; leaf = leaf }
chain_of_arrays leaf ns = grind arith

nested : (ns : List ℕ) → are_lengths ns ≡ true → IsNest ns
nested ns h = grind (arith, nat_tests, h)

array_allowed : (clocks : List (List ℕ)) (leaf : Leaf) (ns : List ℕ) → IsLeaf clocks leaf → IsNest ns → IsField clocks (arrays_of leaf ns)
array_allowed clocks leaf ns l n = subst (λ (c : Chain). IsLeaf clocks c.leaf × IsNest c.lengths) (sym (chain_of_arrays leaf ns)) (l, n)

has_bits : (leaf : Leaf) (ns : List ℕ) → list_all (nat_lt 0) ns ≡ true → HasBits (arrays_of leaf ns)
has_bits leaf ns h =
    subst (λ (c : Chain). All (λ (n : ℕ). 0 < n) c.lengths) (sym (chain_of_arrays leaf ns))
    (All-weaker (λ (n : ℕ). nat_lt 0 n ≡ true) (λ (n : ℕ). 0 < n) (λ n t. ltb-true 0 n t) ns (AllPass-from_list_all (nat_lt 0) ns h))

place_counts : (before : List (List ℕ × MemberType)) (w : List ℕ) (i : ℕ) → length_place before w ≡ Some i → IsCount (slice_get before i)
place_counts before w i e =
    let d : List ℕ × MemberType = ([], Plain Str) in
    let p = position-Some (λ m. bytes_eq w m.0 && is_unsigned m.1) before i d e in
    grind (arith, slice_get-get_or before i d p.0, p.1)

bracketed_allowed : (clocks : List (List ℕ)) (before : List (List ℕ × MemberType)) (leaf : Leaf) (bs : List Bracket) (t : MemberType) → IsLeaf clocks leaf
    → bracketed before leaf bs ≡ Some t → IsMember clocks before t
unfolding bracketed elements_of
bracketed_allowed clocks before leaf [] t l e = grind (arith, array_allowed clocks leaf [] l (nested [] refl), e)
bracketed_allowed clocks before leaf (brackets.Count n ∷ bs) t l e =
    let a = bind_some (each count_of (brackets.Count n ∷ bs)) (λ lengths. provided (are_lengths lengths) (Some (Plain (arrays_of leaf lengths)))) t e in
    let b = provided_some (are_lengths a.0) (Some (Plain (arrays_of leaf a.0))) t a.2 in
    subst (IsMember clocks before) (some_same (Plain (arrays_of leaf a.0)) t (Some (Plain (arrays_of leaf a.0))) refl b.1) (array_allowed clocks leaf a.0 l (nested a.0 b.0))
bracketed_allowed clocks before leaf (brackets.Member w ∷ bs) t l e =
    let a = bind_some (each count_of bs) (λ lengths. length_place before w >>= λ place. provided (are_lengths lengths && list_all (nat_lt 0) lengths) (Some (Dyn (arrays_of leaf lengths) (At place)))) t e in
    let b = bind_some (length_place before w) (λ place. provided (are_lengths a.0 && list_all (nat_lt 0) a.0) (Some (Dyn (arrays_of leaf a.0) (At place)))) t a.2 in
    let made : MemberType = Dyn (arrays_of leaf a.0) (At b.0) in
    let c = provided_some (are_lengths a.0 && list_all (nat_lt 0) a.0) (Some made) t b.2 in
    let both = and_true (are_lengths a.0) (list_all (nat_lt 0) a.0) c.0 in
    subst (IsMember clocks before) (some_same made t (Some made) refl c.1)
    (array_allowed clocks leaf a.0 l (nested a.0 both.0), has_bits leaf a.0 both.1, place_counts before w b.0 b.1)

-- ---- members

parts_good : (m : MemberTree) → AreGood (member_toks m) → AreGood (kind_toks m.kind) × IsGood (word m.name)
parts_good m g =
    let rest : List Atom = word m.name ∷ flat_map bracket_toks m.brackets in
    let both = all_front IsGood (kind_toks m.kind ++ rest) (mark marks.Semicolon ∷ []) g in
    (all_front IsGood (kind_toks m.kind) rest both, (all_back IsGood (kind_toks m.kind) rest both).0)

pub member_allowed : (known : Known) (before : List (List ℕ × MemberType)) (m : MemberTree) (t : MemberType) → AreGood (member_toks m) → member_meaning known before m ≡ Some t
    → IsMember known.clocks before t
unfolding member_meaning
member_allowed known before m t g e =
    let a = bind_some (kind_meaning known m.kind) (λ leaf. bracketed before leaf m.brackets) t e in
    bracketed_allowed known.clocks before a.0 m.brackets t (kind_allowed known m.kind a.0 (parts_good m g).0 a.1) a.2

-- ---- names that differ

-- one more name behind the others, which none of them is
distinct_push : (w : List ℕ) (t : MemberType) (before : List (List ℕ × MemberType)) → has_member w before ≡ false → IsDistinct bytes_eq (names_in before)
    → IsDistinct bytes_eq (names_in (before ++ (w, t) ∷ []))
unfolding IsDistinct
distinct_push w t [] h d = (tt, tt)
distinct_push w t (m ∷ ms) h d =
    let both = or_parts (bytes_eq w m.0) (has_member w ms) h in
    let others = all_more (λ y. bytes_eq m.0 y ≡ false) (names_in ms) w d.0 (nat_list_eq_equiv.symm m.0 w ∙ both.0) in
    (subst (AllByRecursion (λ y. bytes_eq m.0 y ≡ false)) (sym (map-append (λ x. x.0) ms ((w, t) ∷ []))) others, distinct_push w t ms both.1 d.1)

pub distinct_none : IsDistinct bytes_eq []
unfolding IsDistinct
distinct_none = tt

-- ---- members

-- the members that are made behind those before them
record MadeMembers (clocks : List (List ℕ)) (before out : List (List ℕ × MemberType)) (ms : List MemberTree) : Type 0 where
  more : List (List ℕ × MemberType)
  whole : out ≡ before ++ more
  types : AreMembers clocks before more
  names : AllByRecursion IsMetadataName (names_in more)
  distinct : IsDistinct bytes_eq (names_in out)
  many : length more ≡ length ms

members_allowed : (known : Known) (before : List (List ℕ × MemberType)) (ms : List MemberTree) (out : List (List ℕ × MemberType)) → AllByRecursion (λ m. AreGood (member_toks m)) ms
    → IsDistinct bytes_eq (names_in before) → members_meaning known before ms ≡ Some out → MadeMembers known.clocks before out ms
unfolding members_meaning AreMembers
members_allowed known before [] out g d e =
    let same : before ≡ out = some_same before out (Some before) refl e in
    record {
      more = [];
      whole = sym same ∙ sym (append-nil before);
      types = tt;
      names = tt;
      distinct = subst (λ (ks : List (List ℕ × MemberType)). IsDistinct bytes_eq (names_in ks)) same d;
      many = refl;
    }
members_allowed known before (m ∷ ms) out g d e =
    let a = bind_some (provided (not (has_member m.name before)) (member_meaning known before m)) (λ t. members_meaning known (before ++ (m.name, t) ∷ []) ms) out e in
    let p = provided_some (not (has_member m.name before)) (member_meaning known before m) a.0 a.1 in
    let new : List ℕ × MemberType = (m.name, a.0) in
    let r = members_allowed known (before ++ new ∷ []) ms out g.1 (distinct_push m.name a.0 before (not-true (has_member m.name before) p.0) d) a.2 in
    record {
      more = new ∷ r.more;
      whole = r.whole ∙ append_assoc before (new ∷ []) r.more;
      types = (member_allowed known before m a.0 g.0 p.1, r.types);
      names = ((parts_good m g.0).1, r.names);
      distinct = r.distinct;
      many = ap (λ (n : ℕ). suc n) r.many;
    }

-- ---- structures

no_members : (members : List (List ℕ × MemberType)) (align : Option ℕ) (min_align : ℕ) → (align >>= λ a. Some (align_with members a)) ≡ Some min_align → members ≡ [] → min_align ≡ 1
no_members members align min_align e h = grind (arith, e, h)

pub struct_allowed : (known : Known) (s : Structure) (t : StructType) → AreGood (struct_toks s) → struct_meaning known s ≡ Some t → IsStruct known.clocks t
struct_allowed known s t g e =
    let says = says_structure known s t e in
    let front : List Atom = word (codes "struct") ∷ braced (flat_map member_toks s.members) in
    let good = all_spelled member_toks s.members (inside (flat_map member_toks s.members) (all_front IsGood front (align_toks s.align) g).1) in
    let made = members_allowed known [] s.members t.members good distinct_none says.members in
    record {
      members = subst (AreMembers known.clocks []) (sym made.whole) made.types;
      names = subst (λ (ms : List (List ℕ × MemberType)). All IsMetadataName (names_in ms)) (sym made.whole) (All-from_recursion IsMetadataName (names_in made.more) made.names);
      distinct = made.distinct;
      few = omega (arith, leb-true (length s.members) MAX_MEMBERS says.few, made.many, ap length made.whole);
      empty = no_members t.members (align_of s.align) t.min_align says.align;
    }

no_structure : (clocks : List (List ℕ)) (t : StructType) → struct_type [] 1 ≡ Some t → IsStruct clocks t
unfolding AreMembers
no_structure clocks t e =
    let p = struct_type-parts [] 1 t e in
    let none = subst (λ (ms : List (List ℕ × MemberType)). AreMembers clocks [] ms × All IsMetadataName (names_in ms) × IsDistinct bytes_eq (names_in ms)) (sym p.0) (tt, All-from_recursion IsMetadataName [] tt, distinct_none) in
    record { members = none.0; names = none.1; distinct = none.2; few = omega (arith, ap length p.0); empty = λ _. p.1 }

-- ---- scopes

scopes_good : (is : List Item) → AreGood (flat_map item_toks is) → AllByRecursion (λ s. AreGood (scope_toks s)) (scopes_in is)
scopes_good [] g = tt
scopes_good (items.Attribute a ∷ is) g = scopes_good is (all_back IsGood (item_toks (items.Attribute a)) (flat_map item_toks is) g)
scopes_good (items.Scope s ∷ is) g = (all_front IsGood (scope_toks s) (flat_map item_toks is) g, scopes_good is (all_back IsGood (scope_toks s) (flat_map item_toks is) g))

structure_good : (s : Scope) → AreGood (scope_toks s) → AreGood (struct_toks s.structure)
structure_good s g =
    let front : List Atom = name_toks s.name ++ mark marks.Assign ∷ struct_toks s.structure in
    (all_back IsGood (name_toks s.name) (mark marks.Assign ∷ struct_toks s.structure) (all_front IsGood front (mark marks.Semicolon ∷ []) g)).1

found_good : (n : List (List ℕ)) (ss : List Scope) (s : Structure) → AllByRecursion (λ x. AreGood (scope_toks x)) ss → scope n ss ≡ Some s → AreGood (struct_toks s)
found_good n [] s g e = absurd cc
found_good n (x ∷ ss) s g e = grind (arith, structure_good x, found_good n ss s, g, e)

structure_allowed : (known : Known) (o : Option Structure) (t : StructType) → ((s : Structure) → o ≡ Some s → AreGood (struct_toks s)) → structure_of known o ≡ Some t → IsStruct known.clocks t
structure_allowed known None t g e = no_structure known.clocks t e
structure_allowed known (Some s) t g e = struct_allowed known s t (g s refl) e

-- the structure of a scope is allowed, and its members pass the test
pub scope_allowed : (known : Known) (name : List (List ℕ)) (test : List ℕ × MemberType → Bool) (is : List Item) (t : StructType) → AreGood (items_toks is)
    → scope_meaning known name test (scopes_in is) ≡ Some t → IsStruct known.clocks t × (list_all test t.members ≡ true)
scope_allowed known name test is t g e =
    let a = bind_some (structure_of known (scope name (scopes_in is))) (λ u. provided (list_all test u.members) (Some u)) t e in
    let p = provided_some (list_all test a.0.members) (Some a.0) t a.2 in
    let good = scopes_good is (inside (flat_map item_toks is) g) in
    let allowed = structure_allowed known (scope name (scopes_in is)) a.0 (λ s h. found_good name (scopes_in is) s good h) a.1 in
    subst (λ (u : StructType). IsStruct known.clocks u × (list_all test u.members ≡ true)) (some_same a.0 t (Some a.0) refl p.1) (allowed, p.0)

-- ---- members that a test passed

pub unsigned : (m : MemberType) → is_unsigned m ≡ true → IsUnsigned m
unsigned m h = grind (arith, h)

-- each member that a test passed has what the test says of its name
pub each_has : (test : List ℕ × MemberType → Bool) (P : List ℕ × MemberType → Type 0) → ((m : List ℕ × MemberType) → test m ≡ true → P m)
    → (ms : List (List ℕ × MemberType)) → list_all test ms ≡ true → All P ms
each_has test P says ms h = All-weaker (λ (m : List ℕ × MemberType). test m ≡ true) P says ms (AllPass-from_list_all test ms h)

-- a test of a member by its name
pub at_name : (test : List ℕ × MemberType → Bool) (name : List ℕ) (m : List ℕ × MemberType) → test m ≡ true → bytes_eq m.0 name ≡ true → test (name, m.1) ≡ true
at_name test name m h e = subst (λ (n : List ℕ). test (n, m.1) ≡ true) ((bytes_eq-Decides m.0 name).0 e) h
