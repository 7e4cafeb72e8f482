-- What the kinds, the brackets and the members of a structure mean in which no flaw is found.
use Rattle.std.proofs.Common.{◌≡◌, ℕ, ◌<◌, ◌%◌, ◌==◌, Bool, true, false, ◌&&◌, List, ◌∷◌, ◌++◌, length, Option, Some, None, cond, IsSome, Bor, ℤ, refl, sym, ap, subst, ◌∙◌, arith, length-append, ◌*◌, ◌≤◌, max, inl, inr, []}
use Rattle.tsdl_meaning.proofs.TextWords.{Adds, AddsAttribute, AreBrackets, AreRanges, Asked, Attribute, BTreeSet, Bracket, ByteOrder, Entries, Entry, Global, HaveNumbers, KeepsLimits, Known, LARGEST_ALIGN, Leaf, MAX_ARRAYS, MAX_ELEMENTS, MAX_MEMBERS, MAX_RANGES, MemberTree, MemberType, NameLength, Number, ScopeRule, String, StructType, Structure, Value, align_of, align_with, and_from, and_true, are_distinct, are_lengths, attr, attr_names, base_value, bind_is, bracketed, bytes_eq, clock_value, codes, count_of, default_align, elements_of, encoding_value, entries_of, entry_meaning, enum_meaning, eqb-true, flag_value, has_member, has_only, high_of, int_attrs, int_le, int_meaning, is_alignment, is_among, is_size, is_some, kind_meaning, leb-true, length_place, list_all, list_any, ltb-true, member_meaning, members_meaning, nat_le, nat_lt, natural, natural_value, integer_asks, of_string, option_map, option_map_or, order_value, own_asked, own_attrs, signed_of, string_attrs, struct_meaning, struct_type, suits_rule, text_meaning, tree_of, with_default, word_value, words_of}
use Rattle.std.proofs.lemmas.Bool.Decides.{nat_tests}
use Rattle.ctf_types.specs.declared.Base.TheVariants.{Dec}
use Rattle.ctf_types.specs.declared.IntType.{IntType}
use Rattle.tsdl_grammar.specs.declared.tree.Kind.TheVariants as kinds
use Rattle.tsdl_meaning.specs.declared.judge.kind.TypeKind.{TypeKind}
use Rattle.tsdl_meaning.specs.declared.judge.kind.TypeKind.TheVariants as types
use Rattle.tsdl_grammar.proofs.TypeParts.{int_type-own, struct_type-own}
use Rattle.tsdl_meaning.proofs.FlawlessItems.{Attributes, attribute_more, all_one_more, passes_of, some_is, there_of, value_fits, default_is, option_is}
use Rattle.tsdl_meaning.proofs.FlawlessFacts.{each_more}
use Rattle.tsdl_meaning.proofs.ElementCounts.{elements_behind}
use Rattle.tsdl_flaw.specs.Limits.{depth, elements}
use Rattle.tsdl_meaning.specs.OfferedWords.{words_by}
use Rattle.tsdl_grammar.specs.declared.tree.Bracket.TheVariants as brackets
use Rattle.tsdl_meaning.specs.declared.judge.brackets.Lengths.{Lengths}
use Rattle.tsdl_meaning.specs.FlawlessStructures.{AddsMember, IsFlawless}

-- ---- the attributes of a type

pub record Own (allowed : List (List (List ℕ))) (asked : Asked) (all : List Attribute) (names : BTreeSet (String Global)) : Type 0 where
  pub among : list_all (λ a. is_among allowed (words_of a.name)) all ≡ true
  pub attributes : Attributes asked names all

pub own_more : (allowed : List (List (List ℕ))) (asked : Asked) (all : List Attribute) (a : Attribute) (before after : BTreeSet (String Global)) → Own allowed asked all before
    → is_among allowed (words_of a.name) ≡ true → AddsAttribute asked before a after → Own allowed asked (all ++ a ∷ []) after
own_more allowed asked all a before after s among adds =
    record { among = all_one_more (λ x. is_among allowed (words_of x.name)) all a s.among among; attributes = attribute_more asked before after all a s.attributes adds }

only_these : (allowed : List (List (List ℕ))) (asked : Asked) (all : List Attribute) (names : BTreeSet (String Global)) → Own allowed asked all names → has_only allowed all ≡ true
only_these allowed asked all names s = and_from (are_distinct (attr_names all)) (list_all (λ a. is_among allowed (words_of a.name)) all) s.attributes.named.once s.among

-- ---- values

-- a word for the trace's own byte order, or for both where the trace gives none
pub order_meant : (has : Bool) (order : ByteOrder) (v : Value) → option_map_or (λ w. list_any (bytes_eq w) (words_by (cond has (Some order) None))) (word_value v) false ≡ true
    → is_some (order_value order v) ≡ true
unfolding order_value
order_meant true order v e = grind (arith, e)
order_meant false order v e = grind (arith, e)

-- ---- integers

-- a power of two up to the largest alignment
abbrev is_power : ℕ → Bool
is_power n = nat_lt 0 n && (LARGEST_ALIGN % n == 0)

align_range : (size align : ℕ) (o : Option Value) → ((v : Value) → o ≡ Some v → is_alignment v ≡ true) → with_default (default_align size) natural_value o ≡ Some align → is_power align ≡ true
align_range size align None asks e = grind (arith, e)
align_range size align (Some v) asks e = passes_of is_power (natural_value v) align (asks v refl) e

integer_means : (known : Known) (attrs : List Attribute) (names : BTreeSet (String Global)) → Own int_attrs (integer_asks known) attrs names → is_some (attr (codes "size") attrs) ≡ true
    → IsSome (int_meaning known attrs)
unfolding int_meaning
integer_means known attrs names s there =
    let asked = integer_asks known in
    let all = s.attributes.fit in
    let given = some_is (attr (codes "size") attrs) there in
    let sized : is_size given.0 ≡ true = value_fits asked (codes "size") attrs given.0 all given.1 in
    let size = some_is (natural_value given.0) (there_of (λ n. nat_lt 0 n && nat_le n 64) (natural_value given.0) sized) in
    let range = and_true (nat_lt 0 size.0) (nat_le size.0 64) (passes_of (λ n. nat_lt 0 n && nat_le n 64) (natural_value given.0) size.0 sized size.1) in
    let align = default_is asked natural_value (codes "align") attrs all (λ v h. there_of is_power (natural_value v) h) (default_align size.0) in
    let aligned = and_true (nat_lt 0 align.0) (LARGEST_ALIGN % align.0 == 0) (align_range size.0 align.0 (attr (codes "align") attrs) (λ v e. value_fits asked (codes "align") attrs v all e) align.1) in
    let signed = default_is asked flag_value (codes "signed") attrs all (λ v h. h) false in
    let order = default_is asked (order_value known.order) (codes "byte_order") attrs all (λ v h. h) known.order in
    let base = default_is asked base_value (codes "base") attrs all (λ v h. h) Dec in
    let clock = option_is asked (clock_value known.clocks) (codes "map") attrs all (λ v h. h) in
    let t : IntType = record {
      size = size.0;
      align = align.0;
      signed = signed.0;
      base = base.0;
      clock = clock.0;
      not_empty = ltb-true 0 size.0 range.0;
      at_most_64 = leb-true size.0 64 range.1;
      positive = ltb-true 0 align.0 aligned.0;
      power_of_two = eqb-true (LARGEST_ALIGN % align.0) 0 aligned.1;
    } in
    rw (only_these int_attrs asked attrs names s, given.1, size.1, align.1, signed.1, order.1, base.1, clock.1, int_type-own t) refl

-- ---- enumerations

pub ranges_mean : (known : Known) (attrs : List Attribute) (es : Entries) → IsSome (int_meaning known attrs) → AreRanges (entries_of es) → IsSome (kind_meaning known (kinds.Enumeration attrs es))
unfolding kind_meaning enum_meaning
ranges_mean known attrs es int ranges =
    let t = some_is (int_meaning known attrs) int in
    let n = ranges.few in
    let few : nat_le (length (entries_of es)) MAX_RANGES ≡ true = grind (arith, nat_tests) in
    rw (t.1, few, ranges.mean) refl

pub int_means : (known : Known) (attrs : List Attribute) → IsSome (kind_meaning known (kinds.Integer attrs)) → IsSome (int_meaning known attrs)
unfolding kind_meaning
int_means known attrs h = grind (arith, h)

-- ---- strings

string_means : (attrs : List Attribute) (names : BTreeSet (String Global)) → Own string_attrs of_string attrs names → IsSome (text_meaning (Some attrs))
unfolding text_meaning
string_means attrs names s =
    let encoded = default_is of_string encoding_value (codes "encoding") attrs s.attributes.fit (λ v h. h) true in
    rw (only_these string_attrs of_string attrs names s, encoded.1) refl

-- a string alone, and with what encoding it has
pub bare_string : (known : Known) → IsSome (kind_meaning known (kinds.Text None))
unfolding kind_meaning text_meaning
bare_string known = refl

-- a type that has its size, if it is an integer
pub type_means : (known : Known) (kind : TypeKind) (attrs : List Attribute) (names : BTreeSet (String Global)) → Own (own_attrs kind) (own_asked known kind) attrs names
    → (kind ≡ types.Integer → is_some (attr (codes "size") attrs) ≡ true) → IsSome (kind_meaning known (tree_of kind attrs))
unfolding kind_meaning
type_means known types.Integer attrs names s there = let t = some_is (int_meaning known attrs) (integer_means known attrs names s (there refl)) in rw t.1 refl
type_means known types.Text attrs names s there = string_means attrs names s

-- ---- ranges

own_range : (low : ℤ) → int_le low low ≡ true
own_range low = grind (arith, nat_tests)

pub range_means : (e : Entry) → int_le (signed_of e.low) (high_of (signed_of e.low) e.high) ≡ true → IsSome (entry_meaning e)
unfolding entry_meaning
range_means e h = rw h refl

-- one number is a range of its own
pub number_means : (e : Entry) → e.high ≡ None → IsSome (entry_meaning e)
number_means e none = range_means e (ap (λ (o : Option Number). int_le (signed_of e.low) (high_of (signed_of e.low) o)) none ∙ own_range (signed_of e.low))

pub no_ranges : AreRanges []
no_ranges = record { few = omega arith; mappings = []; mean = refl }

pub first_range : (e : Entry) → IsSome (entry_meaning e) → AreRanges (e ∷ [])
first_range e meant =
    let m = some_is (entry_meaning e) meant in
    record { few = omega arith; mappings = m.0 ∷ []; mean = bind_is (entry_meaning e) (λ y. Some (y ∷ [])) m.0 (m.0 ∷ []) m.1 refl }

pub range_more : (es : List Entry) (e : Entry) → AreRanges es → length es < MAX_RANGES → IsSome (entry_meaning e) → AreRanges (es ++ e ∷ [])
range_more es e s few meant =
    let m = some_is (entry_meaning e) meant in
    let n = length-append es (e ∷ []) in
    record { few = omega (arith, n, few); mappings = s.mappings ++ m.0 ∷ []; mean = each_more entry_meaning es s.mappings e m.0 s.mean m.1 }

-- ---- look-ups

pub seen : (o : Option (Bor Value)) (p : Option Value) → option_map (λ v. v.now) o ≡ p → is_some o ≡ true → is_some p ≡ true
seen None p e h = absurd cc
seen (Some v) p e h = ap is_some (sym e)

-- ---- brackets

all_bits : (ns : List ℕ) (n : ℕ) → list_all (nat_lt 0) ns ≡ true → 0 < n → list_all (nat_lt 0) (ns ++ n ∷ []) ≡ true
all_bits ns n all some = grind (arith, nat_tests, all_one_more (nat_lt 0) ns n all, some)

-- before any bracket
pub no_brackets : (before : List (List ℕ × MemberType)) → AreBrackets before [] (record { is_sequence = false; count = 0; elements = 1 })
unfolding elements_of
no_brackets before = record { numbers = []; counted = refl; made = refl; few = omega arith; small = omega arith; shape = inl (refl, refl) }

-- one more number
pub count_more : (before : List (List ℕ × MemberType)) (done : List Bracket) (old new : Lengths) (number : Number) (n : ℕ) → AreBrackets before done old → natural number ≡ Some n → KeepsLimits old n new
    → Adds old n new → AreBrackets before (done ++ brackets.Count number ∷ []) new
count_more before done old new number n s e keeps adds =
    let made = adds.made ∙ ap (λ (k : ℕ). k * max n 1) s.made ∙ sym (elements_behind s.numbers n) in
    let l = length-append s.numbers (n ∷ []) in
    let c = s.counted in let a = adds.counted in let f = keeps.few in let small = keeps.small in
    record {
      numbers = s.numbers ++ n ∷ [];
      counted = omega (arith, l, c, a);
      made = made;
      few = omega (arith, l, c, f);
      small = subst (λ (k : ℕ). k ≤ MAX_ELEMENTS) made small;
      shape = elim s.shape [
        | inl plain ↦ inl (adds.sequence ∙ plain.0, each_more count_of done s.numbers (brackets.Count number) n plain.1 e)
        | inr named ↦ inr (
          adds.sequence ∙ named.0,
          record {
            name = named.1.name;
            rest = named.1.rest ++ brackets.Count number ∷ [];
            begins = ap (λ (l : List Bracket). l ++ brackets.Count number ∷ []) named.1.begins;
            numbered = each_more count_of named.1.rest s.numbers (brackets.Count number) n named.1.numbered e;
            place = named.1.place;
            bits = all_bits s.numbers n named.1.bits (keeps.bits named.0);
          },
        )
      ];
    }

no_numbers : (ns : List ℕ) → length ns ≡ 0 → ns ≡ []
no_numbers [] e = refl
no_numbers (n ∷ ns) e = absurd (omega (arith, e))

none_there : (done : List Bracket) (numbers : List ℕ) → HaveNumbers done numbers → length numbers ≡ 0 → done ≡ []
none_there [] numbers e z = refl
none_there (b ∷ done) numbers e z = absurd (grind (arith, e, z))

-- the name of a length, which is the first
pub name_more : (before : List (List ℕ × MemberType)) (done : List Bracket) (old : Lengths) (name : List ℕ) → AreBrackets before done old → old.is_sequence ≡ false → old.count ≡ 0
    → IsSome (length_place before name) → AreBrackets before (done ++ brackets.Member name ∷ []) (record old { is_sequence = true })
unfolding elements_of
name_more before done old name s plain none place = elim s.shape [
  | inr named ↦ absurd (let never : false ≡ true = sym plain ∙ named.0 in cc)
  | inl numbered ↦
      let empty = none_there done s.numbers numbered.1 (sym s.counted ∙ none) in
      record {
        numbers = [];
        counted = none;
        made = s.made ∙ ap elements_of (no_numbers s.numbers (sym s.counted ∙ none));
        few = omega arith;
        small = omega arith;
        shape = inr (refl, record { name = name; rest = []; begins = ap (λ (l : List Bracket). l ++ brackets.Member name ∷ []) empty; numbered = refl; place = place; bits = refl });
      }
]

-- brackets with these numbers have as many lengths, and as many elements
numbered_are : (done : List Bracket) (ns : List ℕ) → HaveNumbers done ns → (depth done ≡ length ns) × (elements done ≡ elements_of ns)
unfolding elements_of
numbered_are [] ns e = grind (arith, e)
numbered_are (b ∷ done) ns e = grind (arith, numbered_are done, e)

pub lengths_of : (before : List (List ℕ × MemberType)) (done : List Bracket) (l : Lengths) → AreBrackets before done l → (depth done ≡ l.count) × (elements done ≡ l.elements)
lengths_of before done l s =
    elim s.shape [
      | inl plain ↦ (let n = numbered_are done s.numbers plain.1 in (n.0 ∙ sym s.counted, n.1 ∙ sym s.made))
      | inr named ↦
          let n = numbered_are named.1.rest s.numbers named.1.numbered in
          (ap depth named.1.begins ∙ n.0 ∙ sym s.counted, ap elements named.1.begins ∙ n.1 ∙ sym s.made)
    ]

-- ---- the type

lengths_are : (ns : List ℕ) → length ns ≤ MAX_ARRAYS → elements_of ns ≤ MAX_ELEMENTS → are_lengths ns ≡ true
lengths_are ns few small = grind (arith, nat_tests, few, small)

arrays_mean : (before : List (List ℕ × MemberType)) (leaf : Leaf) (bs : List Bracket) (numbers : List ℕ) → HaveNumbers bs numbers → are_lengths numbers ≡ true → IsSome (bracketed before leaf bs)
unfolding bracketed
arrays_mean before leaf bs numbers e limits = grind (arith, e, limits)

sequence_means : (before : List (List ℕ × MemberType)) (leaf : Leaf) (bs : List Bracket) (numbers : List ℕ) → NameLength before bs numbers → are_lengths numbers ≡ true → IsSome (bracketed before leaf bs)
unfolding bracketed
sequence_means before leaf bs numbers s limits =
    let place = some_is (length_place before s.name) s.place in
    let made : IsSome (bracketed before leaf (brackets.Member s.name ∷ s.rest)) = rw (s.numbered, place.1, limits, s.bits) refl in
    subst (λ (l : List Bracket). IsSome (bracketed before leaf l)) (sym s.begins) made

pub brackets_mean : (before : List (List ℕ × MemberType)) (leaf : Leaf) (bs : List Bracket) (l : Lengths) → AreBrackets before bs l → IsSome (bracketed before leaf bs)
brackets_mean before leaf bs l s =
    let limits = lengths_are s.numbers s.few s.small in
    elim s.shape [
      | inl plain ↦ arrays_mean before leaf bs s.numbers plain.1 limits
      | inr named ↦ sequence_means before leaf bs s.numbers named.1 limits
    ]

pub member_means : (known : Known) (before : List (List ℕ × MemberType)) (t : MemberTree) → IsSome (kind_meaning known t.kind) → ((leaf : Leaf) → IsSome (bracketed before leaf t.brackets))
    → IsSome (member_meaning known before t)
unfolding member_meaning
member_means known before t kind arrays = let leaf = some_is (kind_meaning known t.kind) kind in rw leaf.1 (arrays leaf.0)

-- ---- structures

-- these members have no flaw
pub record AreFlawless (known : Known) (rule : ScopeRule) (trees : List MemberTree) (members : List (List ℕ × MemberType)) : Type 0 where
  pub few : length members ≤ MAX_MEMBERS
  pub counted : length members ≡ length trees
  pub mean : members_meaning known [] trees ≡ Some members
  pub suit : list_all (suits_rule rule) members ≡ true

-- one more member behind these
more_mean : (known : Known) (before : List (List ℕ × MemberType)) (trees : List MemberTree) (members : List (List ℕ × MemberType)) (tree : MemberTree) (t : MemberType)
    → members_meaning known before trees ≡ Some members → has_member tree.name members ≡ false → member_meaning known members tree ≡ Some t
    → members_meaning known before (trees ++ tree ∷ []) ≡ Some (members ++ (tree.name, t) ∷ [])
unfolding members_meaning
more_mean known before [] members tree t e fresh meant = grind (arith, e, fresh, meant)
more_mean known before (x ∷ trees) members tree t e fresh meant =
    grind (arith, λ (u : MemberType). more_mean known (before ++ (x.name, u) ∷ []) trees members tree t, e, fresh, meant)

pub one_more : (known : Known) (rule : ScopeRule) (trees : List MemberTree) (before after : List (List ℕ × MemberType)) (tree : MemberTree) → AreFlawless known rule trees before
    → AddsMember known rule before tree after → AreFlawless known rule (trees ++ tree ∷ []) after
one_more known rule trees before after tree f a =
    let more = before ++ (tree.name, a.member) ∷ [] in
    let m = length-append before ((tree.name, a.member) ∷ []) in
    let n = length-append trees (tree ∷ []) in
    let few = f.few in let counted = f.counted in let below = a.few in
    let made : AreFlawless known rule (trees ++ tree ∷ []) more = record {
      few = omega (arith, m, below);
      counted = omega (arith, m, n, counted);
      mean = more_mean known [] trees before tree a.member f.mean a.fresh a.meant;
      suit = all_one_more (suits_rule rule) before (tree.name, a.member) f.suit a.suits;
    } in
    subst (AreFlawless known rule (trees ++ tree ∷ [])) (sym a.added) made

pub none_flawless : (known : Known) (rule : ScopeRule) (members : List (List ℕ × MemberType)) → members ≡ [] → AreFlawless known rule [] members
unfolding members_meaning
none_flawless known rule members e = subst (AreFlawless known rule []) (sym e) (record { few = omega arith; counted = refl; mean = refl; suit = refl })

-- the alignment that a structure has with its members is in range
in_range : (members : List (List ℕ × MemberType)) (o : Option Number) (a : ℕ) → align_of o ≡ Some a → is_power (align_with members a) ≡ true
in_range members o a e = grind (arith, e)

-- all the members and the alignment
pub all_flawless : (known : Known) (rule : ScopeRule) (s : Structure) (members : List (List ℕ × MemberType)) → AreFlawless known rule s.members members → IsSome (align_of s.align)
    → IsFlawless known rule s
unfolding struct_meaning
all_flawless known rule s members f is =
    let align = some_is (align_of s.align) is in
    let a = align_with members align.0 in
    let r = and_true (nat_lt 0 a) (LARGEST_ALIGN % a == 0) (in_range members s.align align.0 align.1) in
    let meant : StructType = record { members = members; min_align = a; positive = ltb-true 0 a r.0; power_of_two = eqb-true (LARGEST_ALIGN % a) 0 r.1 } in
    let m = f.few in let n = f.counted in
    let few : nat_le (length s.members) MAX_MEMBERS ≡ true = grind (arith, nat_tests) in
    record { meant = meant; means = rw (few, f.mean) (bind_is (align_of s.align) (λ n. struct_type members (align_with members n)) align.0 meant align.1 (struct_type-own meant)); suit = f.suit }
