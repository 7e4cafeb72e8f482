-- Names, attributes and scopes without a flaw, one behind the other, and what is looked up among them.
use Rattle.std.proofs.Common.{◌≡◌, ℕ, Bool, true, false, ◌&&◌, List, ◌∷◌, ◌++◌, refl, ap, ◌∙◌, Option, Some, None, sym, subst, map, append_assoc, [], arith}
use Rattle.tsdl_meaning.proofs.MemberNames.{member_there}
use Rattle.tsdl_meaning.proofs.TextWords.{AddsAttribute, AddsName, AddsScope, AllByRecursion, AreFlawless, Asked, Attribute, BTreeSet, BlockKind, Global, HasNames, IsFlawlessScope, Item, Known, Ledger, MemberTree, MemberType, Name, Scope, ScopeRule, String, StructType, Structure, Value, and_from, append-nil, are_distinct, asked_of, attr, attr_in, attrs_in, bind_is, bind_some, bytes_eq, bytes_eq-Decides, eqb-true, false≢true, fits, flat_map, has_member, is_fit, is_some, is_word, list_all, list_any, ltb-true, map-append, member_names, members_meaning, names_in, no_two, one_word, option_map, option_map_or, optional, provided, rule_in, same_words, scope, scope_in, scopes_in, scopes_of, some_same, struct_type, structure_of, suits_rule, with_default, with_dot, words_of, written, ◌>>=◌, false_from_ne_true}
use Rattle.std.proofs.lemmas.List.Concat.{flat_map-append}
use Rattle.tsdl_meaning.proofs.DistinctKeys.{any_behind, one_name}
use Rattle.tsdl_grammar.proofs.TypeParts.{struct_type-own}
use Rattle.tsdl_grammar.proofs.MeaningParts.{says_structure}
use Rattle.tsdl_meaning.specs.FlawlessStructures.{IsFlawless}
use Rattle.std.proofs.lemmas.List.Folds.{list_all-append}
use Rattle.tsdl_grammar.specs.declared.tree.Item.TheVariants as items

-- ---- lists

pub all_more : {A : Type 0} (P : A → Type 0) (xs : List A) (x : A) → AllByRecursion P xs → P x → AllByRecursion P (xs ++ x ∷ [])
all_more P [] x all p = (p, tt)
all_more P (y ∷ ys) x all p = (all.0, all_more P ys x all.1 p)

pub all_weaker : {A : Type 0} (P Q : A → Type 0) (xs : List A) → ((x : A) → P x → Q x) → AllByRecursion P xs → AllByRecursion Q xs
all_weaker P Q [] f all = tt
all_weaker P Q (x ∷ xs) f all = (f x all.0, all_weaker P Q xs f all.1)

pub flat_more : {A B : Type 0} (f : A → List B) (xs : List A) (x : A) → flat_map f (xs ++ x ∷ []) ≡ flat_map f xs ++ f x
flat_more {A} {B} f xs x = flat_map-append f xs (x ∷ []) ∙ ap (λ (l : List B). flat_map f xs ++ l) (append-nil (f x))

pub all_one_more : {A : Type 0} (f : A → Bool) (xs : List A) (x : A) → list_all f xs ≡ true → f x ≡ true → list_all f (xs ++ x ∷ []) ≡ true
all_one_more f xs x all one = list_all-append f xs (x ∷ []) ∙ and_from (list_all f xs) (f x && true) all (and_from (f x) true one refl)

-- one more item that is none of the others
pub no_two_more : {A : Type 0} (same : A → A → Bool) (xs : List A) (x : A) → AllByRecursion (λ y. same y x ≡ false) xs → no_two same xs ≡ true → no_two same (xs ++ x ∷ []) ≡ true
no_two_more same [] x others d = refl
no_two_more same (y ∷ ys) x others d = grind (arith, any_behind (same y) ys x, no_two_more same ys x, others, d)

-- ---- names as they are written

pub same_words-is : (xs ys : List (List ℕ)) → same_words xs ys ≡ true → xs ≡ ys
same_words-is [] ys e = grind (arith, e)
same_words-is (x ∷ xs) ys e = grind (arith, bytes_eq-Decides x, same_words-is xs, e)

abbrev pub written_words : List (List ℕ) → List ℕ
written_words [] = []
written_words (w ∷ ws) = w ++ flat_map with_dot ws

-- a name that is written otherwise has other words
other_words : (m n : Name) → bytes_eq (written n) (written m) ≡ false → same_words (words_of m) (words_of n) ≡ false
other_words m n e =
    false_from_ne_true (same_words (words_of m) (words_of n))
    (λ t. let same : written n ≡ written m = ap written_words (sym (same_words-is (words_of m) (words_of n) t)) in false≢true (sym e ∙ (bytes_eq-Decides (written n) (written m)).1 same))

module _ {A : Type 0} (named : A → Name) where
  -- no two of the names are the same, and the set has them as they are written
  pub record Once (names : BTreeSet (String Global)) (all : List A) : Type 0 where
    pub once : are_distinct (map (λ x. words_of (named x)) all) ≡ true
    pub kept : HasNames names (map (λ x. written (named x)) all)

  others : (n : Name) (all : List A) → list_any (bytes_eq (written n)) (map (λ x. written (named x)) all) ≡ false
      → AllByRecursion (λ ws. same_words ws (words_of n) ≡ false) (map (λ x. words_of (named x)) all)
  others n [] e = tt
  others n (x ∷ all) e = grind (arith, other_words (named x) n, others n all, e)

  once_more : (before after : BTreeSet (String Global)) (all : List A) (x : A) → Once before all → AddsName before (named x) after → Once after (all ++ x ∷ [])
  once_more before after all x s a = record {
    once =
        ap are_distinct (map-append (λ y. words_of (named y)) all (x ∷ []))
        ∙ no_two_more same_words (map (λ y. words_of (named y)) all) (words_of (named x)) (others (named x) all (sym (s.kept (written (named x))) ∙ a.fresh)) s.once;
    kept =
        one_name before after (map (λ y. written (named y)) all) (map (λ y. written (named y)) (all ++ x ∷ [])) (written (named x)) (map-append (λ y. written (named y)) all (x ∷ [])) s.kept
        a.kept;
  }

-- ---- values of attributes

pub some_is : {A : Type 0} (o : Option A) → is_some o ≡ true → (x : A) × (o ≡ Some x)
some_is o e = grind (arith, e)

-- where a test passes of what is there, something is there that passes it
pub passes_of : {A : Type 0} (P : A → Bool) (o : Option A) (x : A) → option_map_or P o false ≡ true → o ≡ Some x → P x ≡ true
passes_of P o x e f = grind (arith, e, f)

pub there_of : {A : Type 0} (P : A → Bool) (o : Option A) → option_map_or P o false ≡ true → is_some o ≡ true
there_of P o e = grind (arith, e)

-- ---- one word

word_is : (w : List ℕ) (n : Name) → is_word w n ≡ true → one_word n ≡ Some w
word_is w n e = grind (arith, bytes_eq-Decides n.first w, e)

-- the value of an attribute of this name is what the name asks for
pub value_fits : (asked : Asked) (w : List ℕ) (attrs : List Attribute) (v : Value) → list_all (is_fit asked) attrs ≡ true → attr w attrs ≡ Some v → fits asked w v ≡ true
value_fits asked w [] v h e = absurd cc
value_fits asked w (a ∷ attrs) v h e = grind (arith, word_is w a.name, value_fits asked w attrs v, h, e)

-- ---- what is needed, has a default, or may be left out

module _ {A : Type 0} (asked : Asked) (f : Value → Option A) (w : List ℕ) (attrs : List Attribute) (all : list_all (is_fit asked) attrs ≡ true) (asks : (v : Value) → fits asked w v ≡ true → is_some (f v) ≡ true) where
  pub needed_is : is_some (attr w attrs) ≡ true → (x : A) × ((attr w attrs >>= f) ≡ Some x)
  needed_is there =
      let found = some_is (attr w attrs) there in
      let meant = some_is (f found.0) (asks found.0 (value_fits asked w attrs found.0 all found.1)) in
      (meant.0, ap (λ (o : Option Value). o >>= f) found.1 ∙ meant.1)

  default_of : (d : A) (o : Option Value) → ((v : Value) → o ≡ Some v → is_some (f v) ≡ true) → (x : A) × (with_default d f o ≡ Some x)
  default_of d None h = (d, refl)
  default_of d (Some v) h = some_is (f v) (h v refl)

  pub default_is : (d : A) → (x : A) × (with_default d f (attr w attrs) ≡ Some x)
  default_is d = default_of d (attr w attrs) (λ v e. asks v (value_fits asked w attrs v all e))

  option_of : (o : Option Value) → ((v : Value) → o ≡ Some v → is_some (f v) ≡ true) → (x : Option A) × (optional f o ≡ Some x)
  option_of None h = (None, refl)
  option_of (Some v) h = let x = some_is (f v) (h v refl) in (Some x.0, ap (option_map (λ (y : A). Some y)) x.1)

  pub option_is : (x : Option A) × (optional f (attr w attrs) ≡ Some x)
  option_is = option_of (attr w attrs) (λ v e. asks v (value_fits asked w attrs v all e))

-- ---- the names of members

pub named_alike : (known : Known) (before : List (List ℕ × MemberType)) (trees : List MemberTree) (members : List (List ℕ × MemberType)) → members_meaning known before trees ≡ Some members
    → names_in members ≡ names_in before ++ map (λ t. t.name) trees
unfolding members_meaning
named_alike known before [] members e = ap names_in (some_same members before (Some before) e refl) ∙ sym (append-nil (names_in before))
named_alike known before (t ∷ trees) members e =
    let a = bind_some _ (λ u. members_meaning known (before ++ (t.name, u) ∷ []) trees) members e in
    named_alike known (before ++ (t.name, a.0) ∷ []) trees members a.2
    ∙ ap (λ (l : List (List ℕ)). l ++ map (λ x. x.name) trees) (map-append (λ m. m.0) before ((t.name, a.0) ∷ []))
    ∙ append_assoc (names_in before) (t.name ∷ []) (map (λ x. x.name) trees)

-- ---- the structure of a scope

-- the structure of a scope is not there, or has no flaw
abbrev MayBeFlawless : Known → ScopeRule → Option Structure → Type 0
MayBeFlawless known rule None = Unit {0}
MayBeFlawless known rule (Some s) = IsFlawless known rule s

found : (known : Known) (kind : BlockKind) (n : List (List ℕ)) (rule : ScopeRule) (scopes : List Scope) → AllByRecursion (IsFlawlessScope known kind) scopes → rule_in (scopes_of kind) n ≡ Some rule
    → MayBeFlawless known rule (scope n scopes)
found known kind n rule [] all asks = tt
found known kind n rule (s ∷ scopes) all asks = grind (arith, same_words-is (words_of s.name) n, found known kind n rule scopes, all, asks)

nothing : StructType
nothing = record { members = []; min_align = 1; positive = ltb-true 0 1 refl; power_of_two = eqb-true 0 0 refl }

-- the structure of a scope means one of which the members are those that stand there
pub record Means (known : Known) (rule : ScopeRule) (o : Option Structure) : Type 0 where
  pub meant : StructType
  pub means : (structure_of known o >>= λ t. provided (list_all (suits_rule rule) t.members) (Some t)) ≡ Some meant
  pub names : names_in meant.members ≡ member_names o

meant_by : (known : Known) (rule : ScopeRule) (o : Option Structure) → MayBeFlawless known rule o → Means known rule o
unfolding nothing
meant_by known rule None h = record {
  meant = nothing;
  means = bind_is (struct_type [] 1) (λ t. provided (list_all (suits_rule rule) t.members) (Some t)) nothing nothing (struct_type-own nothing) refl;
  names = refl;
}
meant_by known rule (Some s) h = record {
  meant = h.meant;
  means = rw (h.means, h.suit) refl;
  names = named_alike known [] s.members h.meant.members (says_structure known s h.meant h.means).members;
}

pub scope_means : (known : Known) (kind : BlockKind) (n : List (List ℕ)) (rule : ScopeRule) (scopes : List Scope) → AllByRecursion (IsFlawlessScope known kind) scopes
    → rule_in (scopes_of kind) n ≡ Some rule → Means known rule (scope n scopes)
scope_means known kind n rule scopes all asks = meant_by known rule (scope n scopes) (found known kind n rule scopes all asks)

-- a member of this name is there where one stands there
pub has_alike : (known : Known) (rule : ScopeRule) (o : Option Structure) (w : List ℕ) (m : Means known rule o) → has_member w m.meant.members ≡ list_any (bytes_eq w) (member_names o)
has_alike known rule o w m = member_there w m.meant.members ∙ ap (list_any (bytes_eq w)) m.names

-- ---- items

-- attributes that have what they are asked for, none of them twice, and their names
pub record Attributes (asked : Asked) (names : BTreeSet (String Global)) (all : List Attribute) : Type 0 where
  pub fit : list_all (is_fit asked) all ≡ true
  pub named : Once (λ (a : Attribute). a.name) names all

-- and scopes
pub record Scopes (known : Known) (kind : BlockKind) (names : BTreeSet (String Global)) (all : List Scope) : Type 0 where
  pub flawless : AllByRecursion (IsFlawlessScope known kind) all
  pub named : Once (λ (s : Scope). s.name) names all

pub attribute_more : (asked : Asked) (before after : BTreeSet (String Global)) (all : List Attribute) (a : Attribute) → Attributes asked before all → AddsAttribute asked before a after
    → Attributes asked after (all ++ a ∷ [])
attribute_more asked before after all a s adds = record { fit = all_one_more (is_fit asked) all a s.fit adds.fit; named = once_more (λ x. x.name) before after all a s.named adds.name }

-- the items so far
pub record Items (known : Known) (kind : BlockKind) (ledger : Ledger) (is : List Item) (named scoped : BTreeSet (String Global)) : Type 0 where
  pub attributes : Attributes (asked_of kind ledger) named (attrs_in is)
  pub scopes : Scopes known kind scoped (scopes_in is)

module _ (known : Known) (kind : BlockKind) (ledger : Ledger) (is : List Item) (named scoped after : BTreeSet (String Global)) (s : Items known kind ledger is named scoped) where
  pub with_attribute : (a : Attribute) → AddsAttribute (asked_of kind ledger) named a after → Items known kind ledger (is ++ items.Attribute a ∷ []) after scoped
  with_attribute a adds = record {
    attributes = subst (Attributes (asked_of kind ledger) after) (sym (flat_more attr_in is (items.Attribute a))) (attribute_more (asked_of kind ledger) named after (attrs_in is) a s.attributes adds);
    scopes = subst (Scopes known kind scoped) (sym (flat_more scope_in is (items.Attribute a) ∙ append-nil (scopes_in is))) s.scopes;
  }

  pub with_scope : (x : Scope) → AddsScope known kind scoped x after → Items known kind ledger (is ++ items.Scope x ∷ []) named after
  with_scope x adds = record {
    attributes = subst (Attributes (asked_of kind ledger) named) (sym (flat_more attr_in is (items.Scope x) ∙ append-nil (attrs_in is))) s.attributes;
    scopes = subst (Scopes known kind after) (sym (flat_more scope_in is (items.Scope x))) (record {
      flawless = all_more (IsFlawlessScope known kind) (scopes_in is) x s.scopes.flawless adds.flawless;
      named = once_more (λ y. y.name) scoped after (scopes_in is) x s.scopes.named adds.name;
    });
  }

pub no_items : (known : Known) (kind : BlockKind) (ledger : Ledger) (named scoped : BTreeSet (String Global)) → HasNames named [] → HasNames scoped [] → Items known kind ledger [] named scoped
no_items known kind ledger named scoped n s = record {
  attributes = record { fit = refl; named = record { once = refl; kept = n } };
  scopes = record { flawless = tt; named = record { once = refl; kept = s } };
}

pub items_flawless : (known : Known) (kind : BlockKind) (ledger : Ledger) (is : List Item) (named scoped : BTreeSet (String Global)) → Items known kind ledger is named scoped
    → AreFlawless known kind ledger is
items_flawless known kind ledger is named scoped s =
    record { attributes = s.attributes.fit; attributes_once = s.attributes.named.once; scopes = s.scopes.flawless; scopes_once = s.scopes.named.once }
