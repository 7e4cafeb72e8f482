-- The attributes of integers and of strings in another order.
use Rattle.std.proofs.Common.{◌≡◌, ℕ, suc, Bool, true, false, not, cond, ◌&&◌, List, [], ◌∷◌, ◌++◌, map, length, Option, Some, None, refl, sym, ap, ap₂, ◌∙◌, inl, inr, codes, flat_map, option_map, bytes_eq}
use Rattle.std.specs.List.{list_all}
use Rattle.std.proofs.{lemmas.Bool.cases_Bool, lemmas.List.Concat.flat_map-cons}
use Rattle.ctf_types.specs.{declared.ByteOrder.ByteOrder, declared.IntType.IntType, declared.MemberType.MemberType, Chain.{Leaf, Number, Labelled, ByteString}}
use Rattle.tsdl_grammar.specs.{declared.tree.Attribute.Attribute, declared.tree.Number.Number as SignedNumber, declared.tree.Kind.Kind, declared.tree.Bracket.Bracket, declared.tree.MemberTree.MemberTree, declared.tree.Structure.Structure}
use Rattle.tsdl_grammar.specs.{declared.tree.Name.Name, declared.tree.Scope.Scope, declared.tree.Item.Item, declared.tree.NamedFact.NamedFact, declared.tree.Block.Block}
use Rattle.tsdl_grammar.specs.Steps.{◌>>=◌, provided, only, at_most_one}
use Rattle.tsdl_grammar.specs.Lookups.{words_of, same_words, is_among, are_distinct, attr, attr_names, attr_in, attrs_in, scope, scope_in, scopes_in, has_parts, no_two}
use Rattle.tsdl_grammar.specs.AttributeValues.{with_default}
use Rattle.tsdl_grammar.specs.IntegerMeaning.{Known, int_meaning, int_attrs, has_only}
use Rattle.tsdl_grammar.specs.MemberMeaning.{encoding_value, text_meaning, kind_meaning, enum_meaning, bracketed, member_meaning}
use Rattle.tsdl_grammar.specs.StructureMeaning.{has_member, members_meaning, align_of, align_with, struct_type, struct_meaning, structure_of}
use Rattle.tsdl_grammar.specs.BlockMeaning.{packet_header, is_trace, trace_uuid, header_meaning, clock_meaning, packet_context, event_header, event_context, stream_meaning, specific_context, fields_scope, event_meaning, environment_meaning}
use Rattle.tsdl_grammar.specs.Denotes.{text_meta, trace_in, stream_in, event_in, clock_in, environment_in, known_of, streams_meaning}
use Rattle.tsdl_grammar.specs.Orders.{Reordered, Paired, none, more}
use Rattle.tsdl_grammar.specs.FieldOrders.{SameKind, integer, enumeration, string_with, string_alone, SameMember, SameStructure, SameScope, SameItem, attribute, SameFields}
use Rattle.tsdl_grammar.specs.FieldOrders as fields
use Rattle.tsdl_grammar.proofs.{Runs.and_true, Reordering.all_stays, ItemOrder.{distinct_stay, look_stays, paired_append, each_pair}}

-- attributes of an integer or of a string in another order
module _ (allowed : List (List (List ℕ))) (attrs others : List Attribute) (r : Reordered attrs others) where
  only_stays : has_only allowed attrs ≡ has_only allowed others
  only_stays = ap₂ (λ (a b : Bool). a && b) (distinct_stay (λ a. words_of a.name) r) (all_stays (λ a. is_among allowed (words_of a.name)) r)

  attr_stays : has_only allowed attrs ≡ true → (w : List ℕ) → attr w attrs ≡ attr w others
  attr_stays h w =
      look_stays (λ a. words_of a.name) (λ a. a.value) (w ∷ []) (attr w) (λ x xs. refl) r
      (and_true (are_distinct (attr_names attrs)) (list_all (λ a. is_among allowed (words_of a.name)) attrs) h).0

  under_test : {A : Type 0} (o p : Option A) → (has_only allowed attrs ≡ true → o ≡ p) → provided (has_only allowed attrs) o ≡ provided (has_only allowed others) p
  under_test o p alike = elim (cases_Bool (has_only allowed attrs)) [ inl t ↦ rw (t, sym only_stays ∙ t) (alike t) | inr f ↦ rw (f, sym only_stays ∙ f) refl ]

pub integer_stays : (known : Known) (attrs others : List Attribute) → Reordered attrs others → int_meaning known attrs ≡ int_meaning known others
unfolding int_meaning
integer_stays known attrs others r =
    under_test int_attrs attrs others r _ _ (λ h. let a = attr_stays int_attrs attrs others r h in
    rw (a (codes "size"), a (codes "align"), a (codes "signed"), a (codes "byte_order"), a (codes "base"), a (codes "map")) refl)

abbrev string_attrs : List (List (List ℕ))
string_attrs = (codes "encoding" ∷ []) ∷ []

pub string_stays : (attrs others : List Attribute) → Reordered attrs others → text_meaning (Some attrs) ≡ text_meaning (Some others)
unfolding text_meaning
string_stays attrs others r =
    ap (λ (o : Option Bool). o >>= λ encoded. Some ByteString) (under_test string_attrs attrs others r _ _ (λ h. ap (with_default true encoding_value) (attr_stays string_attrs attrs others r h (codes "encoding"))))

kind_stays : (known : Known) (k l : Kind) → SameKind k l → kind_meaning known k ≡ kind_meaning known l
unfolding kind_meaning
kind_stays known _ _ (integer attrs others r) = ap (option_map Number) (integer_stays known attrs others r)
kind_stays known _ _ (enumeration attrs others es r) = ap (λ (o : Option IntType). o >>= λ int. option_map Labelled (enum_meaning int es)) (integer_stays known attrs others r)
kind_stays known _ _ (string_with attrs others r) = string_stays attrs others r
kind_stays known _ _ string_alone = refl

member_stays : (known : Known) (before : List (List ℕ × MemberType)) (m n : MemberTree) → SameMember m n → member_meaning known before m ≡ member_meaning known before n
unfolding member_meaning
member_stays known before m n s = ap₂ (λ (o : Option Leaf) (bs : List Bracket). o >>= λ leaf. bracketed before leaf bs) (kind_stays known m.kind n.kind s.kind) s.brackets

same_step : {A B : Type 0} (o : Option A) (f g : A → Option B) → ((x : A) → f x ≡ g x) → (o >>= f) ≡ (o >>= g)
same_step None f g h = refl
same_step (Some x) f g h = h x

-- steps that are alike from parts that are alike
alike : {A B : Type 0} (o p : Option A) (f g : A → Option B) → o ≡ p → ((x : A) → f x ≡ g x) → (o >>= f) ≡ (p >>= g)
alike o p f g e h = ap (λ (q : Option _). q >>= f) e ∙ same_step p f g h

members_stay : (known : Known) {ms ns : List MemberTree} → Paired SameMember ms ns → (before : List (List ℕ × MemberType)) → members_meaning known before ms ≡ members_meaning known before ns
unfolding members_meaning
members_stay known none before = refl
members_stay known (more m n ms ns s p) before =
    alike _ _ _ _ (ap₂ (λ (w : List ℕ) (o : Option MemberType). provided (not (has_member w before)) o) s.name (member_stays known before m n s))
    (λ t. ap (λ (w : List ℕ). members_meaning known (before ++ (w, t) ∷ []) ms) s.name ∙ members_stay known p (before ++ (n.name, t) ∷ []))

length_pair : {A : Type 0} {R : A → A → Type 0} {xs ys : List A} → Paired R xs ys → length xs ≡ length ys
length_pair none = refl
length_pair (more x y xs ys r p) = ap suc (length_pair p)

structure_stays : (known : Known) (s t : Structure) → SameStructure s t → struct_meaning known s ≡ struct_meaning known t
unfolding struct_meaning
structure_stays known s t same =
    alike _ _ _ _ (rw (length_pair same.members, members_stay known same.members []) refl)
    (λ members. ap (λ (a : Option SignedNumber). align_of a >>= λ align. struct_type members (align_with members align)) same.align)

item_attrs : (x y : Item) → SameItem x y → attr_in x ≡ attr_in y
item_attrs _ _ (attribute a) = refl
item_attrs _ _ (fields.scope s t same) = refl

item_scopes : (x y : Item) → SameItem x y → Paired SameScope (scope_in x) (scope_in y)
item_scopes _ _ (attribute a) = none
item_scopes _ _ (fields.scope s t same) = more s t [] [] same none

attrs_same : {is js : List Item} → Paired SameItem is js → attrs_in is ≡ attrs_in js
attrs_same none = refl
attrs_same (more x y is js s p) = rw (flat_map-cons attr_in x is, flat_map-cons attr_in y js) (ap₂ (λ (a b : List Attribute). a ++ b) (item_attrs x y s) (attrs_same p))

scopes_same : {is js : List Item} → Paired SameItem is js → Paired SameScope (scopes_in is) (scopes_in js)
scopes_same none = none
scopes_same (more x y is js s p) = rw (flat_map-cons scope_in x is, flat_map-cons scope_in y js) (paired_append (item_scopes x y s) (scopes_same p))

found_first : (known : Known) (b : Bool) (s t : Structure) (o p : Option Structure) → SameStructure s t → structure_of known o ≡ structure_of known p → structure_of known (cond b (Some s) o) ≡ structure_of known (cond b (Some t) p)
found_first known true s t o p same e = structure_stays known s t same
found_first known false s t o p same e = e

-- the scope of this name has the same structure
found_stays : (known : Known) (n : List (List ℕ)) {ss ts : List Scope} → Paired SameScope ss ts → structure_of known (scope n ss) ≡ structure_of known (scope n ts)
found_stays known n none = refl
found_stays known n (more s t ss ts same p) =
    ap (λ (w : Name). structure_of known (cond (same_words (words_of w) n) (Some s.structure) (scope n ss))) same.name
    ∙ found_first known (same_words (words_of t.name) n) s.structure t.structure (scope n ss) (scope n ts) same.structure (found_stays known n p)

map_pair : {A B : Type 0} {R : A → A → Type 0} (f : A → B) {xs ys : List A} → ((x y : A) → R x y → f x ≡ f y) → Paired R xs ys → map f xs ≡ map f ys
map_pair f h none = refl
map_pair {A} {B} f h (more x y xs ys r p) = ap₂ (λ (u : B) (us : List B). u ∷ us) (h x y r) (map_pair f h p)

all_pair : {A : Type 0} {R : A → A → Type 0} (f : A → Bool) {xs ys : List A} → ((x y : A) → R x y → f x ≡ f y) → Paired R xs ys → list_all f xs ≡ list_all f ys
all_pair f h none = refl
all_pair f h (more x y xs ys r p) = ap₂ (λ (a b : Bool). a && b) (h x y r) (all_pair f h p)

scope_words : (s t : Scope) → SameScope s t → words_of s.name ≡ words_of t.name
scope_words s t same = ap words_of same.name

parts_stay : (allowed : List (List (List ℕ))) {is js : List Item} → Paired SameItem is js → has_parts allowed is ≡ has_parts allowed js
parts_stay allowed p =
    ap₂ (λ (a b : Bool). a && b)
    (ap₂ (λ (a b : Bool). a && b) (ap (λ (found : List Attribute). are_distinct (attr_names found)) (attrs_same p)) (ap are_distinct (map_pair (λ s. words_of s.name) scope_words (scopes_same p))))
    (all_pair (λ s. is_among allowed (words_of s.name)) (λ s t same. ap (is_among allowed) (scope_words s t same)) (scopes_same p))

clock_stays : (is js : List Item) → Paired SameItem is js → clock_meaning is ≡ clock_meaning js
unfolding clock_meaning
clock_stays is js p = rw (parts_stay [] p, attrs_same p) refl

stream_stays : (known : Known) (is js : List Item) → Paired SameItem is js → stream_meaning known is ≡ stream_meaning known js
unfolding stream_meaning
stream_stays known is js p =
    let s = λ (n : List (List ℕ)). found_stays known n (scopes_same p) in
    rw (parts_stay (packet_context ∷ event_header ∷ event_context ∷ []) p, attrs_same p, s packet_context, s event_header, s event_context) refl

event_stays : (known : Known) (is js : List Item) → Paired SameItem is js → event_meaning known is ≡ event_meaning known js
unfolding event_meaning
event_stays known is js p =
    let s = λ (n : List (List ℕ)). found_stays known n (scopes_same p) in
    rw (parts_stay (specific_context ∷ fields_scope ∷ []) p, attrs_same p, s specific_context, s fields_scope) refl

trace_stays : (is js : List Item) → Paired SameItem is js → is_trace is ≡ is_trace js
trace_stays is js p = rw (parts_stay (packet_header ∷ []) p, attrs_same p) refl

header_stays : (known : Known) (is js : List Item) → Paired SameItem is js → header_meaning known is ≡ header_meaning known js
unfolding header_meaning
header_stays known is js p = rw (found_stays known packet_header (scopes_same p)) refl

-- what two blocks have inside, by the kind of block
record InsidePaired (b c : Block) : Type 0 where
  trace : Paired (Paired SameItem) (trace_in b) (trace_in c)
  stream : Paired (Paired SameItem) (stream_in b) (stream_in c)
  event : Paired (Paired SameItem) (event_in b) (event_in c)
  clock : Paired (Paired SameItem) (clock_in b) (clock_in c)
  environment : environment_in b ≡ environment_in c

alone : {is js : List Item} → Paired SameItem is js → Paired (Paired SameItem) (is ∷ []) (js ∷ [])
alone p = more _ _ [] [] p none

inside : (b c : Block) → SameFields b c → InsidePaired b c
inside _ _ (fields.trace is js p) = record { trace = alone p; stream = none; event = none; clock = none; environment = refl }
inside _ _ (fields.stream is js p) = record { trace = none; stream = alone p; event = none; clock = none; environment = refl }
inside _ _ (fields.event is js p) = record { trace = none; stream = none; event = alone p; clock = none; environment = refl }
inside _ _ (fields.clock is js p) = record { trace = none; stream = none; event = none; clock = alone p; environment = refl }
inside _ _ (fields.environment fs) = record { trace = none; stream = none; event = none; clock = none; environment = refl }

blocks_pair : (part : Block → List (List Item)) → ((b c : Block) → SameFields b c → Paired (Paired SameItem) (part b) (part c)) → {bs cs : List Block} → Paired SameFields bs cs
    → Paired (Paired SameItem) (flat_map part bs) (flat_map part cs)
blocks_pair part h none = none
blocks_pair part h (more b c bs cs s p) = rw (flat_map-cons part b bs, flat_map-cons part c cs) (paired_append (h b c s) (blocks_pair part h p))

environments_same : {bs cs : List Block} → Paired SameFields bs cs → flat_map environment_in bs ≡ flat_map environment_in cs
environments_same none = refl
environments_same (more b c bs cs s p) =
    rw (flat_map-cons environment_in b bs, flat_map-cons environment_in c cs) (ap₂ (λ (fs gs : List (List NamedFact)). fs ++ gs) (inside b c s).environment (environments_same p))

only_alike : {A B : Type 0} {R : A → A → Type 0} {xs ys : List A} (f g : A → Option B) → Paired R xs ys → ((x y : A) → R x y → f x ≡ g y) → (only xs >>= f) ≡ (only ys >>= g)
only_alike f g none h = refl
only_alike f g (more x y _ _ r none) h = h x y r
only_alike f g (more x y _ _ r (more u v us vs s p)) h = refl

streams_stay : (known : Known) (bs cs : List Block) → Paired SameFields bs cs → streams_meaning known bs ≡ streams_meaning known cs
unfolding streams_meaning
streams_stay known bs cs p =
    rw (each_pair (stream_meaning known) (stream_stays known) (blocks_pair stream_in (λ b c s. (inside b c s).stream) p), each_pair (event_meaning known) (event_stays known) (blocks_pair event_in (λ b c s. (inside b c s).event) p)) refl

pub fields_reordered : (bs cs : List Block) → Paired SameFields bs cs → text_meta bs ≡ text_meta cs
unfolding text_meta trace_uuid
fields_reordered bs cs p =
    only_alike _ _ (blocks_pair trace_in (λ b c s. (inside b c s).trace) p) (λ x y same.
    alike _ _ _ _ (ap₂ (λ (b : Bool) (o : Option ByteOrder). provided b o) (trace_stays x y same) (rw (attrs_same same) refl)) (λ order.
    alike _ _ _ _ (rw (attrs_same same) refl) (λ uuid.
    alike _ _ _ _ (ap at_most_one (environments_same p)) (λ facts.
    same_step (environment_meaning facts) _ _ (λ environment.
    alike _ _ _ _ (each_pair clock_meaning clock_stays (blocks_pair clock_in (λ b c s. (inside b c s).clock) p)) (λ clocks.
    alike _ _ _ _ (ap (provided (no_two bytes_eq (known_of order clocks).clocks)) (header_stays (known_of order clocks) x y same)) (λ header.
    alike _ _ _ _ (streams_stay (known_of order clocks) bs cs p) (λ streams. refl))))))))
