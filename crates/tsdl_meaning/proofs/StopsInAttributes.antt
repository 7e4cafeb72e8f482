-- Names that have stood before, and a stop in a part of an attribute.
use Rattle.std.proofs.Common.{◌≡◌, ℕ, ◌+◌, List, ◌∷◌, ◌++◌, map, length, min, sym, ◌∙◌, arith, append_assoc, length-append, ◌≤◌, Bool, true, false, ◌||◌, refl, ap, subst, inl, inr, []}
use Rattle.tsdl_meaning.proofs.TextWords.{AreNamed, Atom, Attribute, BTreeSet, Global, HasLength, HasNames, IsNameTwice, IsNamed, IsTypeBegun, Item, Name, Stop, StopsIn, String, attr_in, attr_toks, bytes_eq, bytes_eq-Decides, cases_Bool, contains_text, dotted, flat_map, item_toks, list_any, map-id, mark, most, name_toks, scope_in, stops_after, value_toks, word, written, or-false}
use Rattle.tsdl_grammar.specs.declared.token.Mark.TheVariants as marks
use Rattle.tsdl_grammar.specs.declared.tree.Item.TheVariants as items
use Rattle.tsdl_grammar.specs.declared.token.Mark.{Mark}
use Rattle.tsdl_flaw.specs.declared.flaw.Flaw.TheVariants as flaws
use Rattle.tsdl_flaw.specs.declared.flaw.Stop.TheVariants as stops
use Rattle.tsdl_flaw.proofs.Stops as stop_parts
use Rattle.tsdl_meaning.proofs.Fronts.{any_mapped, any_part}
use Rattle.tsdl_flaw.specs.Twice.{heading}
use Rattle.std.proofs.lemmas.List.Concat.{flat_map_single}
use Rattle.std.proofs.lemmas.List.Elements.{Contains-append_left, Contains-append_right, Contains-push}
use Rattle.std.proofs.lemmas.List.Folds.{flat_map-map}

-- what stands before the items of a block, and before the attributes of a type
abbrev pub list_opening : List ℕ → List Atom
list_opening w = word w ∷ mark marks.OpenBrace ∷ []

-- where a part of an item has the name, one of the items has it
one_named : {A : Type 0} (part : Item → List A) (name : A → Name) (sign : Mark) (w : List ℕ) (is : List Item)
    → ((i : Item) → list_any (λ x. bytes_eq w (written (name x))) (part i) ≡ true → IsNamed (i ∷ []) sign w) → list_any (λ i. list_any (λ x. bytes_eq w (written (name x))) (part i)) is ≡ true
    → IsNamed is sign w
one_named part name sign w [] own e = absurd (let never : false ≡ true = e in cc)
one_named {A} part name sign w (i ∷ is) own e =
    let test = λ (x : A). bytes_eq w (written (name x)) in
    let first = heading i ∷ [] in
    elim (cases_Bool (list_any test (part i))) [
      | inl t ↦ let n = own i t in (n.0, n.1, Contains-append_left first (map heading is) (n.0, sign) n.2)
      | inr f ↦
          let n = one_named part name sign w is own (ap (λ (b : Bool). b || list_any (λ i. list_any test (part i)) is) (sym f) ∙ e) in
          (n.0, n.1, Contains-append_right first (map heading is) (n.0, sign) n.2)
    ]

-- each name of a set is one of the items' with its mark, of which it names a part
pub are_named : {A : Type 0} (part : Item → List A) (name : A → Name) (sign : Mark) (front : List Atom) (block : List ℕ) (names : BTreeSet (String Global)) (is : List Item)
    → ((i : Item) (w : List ℕ) → list_any (λ x. bytes_eq w (written (name x))) (part i) ≡ true → IsNamed (i ∷ []) sign w) → HasNames names (map (λ x. written (name x)) (flat_map part is))
    → AreNamed (front ++ (list_opening block ++ flat_map item_toks is)) sign names
are_named {A} part name sign front block names is own has = record {
  items = is;
  ends = (front ++ word block ∷ [], sym (append_assoc front (word block ∷ []) (mark marks.OpenBrace ∷ flat_map item_toks is)));
  known = λ w there.
      let test = λ (x : A). bytes_eq w (written (name x)) in
      one_named part name sign w is (λ i. own i w) (sym (has w ∙ any_mapped (bytes_eq w) (λ x. written (name x)) (flat_map part is) ∙ any_part test part is) ∙ there);
}

written_so : (w : List ℕ) (n : Name) → (bytes_eq w (written n) || false) ≡ true → written n ≡ w
written_so w n e = sym ((bytes_eq-Decides w (written n)).0 (sym (or-false (bytes_eq w (written n))) ∙ e))

pub attribute_named : (i : Item) (w : List ℕ) → list_any (λ a. bytes_eq w (written a.name)) (attr_in i) ≡ true → IsNamed (i ∷ []) marks.Equals w
attribute_named (items.Attribute a) w e = (a.name, written_so w a.name e, Contains-push [] (a.name, marks.Equals))
attribute_named (items.Scope s) w e = absurd cc

pub scope_named : (i : Item) (w : List ℕ) → list_any (λ s. bytes_eq w (written s.name)) (scope_in i) ≡ true → IsNamed (i ∷ []) marks.Assign w
scope_named (items.Attribute a) w e = absurd cc
scope_named (items.Scope s) w e = (s.name, written_so w s.name e, Contains-push [] (s.name, marks.Assign))

-- the attributes of a type are items
pub type_begun : (front : List Atom) (w : List ℕ) (names : BTreeSet (String Global)) (attrs : List Attribute) → HasNames names (map (λ a. written a.name) attrs)
    → IsTypeBegun w names (front ++ (list_opening w ++ flat_map attr_toks attrs))
type_begun front w names attrs has =
    let item = λ (a : Attribute). items.Attribute a in
    let own = map item attrs in
    let same : flat_map attr_in own ≡ attrs = flat_map-map attr_in item attrs ∙ flat_map_single (λ (a : Attribute). a) attrs ∙ map-id attrs in
    subst (λ (l : List Atom). IsTypeBegun w names (front ++ (list_opening w ++ l))) (flat_map-map item_toks item attrs)
    (record {
      items = own;
      ends = (front, refl);
      named = are_named attr_in (λ a. a.name) marks.Equals front w names own attribute_named (subst (λ (l : List Attribute). HasNames names (map (λ (a : Attribute). written a.name) l)) (sym same) has);
    })

-- a name that is there already
pub named_twice : (names : BTreeSet (String Global)) (front behind : List Atom) (sign : Mark) (n : Name) (at counted before end : ℕ) → contains_text names (written n) ≡ true → AreNamed front sign names
    → HasLength (name_toks n) counted → before ≡ min (at + counted) most → end ≡ min (before + 1) most
    → StopsIn front at ((name_toks n ++ mark sign ∷ []) ++ behind) (stops.Fault (record { at = at; end = end; flaw = flaws.Duplicate }))
named_twice names front behind sign n at counted before end there h counts passes ends =
    let it : IsNamed h.items sign (written n) = h.known (written n) there in
    let twice : IsNameTwice front (name_toks n ++ mark sign ∷ []) = record { name = n; other = it.0; behind = sign; items = h.items; ends = h.ends; before = it.2; same = it.1; here = refl } in
    stop_parts.whole front (name_toks n ++ mark sign ∷ []) behind (record { at = at; end = end; flaw = flaws.Duplicate }) at end refl refl
    (λ some fits. let l = length-append (name_toks n) (mark sign ∷ []) in let c = counts (omega arith) in omega arith) (inl twice)

-- a stop at the second word of a name
pub in_second : (first : List ℕ) (rest : List (List ℕ)) (front behind : List Atom) (at place : ℕ) (stop : Stop) → 1 ≤ length rest → place ≡ min (at + 2) most
    → ((w : List ℕ) (after : List Atom) → StopsIn (front ++ word first ∷ mark marks.Dot ∷ []) place (word w ∷ after) stop) → StopsIn front at (name_toks (record { first = first; rest = rest }) ++ behind) stop
in_second first [] front behind at place stop some is s = absurd (omega arith)
in_second first (w ∷ rest) front behind at place stop some is s =
    let pre = word first ∷ mark marks.Dot ∷ [] in
    stops_after front (name_toks (record { first = first; rest = w ∷ rest }) ++ behind) pre (word w ∷ (flat_map dotted rest ++ behind)) at place stop refl (λ fits. omega arith)
    (s w (flat_map dotted rest ++ behind))

-- what stands before the value of an attribute
abbrev pub opening : Name → List Atom
opening n = name_toks n ++ mark marks.Equals ∷ []

-- an attribute is its opening, its value and a semicolon
pub attr_parts : (a : Attribute) (behind : List Atom) → attr_toks a ++ behind ≡ opening a.name ++ (value_toks a.value ++ mark marks.Semicolon ∷ behind)
attr_parts a behind = simp append_assoc
