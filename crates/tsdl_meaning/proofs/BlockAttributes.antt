-- The parts of a block where it is judged: its attributes, its scopes, its tables, and numbers that stand twice.
use Rattle.std.proofs.Common.{◌≡◌, ℕ, ◌+◌, List, ◌∷◌, ◌++◌, Some, None, min, refl, sym, ap, ◌∙◌, subst, inl, inr, arith, append_assoc, codes, Result, Bool, true, not, Option, Bor, []}
use Rattle.tsdl_meaning.proofs.TextWords.{AddsAttribute, AddsName, AreNamed, Asked, Atom, Attribute, BTreeSet, Ends, Global, HasClock, HasEvent, HasNumbers, HasStream, IfErr, IfOk, IsAttribute, IsErrAnd, IsPartOfVersion, IsTwice, IsUnsupported, Item, Name, Scope, ScopeRule, Stop, StopsWhere, String, Value, attr, attr_toks, attrs_in, begun, first_texts, fits, fits_word, list_all, mark, most, name_toks, name_value, named_rules, natural_value, one_word, rule_in, same_words, scope_toks, stops_after, struct_toks, texts_of, value_toks, word, IfErr-weaker, IfOk-weaker}
use Rattle.tsdl_grammar.specs.declared.token.Mark.TheVariants as marks
use Rattle.tsdl_grammar.specs.declared.tree.Value.TheVariants as values
use Rattle.tsdl_grammar.specs.declared.token.Mark.{Mark}
use Rattle.tsdl_meaning.proofs.StopsInAttributes.{attr_parts}
use Rattle.tsdl_meaning.proofs.JudgedParts.{ends_part, handed, stops_same}
use Rattle.std.specs.List.{find}

-- ---- the value of an attribute

pub only_word : (n : Name) (w : List ℕ) → one_word n ≡ Some w → name_toks n ≡ word w ∷ []
only_word n w h = grind (arith, h)

-- what the judge of a value answers is an answer for its attribute, whose name is one word
pub in_value : (P Q : List Atom → Type 0) (r : Result (Unit {0}) Stop) (a : Attribute) (w : List ℕ) (at place : ℕ) → one_word a.name ≡ Some w → place ≡ min (at + 2) most
    → ((front : List Atom) → P front → Q (front ++ word w ∷ mark marks.Equals ∷ [])) → IfErr r (StopsWhere Q place (value_toks a.value)) → IfErr r (StopsWhere P at (attr_toks a))
in_value P Q r a w at place one is ends =
    IfErr-weaker r (StopsWhere Q place (value_toks a.value)) (StopsWhere P at (attr_toks a))
    (λ stop h front behind p.
    let opening = word w ∷ mark marks.Equals ∷ [] in
    let rest = mark marks.Semicolon ∷ behind in
    stops_after front (attr_toks a ++ behind) opening (value_toks a.value ++ rest) at place stop
    (attr_parts a behind ∙ ap (λ (l : List Atom). (l ++ mark marks.Equals ∷ []) ++ (value_toks a.value ++ rest)) (only_word a.name w one)) (λ fits. omega (arith, is))
    (h (front ++ opening) rest (ends front p)))

-- and a value that its name asks for joins the attribute to those before it
pub value_adds : (asked : Asked) (before after : BTreeSet (String Global)) (r : Result (Unit {0}) Stop) (a : Attribute) (w : List ℕ) → AddsName before a.name after → one_word a.name ≡ Some w
    → IfOk r (λ _. fits asked w a.value ≡ true) → IfOk r (λ _. AddsAttribute asked before a after)
value_adds asked before after r a w name one =
    IfOk-weaker r (λ _. fits asked w a.value ≡ true) (λ _. AddsAttribute asked before a after)
    (λ _ fit. record { name = name; fit = ap (λ (o : Option (List ℕ)). fits_word asked o a.value) one ∙ fit })

-- a name that stands twice is a flaw of what it names
pub in_name : (P : List Atom → Type 0) (sign : Mark) (names : BTreeSet (String Global)) (r : Result (Unit {0}) Stop) (stop : Stop) (n : Name) (toks rest : List Atom) (at : ℕ)
    → ((behind : List Atom) → toks ++ behind ≡ (name_toks n ++ mark sign ∷ []) ++ (rest ++ mark marks.Semicolon ∷ behind)) → IsErrAnd r (λ x. x ≡ stop)
    → ((front : List Atom) → P front → AreNamed front sign names) → ((m : Mark) → StopsWhere (λ front. AreNamed front m names) at (name_toks n ++ mark m ∷ []) stop) → IfErr r (StopsWhere P at toks)
in_name P sign names r stop n toks rest at parts is are s =
    handed r stop (StopsWhere P at toks) is
    (λ front behind p.
    let more = rest ++ mark marks.Semicolon ∷ behind in
    stops_same front (toks ++ behind) ((name_toks n ++ mark sign ∷ []) ++ more) at stop (parts behind) (s sign front more (are front p)))

-- ---- flaws of values

-- the number of a part of the version
pub version_wrong : (v : Value) (m : ℕ) (front : List Atom) (part name : List ℕ) → natural_value v ≡ Some m → IsPartOfVersion part → IsAttribute (codes "trace") part front → name ≡ part
    → IsUnsupported front (value_toks v) name
version_wrong (values.Number n) m front part name h is (items, ends) e =
    subst (λ (w : List ℕ). IsUnsupported front (value_toks (values.Number n)) w) (sym e)
    (inr (record { part = is; number = n; ends = ends_part front (begun (codes "trace") items) (word part ∷ mark marks.Equals ∷ []) ends; here = refl }))
version_wrong (values.Text s) m front part name h is b e = absurd (let e : None ≡ Some m = h in cc)
version_wrong (values.Name n) m front part name h is b e = absurd (let e : None ≡ Some m = h in cc)

-- the number that another stream has
pub stream_twice : (v : Value) (id : ℕ) (front : List Atom) → natural_value v ≡ Some id → HasStream front id → IsAttribute (codes "stream") (codes "id") front → IsTwice front (value_toks v)
stream_twice (values.Number n) id front h (other, before, numbered) (items, ends) =
    inr (inr (inr (inl (record { id = id; other = other; items = items; before = before; numbered = numbered; here = inl (ends, (n, refl, h)) }))))
stream_twice (values.Text s) id front h has b = absurd (let e : None ≡ Some id = h in cc)
stream_twice (values.Name n) id front h has b = absurd (let e : None ≡ Some id = h in cc)

-- the name that another clock has
pub clock_twice : (v : Value) (name : List ℕ) (front : List Atom) → name_value v ≡ Some name → HasClock front name → IsAttribute (codes "clock") (codes "name") front → IsTwice front (value_toks v)
clock_twice v name front h (other, before, named) (items, ends) =
    inr (inr (inl (record { name = name; other = other; items = items; value = v; before = before; named = named; ends = ends; here = refl; same = h })))

-- ---- scopes

pub scope_parts : (s : Scope) (behind : List Atom) → scope_toks s ++ behind ≡ name_toks s.name ++ (mark marks.Assign ∷ (struct_toks s.structure ++ mark marks.Semicolon ∷ behind))
scope_parts s behind =
    let own = mark marks.Assign ∷ struct_toks s.structure in
    append_assoc (name_toks s.name ++ own) (mark marks.Semicolon ∷ []) behind ∙ append_assoc (name_toks s.name) own (mark marks.Semicolon ∷ behind)

-- a name with its mark, and the rest of the scope
pub scope_opening : (s : Scope) (behind : List Atom) → scope_toks s ++ behind ≡ (name_toks s.name ++ mark marks.Assign ∷ []) ++ (struct_toks s.structure ++ mark marks.Semicolon ∷ behind)
scope_opening s behind = scope_parts s behind ∙ sym (append_assoc (name_toks s.name) (mark marks.Assign ∷ []) (struct_toks s.structure ++ mark marks.Semicolon ∷ behind))

-- ---- the tables of a block

-- where no row of a table is missed, each of its names is there
pub none_missed : (there : List ℕ → Bool) (rows : List (Bor (List ℕ) × Bor (List ℕ))) → find (λ row. not (there row.0.now)) rows ≡ None → list_all there (first_texts rows) ≡ true
none_missed there [] e = refl
none_missed there (row ∷ rows) e = grind (arith, none_missed there rows, e)

-- the row of a scope says its rule
pub rule_found : (n : List (List ℕ)) (rows : List (Bor (List (Bor (List ℕ))) × ScopeRule)) (row : Bor (List (Bor (List ℕ))) × ScopeRule)
    → find (λ r. same_words n (texts_of r.0.now)) rows ≡ Some row → rule_in (named_rules rows) n ≡ Some row.1
rule_found n [] row e = absurd cc
rule_found n (r ∷ rows) row e = grind (arith, rule_found n rows row, e)

-- a stream without a number, behind one that has the number 0
pub unnumbered_twice : (items : List Item) (front : List Atom) → Ends front (begun (codes "stream") items) → attr (codes "id") (attrs_in items) ≡ None → HasStream front 0
    → IsTwice front (mark marks.CloseBrace ∷ [])
unnumbered_twice items front ends none (other, before, numbered) =
    inr (inr (inr (inl (record { id = 0; other = other; items = items; before = before; numbered = numbered; here = inr (ends, refl, none, refl) }))))

-- an event whose numbers another has
pub event_twice : (items : List Item) (numbers : ℕ × ℕ) (front : List Atom) → Ends front (begun (codes "event") items) → HasNumbers items numbers.0 numbers.1 → HasEvent front numbers
    → IsTwice front (mark marks.CloseBrace ∷ [])
event_twice items numbers front ends same (other, before, numbered) =
    inr (inr (inr (inr (inl (record {
      stream = numbers.0;
      id = numbers.1;
      other = other;
      items = items;
      before = before;
      numbered = numbered;
      ends = ends;
      same = same;
      here = refl;
    })))))
