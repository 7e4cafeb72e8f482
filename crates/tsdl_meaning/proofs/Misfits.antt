-- What stands where something else is needed, as the judges find it.
use Rattle.std.proofs.Common.{◌≡◌, ℕ, ◌<◌, ◌≤◌, ◌⊎◌, length, not, false, true, Bool, List, ◌∷◌, ◌++◌, Option, Some, None, Bor, Contains, option_map, refl, sym, ap, ◌∙◌, subst, inl, inr, codes, Result, Ok, Err, [], arith}
use Rattle.std.specs.List.{find}
use Rattle.std.proofs.lemmas.Bool.{and_parts}
use Rattle.std.proofs.lemmas.Bool.Decides.{nat_tests}
use Rattle.tsdl_flaw.specs.Asked.{maps}
use Rattle.tsdl_grammar.specs.declared.tree.Name.{Name}
use Rattle.std.proofs.lemmas.List.Elements.{Contains-append_right}
use Rattle.tsdl_grammar.specs.declared.token.Mark.TheVariants as marks
use Rattle.tsdl_grammar.specs.declared.tree.Value.TheVariants as values
use Rattle.tsdl_grammar.specs.declared.tree.Label.{Label}
use Rattle.tsdl_grammar.specs.declared.tree.Fact.{Fact}
use Rattle.tsdl_meaning.specs.Judging.{is_name}
use Rattle.tsdl_meaning.specs.declared.judge.kind.TypeKind.{TypeKind}
use Rattle.tsdl_meaning.specs.declared.judge.kind.TypeKind.TheVariants as types
use Rattle.tsdl_meaning.proofs.JudgedParts.{ends_more, ends_part}
use Rattle.tsdl_meaning.proofs.StopsInAttributes.{list_opening}
use Rattle.tsdl_meaning.proofs.TextWords.{Atom, Attribute, BlockKind, Bracket, Ends, EndsFacts, IfErr, IsAttribute, IsInBrackets, IsMisfit, IsNotedAttribute, IsPartOfVersion, Item, Ledger, NamedFact, Number, Stop, StopsUnless, StopsWhere, Value, asked_in, attr, attr_toks, attrs_in, begun, bracket_toks, bytes_eq, bytes_eq-Decides, fact_meaning, fact_toks, first_texts, fits, flat_map, int_le, is_alignment, is_any_order, is_mapping, is_natural, is_order, is_size, is_some, label_toks, mark, named_fact_toks, natural, natural_value, needed_by, number_toks, order_value, signed_of, type_word, value_toks, word, word_of}

-- ---- values

-- a stop at what fits in no case
pub misfits : (fits b : Bool) (at : ℕ) (toks : List Atom) (stop : Stop) → fits ≡ false → StopsUnless b at toks stop → StopsUnless fits at toks stop
misfits fits b at toks stop e h = record { stops = λ front behind p. h.stops front behind (λ _. p e) }

-- what fails the one test fails the other
unless : (a b : Bool) (at : ℕ) (toks : List Atom) (stop : Stop) → (b ≡ false → a ≡ false) → StopsUnless b at toks stop → StopsUnless a at toks stop
unless a b at toks stop is h = record { stops = λ front behind p. h.stops front behind (λ e. p (is e)) }

-- a value that is no name is no word of a byte order
no_order : (v : Value) → is_name v ≡ false → is_order v ≡ false
no_order (values.Number n) e = refl
no_order (values.Text s) e = refl
no_order (values.Name n) e = absurd (let never : true ≡ false = e in cc)

no_any_order : (v : Value) → is_name v ≡ false → is_any_order v ≡ false
unfolding order_value
no_any_order (values.Number n) e = refl
no_any_order (values.Text s) e = refl
no_any_order (values.Name n) e = absurd (let never : true ≡ false = e in cc)

pub order_unread : (v : Value) (at : ℕ) (stop : Stop) → StopsUnless (is_name v) at (value_toks v) stop → StopsUnless (is_order v) at (value_toks v) stop
order_unread v at stop h = unless (is_order v) (is_name v) at (value_toks v) stop (no_order v) h

pub any_order_unread : (v : Value) (at : ℕ) (stop : Stop) → StopsUnless (is_name v) at (value_toks v) stop → StopsUnless (is_any_order v) at (value_toks v) stop
any_order_unread v at stop h = unless (is_any_order v) (is_name v) at (value_toks v) stop (no_any_order v) h

-- ---- attributes

pub attribute_unfit : (block w : List ℕ) (v : Value) (front : List Atom) → IsAttribute block w front → fits (asked_in block) w v ≡ false → IsMisfit front (value_toks v)
attribute_unfit block w v front (items, ends) e = inl (record { block = block; items = items; name = w; value = v; ends = ends; unfit = e; here = refl })

pub asked_at : (block w : List ℕ) (v : Value) (at : ℕ) (stop : Stop) (b : Bool) → (b ≡ false → fits (asked_in block) w v ≡ false) → StopsUnless b at (value_toks v) stop
    → StopsWhere (IsAttribute block w) at (value_toks v) stop
asked_at block w v at stop b is h = λ front behind p. h.stops front behind (λ e. attribute_unfit block w v front p (is e))

-- no number, and one that is no size
pub no_size : (v : Value) → is_natural v ≡ false → is_size v ≡ false
no_size v e = grind (arith, e)

pub other_size : (v : Value) (n : ℕ) → natural_value v ≡ Some n → (n < 1) ⊎ (65 ≤ n) → is_size v ≡ false
other_size v n e out = grind (arith, nat_tests, e, out)

-- a value that is no name is not `clock.NAME.value`, which begins with `clock`
pub no_mapping : (v : Value) → ((n : Name) → v ≡ values.Name n → ⊥) → is_mapping v ≡ false
no_mapping (values.Number n) h = refl
no_mapping (values.Text s) h = refl
no_mapping (values.Name n) h = absurd (h n refl)

pub mapping_parts : (first : List ℕ) (rest : List (List ℕ)) → maps (first ∷ rest) ≡ true → (first ≡ codes "clock") × (1 ≤ length rest)
mapping_parts first [] e = absurd (let never : false ≡ true = e in cc)
mapping_parts first (b ∷ []) e = absurd (let never : false ≡ true = e in cc)
mapping_parts first (b ∷ c ∷ []) e = ((bytes_eq-Decides first (codes "clock")).0 (and_parts (bytes_eq first (codes "clock")) (bytes_eq c (codes "value")) e).0, omega arith)
mapping_parts first (b ∷ c ∷ d ∷ rest) e = absurd (let never : false ≡ true = e in cc)

-- the frequency, the precision and the offset of a clock are numbers
pub cycles_ask : (w : List ℕ) (v : Value) → (w ≡ codes "freq") ⊎ (w ≡ codes "precision") ⊎ (w ≡ codes "offset") → is_natural v ≡ fits (asked_in (codes "clock")) w v
cycles_ask w v (inl is) = sym (ap (λ (x : List ℕ). fits (asked_in (codes "clock")) x v) is)
cycles_ask w v (inr (inl is)) = sym (ap (λ (x : List ℕ). fits (asked_in (codes "clock")) x v) is)
cycles_ask w v (inr (inr is)) = sym (ap (λ (x : List ℕ). fits (asked_in (codes "clock")) x v) is)

-- a part of the version is a number
pub part_asks : (part : List ℕ) (v : Value) → IsPartOfVersion part → fits (asked_in (codes "trace")) part v ≡ is_natural v
part_asks part v (inl is) = ap (λ (w : List ℕ). fits (asked_in (codes "trace")) w v) is
part_asks part v (inr is) = ap (λ (w : List ℕ). fits (asked_in (codes "trace")) w v) is

-- a stop at a value that its attribute is asked for
pub in_asked : {T : Type 0} (r : Result T Stop) (block w : List ℕ) (v : Value) (at : ℕ) (b : Bool) → b ≡ fits (asked_in block) w v → IfErr r (StopsUnless b at (value_toks v))
    → IfErr r (StopsWhere (IsAttribute block w) at (value_toks v))
in_asked (Ok x) block w v at b is h = tt
in_asked (Err s) block w v at b is h = λ front behind p. h.stops front behind (λ e. attribute_unfit block w v front p (sym is ∙ e))

pub asked_behind : {T : Type 0} (r : Result T Stop) (ledger : Ledger) (block w : List ℕ) (v : Value) (at : ℕ) (b : Bool) → b ≡ fits (asked_in block) w v → IfErr r (StopsUnless b at (value_toks v))
    → IfErr r (StopsWhere (IsNotedAttribute ledger block w) at (value_toks v))
asked_behind (Ok x) ledger block w v at b is h = tt
asked_behind (Err s) ledger block w v at b is h = λ front behind p. h.stops front behind (λ e. attribute_unfit block w v front p.attribute (sym is ∙ e))

-- ---- numbers

pub fact_unfit : (facts : List NamedFact) (name : List ℕ) (fact : Fact) (front : List Atom) → EndsFacts facts front → is_some (fact_meaning fact) ≡ false
    → IsMisfit (front ++ word name ∷ mark marks.Equals ∷ []) (fact_toks fact)
fact_unfit facts name fact front ends e = inr (inl (record {
  facts = facts;
  name = name;
  fact = fact;
  ends = ends_more front (word (codes "env") ∷ mark marks.OpenBrace ∷ flat_map named_fact_toks facts) (word name ∷ mark marks.Equals ∷ []) ends;
  unfit = e;
  here = refl;
}))

pub alignment_unfit : (n : Number) (front : List Atom) → Ends front (word (codes "align") ∷ mark marks.OpenParenthesis ∷ []) → is_alignment (values.Number n) ≡ false → IsMisfit front (number_toks n)
alignment_unfit n front ends e = inr (inr (inl (record { number = n; ends = ends; unfit = e; here = refl })))

pub length_unfit : (done : List Bracket) (n : Number) (front : List Atom) → IsInBrackets done front → is_some (natural n) ≡ false → IsMisfit front (number_toks n)
length_unfit done n front ends e =
    inr (inr (inr (inl (record { number = n; ends = ends_part front (flat_map bracket_toks done) (mark marks.OpenBracket ∷ []) ends; unfit = e; here = refl }))))

pub range_unfit : (label : Label) (low high : Number) (front : List Atom) → int_le (signed_of low) (signed_of high) ≡ false
    → IsMisfit (front ++ (label_toks label ++ mark marks.Equals ∷ number_toks low ++ mark marks.Ellipsis ∷ [])) (number_toks high)
range_unfit label low high front e = inr (inr (inr (inr (inl (record { label = label; low = low; high = high; ends = (front, refl); unfit = e; here = refl })))))

-- the name of a clock that is not there
pub clock_missed : (front : List Atom) (first w : List ℕ) → first ≡ codes "clock" → IsMisfit (front ++ word first ∷ mark marks.Dot ∷ []) (word w ∷ [])
clock_missed front first w is =
    subst (λ (v : List ℕ). IsMisfit (front ++ word v ∷ mark marks.Dot ∷ []) (word w ∷ [])) (sym is) (inr (inr (inr (inr (inr (inl (record { name = w; ends = (front, refl); here = refl })))))))

-- ---- closing braces

none_seen : (o : Option (Bor Value)) (p : Option Value) → option_map (λ v. v.now) o ≡ p → is_some o ≡ false → p ≡ None
none_seen None p e h = sym e
none_seen (Some v) p e h = absurd cc

-- an integer without a size
pub size_missed : (kind : TypeKind) (attrs : List Attribute) (front : List Atom) (size : Option (Bor Value)) → kind ≡ types.Integer → option_map (λ v. v.now) size ≡ attr (codes "size") attrs → is_some size ≡ false
    → IsMisfit (front ++ (list_opening (type_word kind) ++ flat_map attr_toks attrs)) (mark marks.CloseBrace ∷ [])
size_missed kind attrs front size is e none =
    subst (λ (k : TypeKind). IsMisfit (front ++ (list_opening (type_word k) ++ flat_map attr_toks attrs)) (mark marks.CloseBrace ∷ [])) (sym is)
    (inr (inr (inr (inr (inr (inr (inr (record { attributes = attrs; ends = (front, refl); missing = none_seen size (attr (codes "size") attrs) e none; here = refl }))))))))

-- a row that is missed is one of the table, and its name is not there
pub row_missed : (there : List ℕ → Bool) (rows : List (Bor (List ℕ) × Bor (List ℕ))) (row : Bor (List ℕ) × Bor (List ℕ)) → find (λ r. not (there r.0.now)) rows ≡ Some row
    → Contains (first_texts rows) row.0.now × (there row.0.now ≡ false)
row_missed there [] row e = absurd cc
row_missed there (r ∷ rows) row e = by (there r.0.now) refl (row_missed there rows row)
  where
    by : (b : Bool) → there r.0.now ≡ b → (find (λ x. not (there x.0.now)) rows ≡ Some row → Contains (first_texts rows) row.0.now × (there row.0.now ≡ false))
        → Contains (first_texts (r ∷ rows)) row.0.now × (there row.0.now ≡ false)
    by true t later =
        let m = later (grind (arith, e, t)) in
        (Contains-append_right (r.0.now ∷ []) (first_texts rows) row.0.now m.0, m.1)
    by false f later =
        let same : r ≡ row = grind (arith, e, f) in
        let first : Contains (first_texts (r ∷ rows)) r.0.now × (there r.0.now ≡ false) = ((0, omega arith, refl), f) in
        subst (λ (x : Bor (List ℕ) × Bor (List ℕ)). Contains (first_texts (r ∷ rows)) x.0.now × (there x.0.now ≡ false)) same first

-- a block without an attribute that it needs
pub attribute_missed : (kind : BlockKind) (items : List Item) (name : List ℕ) (front : List Atom) → Contains (needed_by (word_of kind)) name → is_some (attr name (attrs_in items)) ≡ false → Ends front (begun (word_of kind) items)
    → IsMisfit front (mark marks.CloseBrace ∷ [])
attribute_missed kind items name front there none ends =
    inr (inr (inr (inr (inr (inr (inl (record {
      block = word_of kind;
      items = items;
      name = name;
      needed = there;
      ends = ends;
      missing = none_is (attr name (attrs_in items)) none;
      here = refl;
    })))))))
  where
    none_is : (o : Option Value) → is_some o ≡ false → o ≡ None
    none_is None h = refl
    none_is (Some v) h = absurd cc
