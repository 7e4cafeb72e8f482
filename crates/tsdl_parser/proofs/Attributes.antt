-- Names, values and attributes are read as they are spelled, and stop where nothing that is spelled goes on. A name goes on for as long
-- as dots follow.
use Rattle.tsdl_parser.proofs.Steps.{Atom, many, Attribute, Found, List, Name, None, Number, Stopped, [], along, ap, append_assoc, arith, attr_at, attr_behind, attr_toks, begins, bind_found, codes, dotted, dotted_at, false, flat_map, is_open, length, mark, mark_at, name_at, name_toks, number_at, number_toks, refl, signed_at, step, suc, sym, value_at, value_toks, word, word_at, ℕ, ◌++◌, ◌∙◌, ◌∷◌, ◌≡◌}
use Rattle.tsdl_parser.proofs.Words.{mark_step, word_takes, number_as, by_sign, begins_first, behind_mark, word_reads, number_same, number_stops_as}
use Rattle.tsdl_parser.proofs.Repeated.{Spells, Anything, anywhere, many_take, many_again, item_reads, many_reads}
use Rattle.tsdl_parser.proofs.Stopping.{Reads, StartAlike, Stops, ahead, as_if, behind, found_is_no_stop, last, within}
use Rattle.tsdl_grammar.specs.declared.token.Mark.TheVariants as marks
use Rattle.tsdl_grammar.specs.declared.atom.Atom.TheVariants as atoms
use Rattle.tsdl_grammar.specs.declared.tree.Value.{Value}
use Rattle.tsdl_grammar.specs.declared.tree.Value.TheVariants as values

dotted_takes : (ts : List Atom) (x : List ℕ × List Atom) → dotted_at ts ≡ Found x → ts ≡ dotted x.0 ++ x.1
unfolding dotted_at
dotted_takes ts x e =
    let a = mark_step marks.Dot ts word_at x e in
    let b = word_takes a.0 x a.2 in cc

pub dotted_spells : Spells (List ℕ) (begins marks.Dot) dotted_at dotted Anything
unfolding dotted_at mark_at word_at begins
dotted_spells = anywhere dotted_takes (λ w. omega arith) (λ w rest. refl) (λ w rest. refl)

dotted_stops : (ts : List Atom) (left : ℕ) → dotted_at ts ≡ Stopped left → Stops (List ℕ) (List ℕ × List Atom) dotted [] dotted_at ts left
unfolding dotted_at
dotted_stops ts left e =
    behind_mark marks.Dot _ ts left e (record { value = codes "_"; later = dotted (codes "_"); spelled = refl }) (λ rest f. within (word_reads.stops rest left f) (last (λ (w : List ℕ). w) (λ w. refl)))

dots_read : Reads (List (List ℕ)) (many (begins marks.Dot) dotted_at) (flat_map dotted)
dots_read = many_reads (begins_first marks.Dot) dotted_spells (item_reads dotted_spells dotted_stops)

pub name_takes : (ts : List Atom) (x : Name × List Atom) → name_at ts ≡ Found x → ts ≡ name_toks x.0 ++ x.1
unfolding name_at
name_takes ts x e =
    let a = step (word_at ts) _ x (word_takes ts) e in
    let b = step (many (begins marks.Dot) dotted_at a.0.1) _ x (many_take (begins marks.Dot) dotted_at dotted Anything dotted_spells (suc (length a.0.1)) a.0.1) a.2 in
    along (λ (y : Name × List Atom). ts ≡ name_toks y.0 ++ y.1) (record { first = a.0.0; rest = b.0.0 }, b.0.1) x b.2 (a.1 ∙ ap (λ (us : List Atom). word a.0.0 ∷ us) b.1.0)

pub name_again : (n : Name) (rest : List Atom) → begins marks.Dot rest ≡ false → name_at (name_toks n ++ rest) ≡ Found (n, rest)
unfolding name_at word_at
name_again n rest end = rw (many_again (begins marks.Dot) dotted_at dotted Anything dotted_spells n.rest rest end tt) refl

name_ends : (ts : List Atom) (x : Name × List Atom) → name_at ts ≡ Found x → begins marks.Dot x.1 ≡ false
unfolding name_at
name_ends ts x e =
    let a = bind_found (word_at ts) _ x e in
    let b = step (many (begins marks.Dot) dotted_at a.0.1) _ x (many_take (begins marks.Dot) dotted_at dotted Anything dotted_spells (suc (length a.0.1)) a.0.1) a.2 in
    along (λ (y : Name × List Atom). begins marks.Dot y.1 ≡ false) (record { first = a.0.0; rest = b.0.0 }, b.0.1) x b.2 b.1.1

name_stops : (ts : List Atom) (left : ℕ) → name_at ts ≡ Stopped left → Stops Name (Name × List Atom) name_toks [] name_at ts left
unfolding name_at
name_stops ts left e =
    behind word_reads _ ts left e (last (λ (w : List ℕ). record { first = w; rest = [] }) (λ w. refl)) (λ w behind_first f g.
    behind dots_read _ behind_first left g (last (λ (ws : List (List ℕ)). record { first = w; rest = ws }) (λ ws. refl)) (λ ws rest h i.
    found_is_no_stop (record { first = w; rest = ws }, rest) left i))

pub name_reads : Reads Name name_at name_toks
name_reads = record { takes = name_takes; same = λ ts x e us h. name_again x.0 us (sym (begins_first marks.Dot x.1 us h) ∙ name_ends ts x e); stops = name_stops }

pub value_takes : (ts : List Atom) (x : Value × List Atom) → value_at ts ≡ Found x → ts ≡ value_toks x.0 ++ x.1
unfolding value_at
value_takes (atoms.Text s ∷ ts) x e = along (λ (y : Value × List Atom). (atoms.Text s ∷ ts) ≡ value_toks y.0 ++ y.1) (values.Text s, ts) x e refl
value_takes (atoms.Word w ∷ ts) x e =
    let a = step (name_at (atoms.Word w ∷ ts)) _ x (name_takes (atoms.Word w ∷ ts)) e in
    along (λ (y : Value × List Atom). (atoms.Word w ∷ ts) ≡ value_toks y.0 ++ y.1) (values.Name a.0.0, a.0.1) x a.2 a.1
value_takes ts x e = number_as values.Number value_toks (λ n. refl) ts x e

pub value_again : (v : Value) (rest : List Atom) → begins marks.Dot rest ≡ false → value_at (value_toks v ++ rest) ≡ Found (v, rest)
unfolding value_at number_at signed_at
value_again (values.Number n) rest end = by_sign (λ (m : Number). value_at (number_toks m ++ rest) ≡ Found (values.Number m, rest)) n refl refl refl
value_again (values.Text s) rest end = refl
value_again (values.Name n) rest end = rw (name_again n rest end) refl

value_same : (ts : List Atom) (x : Value × List Atom) → value_at ts ≡ Found x → (us : List Atom) → StartAlike x.1 us → value_at (value_toks x.0 ++ us) ≡ Found (x.0, us)
unfolding value_at number_at signed_at
value_same (atoms.Text s ∷ ts) x e us h = along (λ (y : Value × List Atom). value_at (value_toks y.0 ++ us) ≡ Found (y.0, us)) (values.Text s, ts) x e refl
value_same (atoms.Word w ∷ ts) x e us h =
    let a = bind_found (name_at (atoms.Word w ∷ ts)) _ x e in
    along (λ (y : Value × List Atom). StartAlike y.1 us → value_at (value_toks y.0 ++ us) ≡ Found (y.0, us)) (values.Name a.0.0, a.0.1) x a.2 (λ g. rw (name_reads.same (atoms.Word w ∷ ts) a.0 a.1 us g) refl) h
value_same ts x e us h = number_same value_at values.Number value_toks us (λ n. by_sign (λ (m : Number). value_at (number_toks m ++ us) ≡ Found (values.Number m, us)) n refl refl refl) ts x e

value_stops : (ts : List Atom) (left : ℕ) → value_at ts ≡ Stopped left → Stops Value (Value × List Atom) value_toks [] value_at ts left
unfolding value_at
value_stops [] left e = as_if value_at [] left (λ us h. rw h refl) (number_stops_as values.Number value_toks (λ n. refl) [] left e)
value_stops (atoms.Text s ∷ ts) left e = found_is_no_stop (values.Text s, ts) left e
value_stops (atoms.Word w ∷ ts) left e =
    as_if value_at (atoms.Word w ∷ ts) left (λ us h. rw h.1 refl) (behind name_reads _ (atoms.Word w ∷ ts) left e (last (λ (n : Name). values.Name n) (λ n. refl)) (λ n rest f g. found_is_no_stop (values.Name n, rest) left g))
value_stops (a ∷ ts) left e = as_if value_at (a ∷ ts) left (λ us h. rw h.1 refl) (number_stops_as values.Number value_toks (λ n. refl) (a ∷ ts) left e)

value_reads : Reads Value value_at value_toks
value_reads = record { takes = value_takes; same = value_same; stops = value_stops }

pub behind_takes : (name : Name) (ts : List Atom) (x : Attribute × List Atom) → attr_behind name ts ≡ Found x → name_toks name ++ ts ≡ attr_toks x.0 ++ x.1
unfolding attr_behind
behind_takes name ts x e =
    let a = mark_step marks.Equals ts _ x e in
    let b = step (value_at a.0) _ x (value_takes a.0) a.2 in
    let c = mark_step marks.Semicolon b.0.1 _ x b.2 in
    along (λ (y : Attribute × List Atom). name_toks name ++ ts ≡ attr_toks y.0 ++ y.1) (record { name = name; value = b.0.0 }, c.0) x c.2
    (ap (λ (us : List Atom). name_toks name ++ us) (a.1 ∙ ap (λ (us : List Atom). mark marks.Equals ∷ us) (b.1 ∙ ap (λ (us : List Atom). value_toks b.0.0 ++ us) c.1)) ∙ simp append_assoc)

attr_takes : (ts : List Atom) (x : Attribute × List Atom) → attr_at ts ≡ Found x → ts ≡ attr_toks x.0 ++ x.1
unfolding attr_at
attr_takes ts x e =
    let a = step (name_at ts) _ x (name_takes ts) e in
    a.1 ∙ behind_takes a.0.0 a.0.1 x a.2

-- what stands behind the name of an attribute
abbrev pub value_part : Attribute → List Atom
value_part a = mark marks.Equals ∷ value_toks a.value ++ mark marks.Semicolon ∷ []

pub attr_parts : (a : Attribute) (rest : List Atom) → attr_toks a ++ rest ≡ name_toks a.name ++ (value_part a ++ rest)
attr_parts a rest = simp append_assoc

no_dot : (rest : List Atom) → begins marks.Dot (mark marks.Semicolon ∷ rest) ≡ false
unfolding begins
no_dot rest = refl

pub behind_again : (a : Attribute) (rest : List Atom) → attr_behind a.name (value_part a ++ rest) ≡ Found (a, rest)
unfolding attr_behind mark_at
behind_again a rest =
    let regrouped : (value_toks a.value ++ mark marks.Semicolon ∷ []) ++ rest ≡ value_toks a.value ++ (mark marks.Semicolon ∷ rest) = append_assoc (value_toks a.value) (mark marks.Semicolon ∷ []) rest in
    rw (regrouped, value_again a.value (mark marks.Semicolon ∷ rest) (no_dot rest)) refl

attr_again : (a : Attribute) (rest : List Atom) → attr_at (attr_toks a ++ rest) ≡ Found (a, rest)
unfolding attr_at begins
attr_again a rest = ap attr_at (attr_parts a rest) ∙ rw (name_again a.name (value_part a ++ rest) refl) (behind_again a rest)

pub attr_spells : Spells Attribute is_open attr_at attr_toks Anything
unfolding begins
attr_spells = anywhere attr_takes (λ a. omega arith) attr_again (λ a rest. refl)

pub behind_stops : (name : Name) (ts : List Atom) (left : ℕ) → attr_behind name ts ≡ Stopped left → Stops Attribute (Attribute × List Atom) attr_toks (name_toks name) (attr_behind name) ts left
unfolding attr_behind
behind_stops name ts left e =
    let zero : Value = values.Number (record { sign = None; literal = 0 }) in
    behind_mark marks.Equals _ ts left e (record { value = record { name = name; value = zero }; later = mark marks.Equals ∷ atoms.Number 0 ∷ mark marks.Semicolon ∷ []; spelled = simp append_assoc }) (λ inside f.
    behind value_reads _ inside left f (ahead (λ (v : Value). record { name = name; value = v }) (mark marks.Semicolon ∷ []) (λ v. simp append_assoc)) (λ v behind_value g h.
    behind_mark marks.Semicolon _ behind_value left h (record { value = record { name = name; value = v }; later = mark marks.Semicolon ∷ []; spelled = simp append_assoc }) (λ rest i.
    found_is_no_stop (record { name = name; value = v }, rest) left i)))

attr_stops : (ts : List Atom) (left : ℕ) → attr_at ts ≡ Stopped left → Stops Attribute (Attribute × List Atom) attr_toks [] attr_at ts left
unfolding attr_at
attr_stops ts left e =
    let zero : Value = values.Number (record { sign = None; literal = 0 }) in
    behind name_reads _ ts left e (ahead (λ (n : Name). record { name = n; value = zero }) (mark marks.Equals ∷ atoms.Number 0 ∷ mark marks.Semicolon ∷ []) (λ n. simp append_assoc)) (λ name rest f g. behind_stops name rest left g)

pub attr_reads : Reads Attribute attr_at attr_toks
attr_reads = item_reads attr_spells attr_stops
