-- The entries of enumerations are read as they are spelled. A range goes on where `...` follows, and the entries where a
-- comma and a label follow. They stop where nothing that is spelled goes on.
use Rattle.tsdl_parser.proofs.Steps.{Atom, many, Bool, Entries, Found, List, None, Number, Option, Outcome, Some, Stopped, [], along, ap, append-nil, append_assoc, arith, begins, bind_found, codes, cond, either, closing_at, closing_toks, entries_at, entries_toks, entry_at, entry_toks, false, flat_map, high_at, high_toks, is_labelled, is_mark, is_next, label_at, label_toks, length, length-append, listed_at, mark, mark_at, next_entry_at, next_entry_toks, number_at, number_toks, refl, splice, step, suc, sym, true, word, ℕ, ◌&&◌, ◌++◌, ◌>>=◌, ◌∙◌, ◌∷◌, ◌≡◌}
use Rattle.tsdl_parser.proofs.Words.{mark_step, number_takes, number_again, begins_first, behind_mark, number_reads}
use Rattle.tsdl_parser.proofs.Repeated.{Spells, all_end, many_take, many_again, many_same, many_stops}
use Rattle.tsdl_parser.proofs.Stopping.{ByFirst, Reads, StartAlike, Stops, ahead, alike_behind, alike_from, at_once, behind, by_test, first_stops, found_is_no_stop, last, within}
use Rattle.tsdl_grammar.specs.declared.token.Mark.TheVariants as marks
use Rattle.tsdl_grammar.specs.declared.atom.Atom.TheVariants as atoms
use Rattle.tsdl_grammar.specs.declared.{tree.Label.Label, tree.Label.TheVariants.{Quoted, Bare}, tree.Entry.Entry, tree.Closing.Closing}
use Rattle.tsdl_grammar.specs.declared.tree.Closing.TheVariants as closings
use Rattle.tsdl_grammar.specs.declared.tree.Entries.TheVariants as entries

label_takes : (ts : List Atom) (x : Label × List Atom) → label_at ts ≡ Found x → ts ≡ label_toks x.0 ++ x.1
unfolding label_at
label_takes (atoms.Text s ∷ ts) x e = along (λ (y : Label × List Atom). (atoms.Text s ∷ ts) ≡ label_toks y.0 ++ y.1) (Quoted s, ts) x e refl
label_takes (atoms.Word w ∷ ts) x e = along (λ (y : Label × List Atom). (word w ∷ ts) ≡ label_toks y.0 ++ y.1) (Bare w, ts) x e refl
label_takes _ x e = absurd cc

label_again : (l : Label) (rest : List Atom) → (label_at (label_toks l ++ rest) ≡ Found (l, rest)) × (is_labelled (label_toks l ++ rest) ≡ true)
unfolding label_at is_labelled
label_again (Quoted s) rest = (refl, refl)
label_again (Bare w) rest = (refl, refl)

label_stops : (ts : List Atom) (left : ℕ) → label_at ts ≡ Stopped left → Stops Label (Label × List Atom) label_toks [] label_at ts left
unfolding label_at
label_stops [] left e = at_once label_at [] left (cc) (record { value = Bare (codes "_"); later = word (codes "_") ∷ []; spelled = refl }) (λ us h. rw h tt)
label_stops (atoms.Text s ∷ ts) left e = absurd cc
label_stops (atoms.Word w ∷ ts) left e = absurd cc
label_stops (a ∷ ts) left e = at_once label_at (a ∷ ts) left (cc) (record { value = Bare (codes "_"); later = word (codes "_") ∷ []; spelled = refl }) (λ us h. rw h.1 tt)

label_reads : Reads Label label_at label_toks
label_reads = record { takes = label_takes; same = λ ts x e us h. (label_again x.0 us).0; stops = label_stops }

labelled_first : ByFirst is_labelled
unfolding is_labelled
labelled_first [] us h = ap is_labelled (sym h)
labelled_first (atoms.Text s ∷ ts) us h = ap is_labelled (sym h.1)
labelled_first (a ∷ ts) us h = ap is_labelled (sym h.1)

-- no `...` follows
abbrev pub NoEllipsis : List Atom → Type 0
NoEllipsis ts = begins marks.Ellipsis ts ≡ false

high_takes : (ts : List Atom) (x : Option Number × List Atom) → high_at ts ≡ Found x → ts ≡ high_toks x.0 ++ x.1
unfolding high_at
high_takes ts x e =
    either (begins marks.Ellipsis ts) _ _ (Found x) e (λ go f.
    let a = mark_step marks.Ellipsis ts _ x f in
    let b = step (number_at a.0) _ x (number_takes a.0) a.2 in
    along (λ (y : Option Number × List Atom). ts ≡ high_toks y.0 ++ y.1) (Some b.0.0, b.0.1) x b.2 (a.1 ∙ ap (λ (us : List Atom). mark marks.Ellipsis ∷ us) b.1))
    (λ stop f. along (λ (y : Option Number × List Atom). ts ≡ high_toks y.0 ++ y.1) (None, ts) x f refl)

high_again : (high : Option Number) (rest : List Atom) → NoEllipsis rest → high_at (high_toks high ++ rest) ≡ Found (high, rest)
unfolding high_at mark_at begins
high_again None rest end = rw end refl
high_again (Some n) rest end = rw (number_again n rest) refl

high_same : (ts : List Atom) (x : Option Number × List Atom) → high_at ts ≡ Found x → (us : List Atom) → StartAlike x.1 us → high_at (high_toks x.0 ++ us) ≡ Found (x.0, us)
unfolding high_at mark_at begins
high_same ts x e us h =
    either (begins marks.Ellipsis ts) _ _ (Found x) e (λ go f.
    let a = mark_step marks.Ellipsis ts _ x f in
    let b = bind_found (number_at a.0) _ x a.2 in
    along (λ (y : Option Number × List Atom). high_at (high_toks y.0 ++ us) ≡ Found (y.0, us)) (Some b.0.0, b.0.1) x b.2 (rw (number_again b.0.0 us) refl))
    (λ stop f. along (λ (y : Option Number × List Atom). StartAlike y.1 us → high_at (high_toks y.0 ++ us) ≡ Found (y.0, us)) (None, ts) x f
    (λ g. high_again None us (sym (begins_first marks.Ellipsis ts us g) ∙ stop)) h)

high_stops : (ts : List Atom) (left : ℕ) → high_at ts ≡ Stopped left → Stops (Option Number) (Option Number × List Atom) high_toks [] high_at ts left
unfolding high_at
high_stops ts left e =
    by_test (begins marks.Ellipsis) _ _ ts left (begins_first marks.Ellipsis) e (λ go f.
    behind_mark marks.Ellipsis _ ts left f (record { value = Some (record { sign = None; literal = 0 }); later = mark marks.Ellipsis ∷ atoms.Number 0 ∷ []; spelled = refl }) (λ behind_mark g.
    behind number_reads _ behind_mark left g (last (λ (n : Number). Some n) (λ n. refl)) (λ n rest i j. found_is_no_stop (Some n, rest) left j)))
    (λ stop f. found_is_no_stop (None, ts) left f)

high_reads : Reads (Option Number) high_at high_toks
high_reads = record { takes = high_takes; same = high_same; stops = high_stops }

entry_parts : (e : Entry) (rest : List Atom) → entry_toks e ++ rest ≡ label_toks e.label ++ (mark marks.Equals ∷ (number_toks e.low ++ (high_toks e.high ++ rest)))
entry_parts e rest = simp append_assoc

entry_takes : (ts : List Atom) (x : Entry × List Atom) → entry_at ts ≡ Found x → ts ≡ entry_toks x.0 ++ x.1
unfolding entry_at
entry_takes ts x e =
    let a = step (label_at ts) _ x (label_takes ts) e in
    let b = mark_step marks.Equals a.0.1 _ x a.2 in
    let c = step (number_at b.0) _ x (number_takes b.0) b.2 in
    let d = step (high_at c.0.1) _ x (high_takes c.0.1) c.2 in
    along (λ (y : Entry × List Atom). ts ≡ entry_toks y.0 ++ y.1) (record { label = a.0.0; low = c.0.0; high = d.0.0 }, d.0.1) x d.2
    (a.1 ∙ ap (λ (us : List Atom). label_toks a.0.0 ++ us) (b.1 ∙ ap (λ (us : List Atom). mark marks.Equals ∷ us) (c.1 ∙ ap (λ (us : List Atom). number_toks c.0.0 ++ us) d.1))
    ∙ sym (entry_parts (record { label = a.0.0; low = c.0.0; high = d.0.0 }) d.0.1))

-- an entry is read again where its upper end is
entry_from : (e : Entry) (rest : List Atom) → high_at (high_toks e.high ++ rest) ≡ Found (e.high, rest) → entry_at (entry_toks e ++ rest) ≡ Found (e, rest)
unfolding entry_at mark_at
entry_from e rest high =
    ap entry_at (entry_parts e rest)
    ∙ rw ((label_again e.label (mark marks.Equals ∷ (number_toks e.low ++ (high_toks e.high ++ rest)))).0, number_again e.low (high_toks e.high ++ rest), high) refl

entry_again : (e : Entry) (rest : List Atom) → NoEllipsis rest → entry_at (entry_toks e ++ rest) ≡ Found (e, rest)
entry_again e rest end = entry_from e rest (high_again e.high rest end)

entry_same : (ts : List Atom) (x : Entry × List Atom) → entry_at ts ≡ Found x → (us : List Atom) → StartAlike x.1 us → entry_at (entry_toks x.0 ++ us) ≡ Found (x.0, us)
unfolding entry_at
entry_same ts x e us h =
    let a = bind_found (label_at ts) _ x e in
    let b = mark_step marks.Equals a.0.1 _ x a.2 in
    let c = bind_found (number_at b.0) _ x b.2 in
    let d = bind_found (high_at c.0.1) _ x c.2 in
    along (λ (y : Entry × List Atom). StartAlike y.1 us → entry_at (entry_toks y.0 ++ us) ≡ Found (y.0, us)) (record { label = a.0.0; low = c.0.0; high = d.0.0 }, d.0.1) x d.2
    (λ g. entry_from (record { label = a.0.0; low = c.0.0; high = d.0.0 }) us (high_same c.0.1 d.0 d.1 us g)) h

entry_stops : (ts : List Atom) (left : ℕ) → entry_at ts ≡ Stopped left → Stops Entry (Entry × List Atom) entry_toks [] entry_at ts left
unfolding entry_at
entry_stops ts left e =
    let zero : Number = record { sign = None; literal = 0 } in
    behind label_reads _ ts left e (ahead (λ (l : Label). record { label = l; low = zero; high = None }) (mark marks.Equals ∷ atoms.Number 0 ∷ []) (λ l. append-nil (label_toks l ++ mark marks.Equals ∷ atoms.Number 0 ∷ []))) (λ l behind_label f g.
    behind_mark marks.Equals _ behind_label left g (record { value = record { label = l; low = zero; high = None }; later = mark marks.Equals ∷ atoms.Number 0 ∷ []; spelled = append-nil (label_toks l ++ mark marks.Equals ∷ atoms.Number 0 ∷ []) }) (λ inside h.
    behind number_reads _ inside left h (last (λ (n : Number). record { label = l; low = n; high = None }) (λ n. simp (append_assoc, append-nil))) (λ n behind_low i j.
    behind high_reads _ behind_low left j (last (λ (o : Option Number). record { label = l; low = n; high = o }) (λ o. simp append_assoc)) (λ o rest k m.
    found_is_no_stop (record { label = l; low = n; high = o }, rest) left m))))

entry_reads : Reads Entry entry_at entry_toks
entry_reads = record { takes = entry_takes; same = entry_same; stops = entry_stops }

entry_first : (e : Entry) (rest : List Atom) → is_labelled (entry_toks e ++ rest) ≡ true
entry_first e rest = ap is_labelled (entry_parts e rest) ∙ (label_again e.label (mark marks.Equals ∷ (number_toks e.low ++ (high_toks e.high ++ rest)))).1

next_takes : (ts : List Atom) (x : Entry × List Atom) → next_entry_at ts ≡ Found x → ts ≡ next_entry_toks x.0 ++ x.1
unfolding next_entry_at
next_takes ts x e =
    let a = mark_step marks.Comma ts entry_at x e in
    a.1 ∙ ap (λ (us : List Atom). mark marks.Comma ∷ us) (entry_takes a.0 x a.2)

pub next_spells : Spells Entry is_next next_entry_at next_entry_toks NoEllipsis
unfolding next_entry_at mark_at is_next begins
next_spells = record {
  takes = next_takes;
  some = λ e. omega arith;
  again = entry_again;
  opens = entry_first;
  ends = λ e rest. refl;
}

next_same : (ts : List Atom) (x : Entry × List Atom) → next_entry_at ts ≡ Found x → (us : List Atom) → StartAlike x.1 us → next_entry_at (next_entry_toks x.0 ++ us) ≡ Found (x.0, us)
unfolding next_entry_at mark_at
next_same ts x e us h = let a = mark_step marks.Comma ts entry_at x e in entry_same a.0 x a.2 us h

next_stops : (ts : List Atom) (left : ℕ) → next_entry_at ts ≡ Stopped left → Stops Entry (Entry × List Atom) next_entry_toks [] next_entry_at ts left
unfolding next_entry_at
next_stops ts left e =
    let begin : Entry = record { label = Bare (codes "_"); low = record { sign = None; literal = 0 }; high = None } in
    behind_mark marks.Comma _ ts left e (record { value = begin; later = next_entry_toks begin; spelled = refl }) (λ rest f. within (entry_reads.stops rest left f) (last (λ (x : Entry). x) (λ x. refl)))

next_reads : Reads Entry next_entry_at next_entry_toks
next_reads = record { takes = next_takes; same = next_same; stops = next_stops }

both_true : (a b : Bool) → (a && b) ≡ true → (a ≡ true) × (b ≡ true)
both_true true b e = (refl, e)
both_true false b e = absurd cc

-- an entry behind a comma and a label doesn't stop in front of the comma, so both are there whatever follows
next_stays : (ts seen here us : List Atom) → is_next ts ≡ true → next_entry_at ts ≡ Stopped (length here) → ts ≡ seen ++ here → StartAlike here us → is_next (seen ++ us) ≡ true
unfolding is_next next_entry_at mark_at
next_stays [] seen here us go e parts h = absurd cc
next_stays (a ∷ ts) [] here us go e parts h =
    let comma = both_true (is_mark marks.Comma a) (is_labelled ts) go in
    let behind_comma : entry_at ts ≡ Stopped (length here) = sym (ap (λ (t : Bool). cond t (Found ts) (Stopped (length (a ∷ ts))) >>= entry_at) comma.0) ∙ e in
    let q = entry_reads.stops ts (length here) behind_comma in
    absurd (omega (arith, ap length parts, ap length q.parts, length-append q.seen q.here, q.count))
next_stays (a ∷ ts) (b ∷ seen) here us go e parts h =
    let same : is_next (b ∷ (seen ++ here)) ≡ true = ap is_next (sym parts) ∙ go in
    ap (λ (t : Bool). is_mark marks.Comma b && t) (sym (labelled_first (seen ++ here) (seen ++ us) (alike_behind seen here us h))) ∙ same

closing_takes : (ts : List Atom) (x : Closing × List Atom) → closing_at ts ≡ Found x → ts ≡ closing_toks x.0 ++ x.1
unfolding closing_at
closing_takes ts x e =
    either (begins marks.Comma ts) _ _ (Found x) e
    (λ go f. let a = mark_step marks.Comma ts _ x f in along (λ (y : Closing × List Atom). ts ≡ closing_toks y.0 ++ y.1) (closings.Comma, a.0) x a.2 a.1)
    (λ stop f. along (λ (y : Closing × List Atom). ts ≡ closing_toks y.0 ++ y.1) (closings.Plain, ts) x f refl)

-- behind the entries and what closes them the brace is left
closing_again : (c : Closing) (rest : List Atom) → let ts = closing_toks c ++ mark marks.CloseBrace ∷ rest in (closing_at ts ≡ Found (c, mark marks.CloseBrace ∷ rest)) × (is_next ts ≡ false) × NoEllipsis ts
unfolding closing_at mark_at begins is_next is_labelled
closing_again closings.Plain rest = (refl, refl, refl)
closing_again closings.Comma rest = (refl, refl, refl)

not_next : (ts : List Atom) → begins marks.Comma ts ≡ false → is_next ts ≡ false
unfolding is_next begins
not_next [] e = refl
not_next (a ∷ ts) e = rw e refl

closing_same : (ts : List Atom) (x : Closing × List Atom) → closing_at ts ≡ Found x → is_next ts ≡ false → (us : List Atom) → StartAlike x.1 us
    → (closing_at (closing_toks x.0 ++ us) ≡ Found (x.0, us)) × (is_next (closing_toks x.0 ++ us) ≡ false)
unfolding closing_at mark_at begins is_next
closing_same ts x e no_more us h =
    either (begins marks.Comma ts) _ _ (Found x) e (λ go f.
    let a = mark_step marks.Comma ts _ x f in
    along (λ (y : Closing × List Atom). StartAlike y.1 us → (closing_at (closing_toks y.0 ++ us) ≡ Found (y.0, us)) × (is_next (closing_toks y.0 ++ us) ≡ false)) (closings.Comma, a.0) x a.2
    (λ g. (refl, sym (labelled_first a.0 us g) ∙ sym (ap is_next a.1) ∙ no_more)) h)
    (λ stop f. along (λ (y : Closing × List Atom). StartAlike y.1 us → (closing_at (closing_toks y.0 ++ us) ≡ Found (y.0, us)) × (is_next (closing_toks y.0 ++ us) ≡ false)) (closings.Plain, ts) x f
    (λ g. let end = sym (begins_first marks.Comma ts us g) ∙ stop in (rw end refl, not_next us end)) h)

-- what closes the entries is always found
closing_found : (ts : List Atom) → (x : Closing × List Atom) × (closing_at ts ≡ Found x)
unfolding closing_at mark_at begins
closing_found [] = ((closings.Plain, []), refl)
closing_found (a ∷ ts) = go (is_mark marks.Comma a) refl
  where
    go : (t : Bool) → is_mark marks.Comma a ≡ t → (x : Closing × List Atom) × (closing_at (a ∷ ts) ≡ Found x)
    go true e = ((closings.Comma, ts), rw e refl)
    go false e = ((closings.Plain, a ∷ ts), rw e refl)

listed_takes : (ts : List Atom) (x : Entries × List Atom) → listed_at ts ≡ Found x → ts ≡ entries_toks x.0 ++ x.1
unfolding listed_at
listed_takes ts x e =
    let a = step (entry_at ts) _ x (entry_takes ts) e in
    let b = step (many is_next next_entry_at a.0.1) _ x (many_take is_next next_entry_at next_entry_toks NoEllipsis next_spells (suc (length a.0.1)) a.0.1) a.2 in
    let c = step (closing_at b.0.1) _ x (closing_takes b.0.1) b.2 in
    along (λ (y : Entries × List Atom). ts ≡ entries_toks y.0 ++ y.1) (entries.Listed a.0.0 b.0.0 c.0.0, c.0.1) x c.2
    (a.1 ∙ ap (λ (us : List Atom). entry_toks a.0.0 ++ us) (b.1.0 ∙ ap (λ (us : List Atom). flat_map next_entry_toks b.0.0 ++ us) c.1)
    ∙ splice (entry_toks a.0.0) (flat_map next_entry_toks b.0.0) (closing_toks c.0.0) c.0.1)

listed_again : (e : Entry) (es : List Entry) (c : Closing) (rest : List Atom)
    → listed_at (entries_toks (entries.Listed e es c) ++ mark marks.CloseBrace ∷ rest) ≡ Found (entries.Listed e es c, mark marks.CloseBrace ∷ rest)
unfolding listed_at
listed_again e es c rest =
    let end = closing_toks c ++ mark marks.CloseBrace ∷ rest in let closed = closing_again c rest in
    ap listed_at (sym (splice (entry_toks e) (flat_map next_entry_toks es) (closing_toks c) (mark marks.CloseBrace ∷ rest)))
    ∙ rw (
      entry_again e (flat_map next_entry_toks es ++ end) (all_end is_next next_entry_at next_entry_toks NoEllipsis next_spells es end closed.2),
      many_again is_next next_entry_at next_entry_toks NoEllipsis next_spells es end closed.1 closed.2,
      closed.0,
    ) refl

listed_same : (ts : List Atom) (x : Entries × List Atom) → listed_at ts ≡ Found x → (us : List Atom) → StartAlike x.1 us → listed_at (entries_toks x.0 ++ us) ≡ Found (x.0, us)
unfolding listed_at
listed_same ts x e us h =
    let a = bind_found (entry_at ts) _ x e in
    let b = bind_found (many is_next next_entry_at a.0.1) _ x a.2 in
    let c = bind_found (closing_at b.0.1) _ x b.2 in
    let others = many_take is_next next_entry_at next_entry_toks NoEllipsis next_spells (suc (length a.0.1)) a.0.1 b.0 b.1 in
    along (λ (y : Entries × List Atom). StartAlike y.1 us → listed_at (entries_toks y.0 ++ us) ≡ Found (y.0, us)) (entries.Listed a.0.0 b.0.0 c.0.0, c.0.1) x c.2 (λ g.
    let closed = closing_same b.0.1 c.0 c.1 others.1 us g in
    let behind_others = alike_from b.0.1 (closing_toks c.0.0) c.0.1 us (closing_takes b.0.1 c.0 c.1) g in
    let behind_first = alike_from a.0.1 (flat_map next_entry_toks b.0.0) b.0.1 (closing_toks c.0.0 ++ us) others.0 behind_others in
    ap listed_at (sym (splice (entry_toks a.0.0) (flat_map next_entry_toks b.0.0) (closing_toks c.0.0) us))
    ∙ rw (
      entry_same ts a.0 a.1 (flat_map next_entry_toks b.0.0 ++ (closing_toks c.0.0 ++ us)) behind_first,
      many_same is_next next_entry_at next_entry_toks NoEllipsis next_spells next_reads a.0.1 b.0 b.1 (closing_toks c.0.0 ++ us) behind_others closed.1,
      closed.0,
    ) refl) h

-- what closes the entries behind the first one and the others
abbrev closed_behind : Entry → List Entry × List Atom → Outcome (Entries × List Atom)
closed_behind first others = closing_at others.1 >>= λ closing. Found (entries.Listed first others.0 closing.0, closing.1)

others_stop : (first : Entry) (ts : List Atom) (left : ℕ) → (many is_next next_entry_at ts >>= closed_behind first) ≡ Stopped left
    → Stops Entries (Entries × List Atom) entries_toks (entry_toks first) (λ us. many is_next next_entry_at us >>= closed_behind first) ts left
others_stop first ts left e = go (many is_next next_entry_at ts) refl e
  where
    go : (o : Outcome (List Entry × List Atom)) → many is_next next_entry_at ts ≡ o → (o >>= closed_behind first) ≡ Stopped left
        → Stops Entries (Entries × List Atom) entries_toks (entry_toks first) (λ us. many is_next next_entry_at us >>= closed_behind first) ts left
    go (Stopped n) f g =
        let same : n ≡ left = cc in
        first_stops _ ts left (many_stops is_next next_entry_at next_entry_toks NoEllipsis next_spells next_reads next_stays ts left (f ∙ ap (λ (m : ℕ). Stopped m) same)) (last (λ (es : List Entry). entries.Listed first es closings.Plain) (λ es. append-nil (entry_toks first ++ flat_map next_entry_toks es)))
    go (Found x) f g =
        let closed = closing_found x.1 in
        let found : closed_behind first x ≡ Found (entries.Listed first x.0 closed.0.0, closed.0.1) = rw closed.1 refl in
        found_is_no_stop (entries.Listed first x.0 closed.0.0, closed.0.1) left (sym found ∙ g)

listed_stops : (ts : List Atom) (left : ℕ) → listed_at ts ≡ Stopped left → Stops Entries (Entries × List Atom) entries_toks [] listed_at ts left
unfolding listed_at
listed_stops ts left e =
    behind entry_reads _ ts left e (last (λ (x : Entry). entries.Listed x [] closings.Plain) (λ x. simp append-nil)) (λ first rest f g.
    others_stop first rest left g)

pub entries_take : (ts : List Atom) (x : Entries × List Atom) → entries_at ts ≡ Found x → ts ≡ entries_toks x.0 ++ x.1
unfolding entries_at
entries_take ts x e =
    either (is_labelled ts) _ _ (Found x) e (λ go. listed_takes ts x) (λ stop f. along (λ (y : Entries × List Atom). ts ≡ entries_toks y.0 ++ y.1) (entries.Empty, ts) x f refl)

listed_first : (e : Entry) (es : List Entry) (c : Closing) (rest : List Atom) → is_labelled (entries_toks (entries.Listed e es c) ++ rest) ≡ true
listed_first e es c rest = ap is_labelled (sym (splice (entry_toks e) (flat_map next_entry_toks es) (closing_toks c) rest)) ∙ entry_first e (flat_map next_entry_toks es ++ (closing_toks c ++ rest))

pub entries_again : (es : Entries) (rest : List Atom) → entries_at (entries_toks es ++ mark marks.CloseBrace ∷ rest) ≡ Found (es, mark marks.CloseBrace ∷ rest)
unfolding entries_at is_labelled
entries_again entries.Empty rest = refl
entries_again (entries.Listed e es c) rest = rw (listed_first e es c (mark marks.CloseBrace ∷ rest)) (listed_again e es c rest)

entries_same : (ts : List Atom) (x : Entries × List Atom) → entries_at ts ≡ Found x → (us : List Atom) → StartAlike x.1 us → entries_at (entries_toks x.0 ++ us) ≡ Found (x.0, us)
unfolding entries_at
entries_same ts x e us h =
    either (is_labelled ts) _ _ (Found x) e (λ go f.
    let listed = alike_from ts (entries_toks x.0) x.1 us (listed_takes ts x f) h in
    rw (sym (labelled_first ts (entries_toks x.0 ++ us) listed) ∙ go) (listed_same ts x f us h))
    (λ stop f. along (λ (y : Entries × List Atom). StartAlike y.1 us → entries_at (entries_toks y.0 ++ us) ≡ Found (y.0, us)) (entries.Empty, ts) x f (λ g. rw (sym (labelled_first ts us g) ∙ stop) refl) h)

entries_stop : (ts : List Atom) (left : ℕ) → entries_at ts ≡ Stopped left → Stops Entries (Entries × List Atom) entries_toks [] entries_at ts left
unfolding entries_at
entries_stop ts left e = by_test is_labelled _ _ ts left labelled_first e (λ go f. listed_stops ts left f) (λ stop f. found_is_no_stop (entries.Empty, ts) left f)

pub entries_read : Reads Entries entries_at entries_toks
entries_read = record { takes = entries_take; same = entries_same; stops = entries_stop }
