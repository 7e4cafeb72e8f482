-- Items one after the other: what holds of the reading and the spelling of one item holds of all of them, and what a
-- loop over them keeps.
use Rattle.tsdl_parser.proofs.Steps.{Atom, Bool, Fails, Found, List, Outcome, Shortens, Stopped, Unread, [], along, ap, append-nil, append_assoc, arith, begins, bind_found, braced, braced_at, either, cond, false, flat_map, is_open, length, length-append, not, many, many_at, mark, mark_at, refl, same_steps, step, subst, suc, sym, true, zero, ℕ, ◌++◌, ◌<◌, ◌>>=◌, ◌∙◌, ◌∷◌, ◌≡◌}
use Rattle.tsdl_parser.proofs.Words.{mark_step, begins_first, behind_mark}
use Rattle.tsdl_parser.proofs.Stopping.{Begins, ByFirst, IsStopped, PartOf, Reads, StartAlike, Stops, ahead, alike_from, begun, behind, found_is_no_stop, last, stopped_first, stopped_on}
use Rattle.std.proofs.lemmas.List.Concat.{flat_map-cons}
use Rattle.tsdl_grammar.specs.declared.token.Mark.TheVariants as marks
use Rattle.tsdl_parser.specs.declared.halt.Unread.TheVariants as unread

-- an item is read as it is spelled: what is taken was spelled, and what was spelled is taken again, where the atoms
-- behind it end it
pub record Spells (A : Type 0) (starts : List Atom → Bool) (item : List Atom → Outcome (A × List Atom)) (spelled : A → List Atom) (Ends : List Atom → Type 0) : Type 0 where
  pub takes : (ts : List Atom) (x : A × List Atom) → item ts ≡ Found x → ts ≡ spelled x.0 ++ x.1
  pub some : (x : A) → 0 < length (spelled x)
  pub again : (x : A) (rest : List Atom) → Ends rest → item (spelled x ++ rest) ≡ Found (x, rest)
  pub opens : (x : A) (rest : List Atom) → starts (spelled x ++ rest) ≡ true
  pub ends : (x : A) (rest : List Atom) → Ends (spelled x ++ rest)

-- no condition on what follows
abbrev pub Anything : List Atom → Type 0
Anything ts = Unit {0}

-- an item that is read so whatever follows
pub anywhere : {A : Type 0} {starts : List Atom → Bool} {item : List Atom → Outcome (A × List Atom)} {spelled : A → List Atom} → ((ts : List Atom) (x : A × List Atom) → item ts ≡ Found x → ts ≡ spelled x.0 ++ x.1) → ((x : A) → 0 < length (spelled x))
    → ((x : A) (rest : List Atom) → item (spelled x ++ rest) ≡ Found (x, rest)) → ((x : A) (rest : List Atom) → starts (spelled x ++ rest) ≡ true) → Spells A starts item spelled Anything
anywhere takes some again opens = record { takes = takes; some = some; again = λ x rest h. again x rest; opens = opens; ends = λ x rest. tt }

-- the items that were read, and then those that are read
abbrev pub with_front : {A : Type 0} → List A → Outcome (List A × List Atom) → Outcome (List A × List Atom)
with_front front read = read >>= λ x. Found (front ++ x.0, x.1)

regroup : {A : Type 0} (front : List A) (x : A) (o : Outcome (List A × List Atom)) → with_front front (o >>= λ xs. Found (x ∷ xs.0, xs.1)) ≡ with_front (front ++ x ∷ []) o
regroup front x (Stopped left) = refl
regroup {A} front x (Found y) = ap (λ (xs : List A). Found (xs, y.1)) (sym (append_assoc front (x ∷ []) y.0))

module _ {A : Type 0} (starts : List Atom → Bool) (item : List Atom → Outcome (A × List Atom)) (short : Shortens A item) where
  -- more steps than there are atoms change nothing
  enough : (n m : ℕ) (ts : List Atom) → length ts < n → length ts < m → many_at starts item n ts ≡ many_at starts item m ts
  unfolding many_at
  enough zero m ts a b = absurd (omega arith)
  enough (suc n) zero ts a b = absurd (omega arith)
  enough (suc n) (suc m) ts a b =
      ap (λ (o : Outcome (List A × List Atom)). cond (starts ts) o (Found ([], ts)))
      (same_steps (item ts) (λ x. many_at starts item n x.1 >>= λ xs. Found (x.0 ∷ xs.0, xs.1)) (λ x. many_at starts item m x.1 >>= λ xs. Found (x.0 ∷ xs.0, xs.1))
      (λ x e. ap (λ (o : Outcome (List A × List Atom)). o >>= λ xs. Found (x.0 ∷ xs.0, xs.1)) (enough n m x.1 (omega (arith, short ts x e)) (omega (arith, short ts x e)))))

  -- one more item and then the others, or none
  pub many_is : (ts : List Atom) → many starts item ts ≡ cond (starts ts) (item ts >>= λ x. many starts item x.1 >>= λ xs. Found (x.0 ∷ xs.0, xs.1)) (Found ([], ts))
  unfolding many_at
  many_is ts =
      ap (λ (o : Outcome (List A × List Atom)). cond (starts ts) o (Found ([], ts)))
      (same_steps (item ts) (λ x. many_at starts item (length ts) x.1 >>= λ xs. Found (x.0 ∷ xs.0, xs.1)) (λ x. many starts item x.1 >>= λ xs. Found (x.0 ∷ xs.0, xs.1))
      (λ x e. ap (λ (o : Outcome (List A × List Atom)). o >>= λ xs. Found (x.0 ∷ xs.0, xs.1)) (enough (length ts) (suc (length x.1)) x.1 (short ts x e) (omega arith))))

  one_more : (ts : List Atom) (x : A) (rest : List Atom) → starts ts ≡ true → item ts ≡ Found (x, rest) → many starts item ts ≡ (many starts item rest >>= λ xs. Found (x ∷ xs.0, xs.1))
  one_more ts x rest go e = many_is ts ∙ rw (go, e) refl

module _ {A : Type 0} (starts : List Atom → Bool) (item : List Atom → Outcome (A × List Atom)) where
  pub goes_on : (short : Shortens A item) (total : Outcome (List A × List Atom)) (front : List A) (ts : List Atom) (x : A) (rest : List Atom) → with_front front (many starts item ts) ≡ total
      → starts ts ≡ true → item ts ≡ Found (x, rest) → with_front (front ++ x ∷ []) (many starts item rest) ≡ total
  goes_on short total front ts x rest so_far go e =
      sym (regroup front x (many starts item rest)) ∙ ap (with_front front) (sym (one_more starts item short ts x rest go e)) ∙ so_far

  pub is_done : (total : Outcome (List A × List Atom)) (front : List A) (ts : List Atom) → with_front front (many starts item ts) ≡ total → starts ts ≡ false → total ≡ Found (front, ts)
  unfolding many_at
  is_done total front ts so_far stop = sym so_far ∙ rw stop (ap (λ (xs : List A). Found (xs, ts)) (append-nil front))

  pub gives_up : (total : Outcome (List A × List Atom)) (front : List A) (ts : List Atom) (e : Unread) → with_front front (many starts item ts) ≡ total → starts ts ≡ true → Fails e (item ts) → Fails e total
  unfolding many_at
  gives_up total front ts unread.Memory so_far go e = tt
  gives_up total front ts (unread.Halted s) so_far go e = sym so_far ∙ rw (go, e) refl

module _ {A : Type 0} (starts : List Atom → Bool) (item : List Atom → Outcome (A × List Atom)) (spelled : A → List Atom) (Ends : List Atom → Type 0) (s : Spells A starts item spelled Ends) where
  pub shortens : Shortens A item
  shortens ts x e = omega (arith, s.some x.0, ap length (s.takes ts x e), length-append (spelled x.0) x.1)

  pub many_take : (n : ℕ) (ts : List Atom) (x : List A × List Atom) → many_at starts item n ts ≡ Found x → (ts ≡ flat_map spelled x.0 ++ x.1) × (starts x.1 ≡ false)
  unfolding many_at
  many_take zero ts x e = absurd cc
  many_take (suc n) ts x e =
      either (starts ts) (item ts >>= λ y. many_at starts item n y.1 >>= λ ys. Found (y.0 ∷ ys.0, ys.1)) (Found ([], ts)) (Found x) e (λ go f.
      let a = step (item ts) (λ y. many_at starts item n y.1 >>= λ ys. Found (y.0 ∷ ys.0, ys.1)) x (s.takes ts) f in
      let b = bind_found (many_at starts item n a.0.1) (λ ys. Found (a.0.0 ∷ ys.0, ys.1)) x a.2 in
      let others = many_take n a.0.1 b.0 b.1 in
      let whole : ts ≡ flat_map spelled (a.0.0 ∷ b.0.0) ++ b.0.1 = a.1 ∙ ap (λ (us : List Atom). spelled a.0.0 ++ us) others.0 ∙ sym (append_assoc (spelled a.0.0) (flat_map spelled b.0.0) b.0.1) ∙ ap (λ (us : List Atom). us ++ b.0.1) (sym (flat_map-cons spelled a.0.0 b.0.0)) in
      along (λ (y : List A × List Atom). (ts ≡ flat_map spelled y.0 ++ y.1) × (starts y.1 ≡ false)) (a.0.0 ∷ b.0.0, b.0.1) x b.2 (whole, others.1))
      (λ stop f. along (λ (y : List A × List Atom). (ts ≡ flat_map spelled y.0 ++ y.1) × (starts y.1 ≡ false)) ([], ts) x f (refl, stop))

  pub all_end : (xs : List A) (rest : List Atom) → Ends rest → Ends (flat_map spelled xs ++ rest)
  all_end [] rest h = h
  all_end (x ∷ xs) rest h = rw (flat_map-cons, append_assoc) (s.ends x (flat_map spelled xs ++ rest))

  again_at : (xs : List A) (rest : List Atom) (n : ℕ) → length (flat_map spelled xs) < n → starts rest ≡ false → Ends rest → many_at starts item n (flat_map spelled xs ++ rest) ≡ Found (xs, rest)
  unfolding many_at
  again_at xs rest zero few stop end = absurd (omega arith)
  again_at [] rest (suc n) few stop end = rw stop refl
  again_at (x ∷ xs) rest (suc n) few stop end =
      let regrouped : flat_map spelled (x ∷ xs) ++ rest ≡ spelled x ++ (flat_map spelled xs ++ rest) = ap (λ (us : List Atom). us ++ rest) (flat_map-cons spelled x xs) ∙ append_assoc (spelled x) (flat_map spelled xs) rest in
      let fewer : length (flat_map spelled xs) < n = omega (arith, s.some x, ap length (flat_map-cons spelled x xs), length-append (spelled x) (flat_map spelled xs)) in
      ap (many_at starts item (suc n)) regrouped
      ∙ rw (s.opens x (flat_map spelled xs ++ rest), s.again x (flat_map spelled xs ++ rest) (all_end xs rest end), again_at xs rest n fewer stop end) refl

  pub many_again : (xs : List A) (rest : List Atom) → starts rest ≡ false → Ends rest → many starts item (flat_map spelled xs ++ rest) ≡ Found (xs, rest)
  many_again xs rest stop end = again_at xs rest (suc (length (flat_map spelled xs ++ rest))) (omega (arith, length-append (flat_map spelled xs) rest)) stop end

pub braced_parts : (inner rest : List Atom) → braced inner ++ rest ≡ mark marks.OpenBrace ∷ (inner ++ (mark marks.CloseBrace ∷ rest))
braced_parts inner rest = ap (λ (us : List Atom). mark marks.OpenBrace ∷ us) (append_assoc inner (mark marks.CloseBrace ∷ []) rest)

pub braced_take : {A : Type 0} (item : List Atom → Outcome (A × List Atom)) (spelled : A → List Atom) → Spells A is_open item spelled Anything
    → (ts : List Atom) (x : List A × List Atom) → braced_at item ts ≡ Found x → ts ≡ braced (flat_map spelled x.0) ++ x.1
unfolding braced_at
braced_take {A} item spelled s ts x e =
    let a = mark_step marks.OpenBrace ts _ x e in
    let b = step (many is_open item a.0) _ x (many_take is_open item spelled Anything s (suc (length a.0)) a.0) a.2 in
    let c = mark_step marks.CloseBrace b.0.1 _ x b.2 in
    along (λ (y : List A × List Atom). ts ≡ braced (flat_map spelled y.0) ++ y.1) (b.0.0, c.0) x c.2
    (a.1 ∙ ap (λ (us : List Atom). mark marks.OpenBrace ∷ us) (b.1.0 ∙ ap (λ (us : List Atom). flat_map spelled b.0.0 ++ us) c.1) ∙ sym (braced_parts (flat_map spelled b.0.0) c.0))

pub braced_again : {A : Type 0} (item : List Atom → Outcome (A × List Atom)) (spelled : A → List Atom) → Spells A is_open item spelled Anything
    → (xs : List A) (rest : List Atom) → braced_at item (braced (flat_map spelled xs) ++ rest) ≡ Found (xs, rest)
unfolding braced_at mark_at begins
braced_again item spelled s xs rest = ap (braced_at item) (braced_parts (flat_map spelled xs) rest) ∙ rw (many_again is_open item spelled Anything s xs (mark marks.CloseBrace ∷ rest) refl tt) refl

-- ---- where they stop

pub open_first : ByFirst is_open
open_first ts us h = ap not (begins_first marks.CloseBrace ts us h)

-- what reads an item as it is spelled, whatever follows
pub item_reads : {A : Type 0} {starts : List Atom → Bool} {item : List Atom → Outcome (A × List Atom)} {toks : A → List Atom} → Spells A starts item toks Anything
    → ((ts : List Atom) (left : ℕ) → item ts ≡ Stopped left → Stops A (A × List Atom) toks [] item ts left) → Reads A item toks
item_reads s stops = record { takes = s.takes; same = λ ts x e us h. s.again x.0 us tt; stops = stops }

one_begins : {A : Type 0} (toks : A → List Atom) (seen : List Atom) → Begins A toks seen → Begins (List A) (flat_map toks) seen
one_begins {A} toks seen b =
    let one : PartOf A (List A) toks (flat_map toks) [] = ahead (λ (x : A). x ∷ []) [] (λ x. flat_map-cons toks x []) in
    begun one seen b

more_begin : {A : Type 0} (toks : A → List Atom) (x : A) (seen : List Atom) → Begins (List A) (flat_map toks) seen → Begins (List A) (flat_map toks) (toks x ++ seen)
more_begin {A} toks x seen b =
    let more : PartOf (List A) (List A) (flat_map toks) (flat_map toks) (toks x) = last (λ (xs : List A). x ∷ xs) (λ xs. flat_map-cons toks x xs) in
    begun more seen b

-- the same items are found wherever what follows them begins alike, and starts no other one
module _ {A : Type 0} (starts : List Atom → Bool) (item : List Atom → Outcome (A × List Atom)) (toks : A → List Atom) (Ends : List Atom → Type 0) (s : Spells A starts item toks Ends) (r : Reads A item toks) where
  short : Shortens A item
  short = shortens starts item toks Ends s

  same_in : (n : ℕ) (ts : List Atom) (x : List A × List Atom) → length ts < n → many starts item ts ≡ Found x → (us : List Atom) → StartAlike x.1 us → starts us ≡ false → many starts item (flat_map toks x.0 ++ us) ≡ Found (x.0, us)
  same_in zero ts x few e us h stop = absurd (omega arith)
  same_in (suc n) ts x few e us h stop =
      either (starts ts) (item ts >>= λ y. many starts item y.1 >>= λ ys. Found (y.0 ∷ ys.0, ys.1)) (Found ([], ts)) (Found x) (sym (many_is starts item short ts) ∙ e) (λ go f.
      let a = bind_found (item ts) (λ y. many starts item y.1 >>= λ ys. Found (y.0 ∷ ys.0, ys.1)) x f in
      let b = bind_found (many starts item a.0.1) (λ ys. Found (a.0.0 ∷ ys.0, ys.1)) x a.2 in
      along (λ (y : List A × List Atom). StartAlike y.1 us → many starts item (flat_map toks y.0 ++ us) ≡ Found (y.0, us)) (a.0.0 ∷ b.0.0, b.0.1) x b.2 (λ g.
      let others = flat_map toks b.0.0 ++ us in
      let found = r.same ts a.0 a.1 others (alike_from a.0.1 (flat_map toks b.0.0) b.0.1 us (many_take starts item toks Ends s (suc (length a.0.1)) a.0.1 b.0 b.1).0 g) in
      let again = same_in n a.0.1 b.0 (omega (arith, short ts a.0 a.1)) b.1 us g stop in
      let regrouped : flat_map toks (a.0.0 ∷ b.0.0) ++ us ≡ toks a.0.0 ++ others = ap (λ (vs : List Atom). vs ++ us) (flat_map-cons toks a.0.0 b.0.0) ∙ append_assoc (toks a.0.0) (flat_map toks b.0.0) us in
      ap (many starts item) regrouped ∙ one_more starts item short (toks a.0.0 ++ others) a.0.0 others (s.opens a.0.0 others) found ∙ ap (λ (o : Outcome (List A × List Atom)). o >>= λ ys. Found (a.0.0 ∷ ys.0, ys.1)) again) h)
      (λ end f. along (λ (y : List A × List Atom). StartAlike y.1 us → many starts item (flat_map toks y.0 ++ us) ≡ Found (y.0, us)) ([], ts) x f (λ g. many_is starts item short us ∙ rw stop refl) h)

  pub many_same : (ts : List Atom) (x : List A × List Atom) → many starts item ts ≡ Found x → (us : List Atom) → StartAlike x.1 us → starts us ≡ false → many starts item (flat_map toks x.0 ++ us) ≡ Found (x.0, us)
  many_same ts x e us h stop = same_in (suc (length ts)) ts x (omega arith) e us h stop

-- items stop where one of them does: there another one has started, whatever follows that begins alike
module _ {A : Type 0} (starts : List Atom → Bool) (item : List Atom → Outcome (A × List Atom)) (toks : A → List Atom) (Ends : List Atom → Type 0) (s : Spells A starts item toks Ends) (r : Reads A item toks) (stays : (ts seen here us : List Atom) → starts ts ≡ true → item ts ≡ Stopped (length here) → ts ≡ seen ++ here → StartAlike here us → starts (seen ++ us) ≡ true) where
  abbrev others : A × List Atom → Outcome (List A × List Atom)
  others x = many starts item x.1 >>= λ xs. Found (x.0 ∷ xs.0, xs.1)

  in_item : (ts : List Atom) (left : ℕ) (o : Outcome (A × List Atom)) → item ts ≡ o → starts ts ≡ true → (o >>= others) ≡ Stopped left
      → ((x : A) (rest : List Atom) → item ts ≡ Found (x, rest) → many starts item rest ≡ Stopped left → Stops (List A) (List A × List Atom) (flat_map toks) [] (many starts item) rest left)
      → Stops (List A) (List A × List Atom) (flat_map toks) [] (many starts item) ts left
  in_item ts left (Stopped n) f go e next =
      let same : n ≡ left = cc in
      let q = r.stops ts left (f ∙ ap (λ (m : ℕ). Stopped m) same) in
      record {
        seen = q.seen;
        here = q.here;
        parts = q.parts;
        count = q.count;
        goes_on = one_begins toks q.seen q.goes_on;
        stuck = λ us h.
            let stay = stays ts q.seen q.here us go (f ∙ ap (λ (m : ℕ). Stopped m) (same ∙ q.count)) q.parts h in
            let tried : many starts item (q.seen ++ us) ≡ (item (q.seen ++ us) >>= others) = many_is starts item (shortens starts item toks Ends s) (q.seen ++ us) ∙ rw stay refl in
            subst (λ (o : Outcome (List A × List Atom)). IsStopped o) (sym tried) (stopped_on (item (q.seen ++ us)) others (q.stuck us h));
      }
  in_item ts left (Found x) f go e next =
      let q = next x.0 x.1 f (stopped_first (many starts item x.1) (λ xs. (x.0 ∷ xs.0, xs.1)) left e) in
      record {
        seen = toks x.0 ++ q.seen;
        here = q.here;
        parts = s.takes ts x f ∙ ap (λ (us : List Atom). toks x.0 ++ us) q.parts ∙ sym (append_assoc (toks x.0) q.seen q.here);
        count = q.count;
        goes_on = more_begin toks x.0 q.seen q.goes_on;
        stuck = λ us h.
            let found = r.same ts x f (q.seen ++ us) (alike_from x.1 q.seen q.here us q.parts h) in
            let tried = ap (many starts item) (append_assoc (toks x.0) q.seen us) ∙ one_more starts item (shortens starts item toks Ends s) (toks x.0 ++ (q.seen ++ us)) x.0 (q.seen ++ us) (s.opens x.0 (q.seen ++ us)) found in
            subst (λ (o : Outcome (List A × List Atom)). IsStopped o) (sym tried) (stopped_on (many starts item (q.seen ++ us)) (λ (xs : List A × List Atom). Found (x.0 ∷ xs.0, xs.1)) (q.stuck us h));
      }

  stops_in : (n : ℕ) (ts : List Atom) (left : ℕ) → length ts < n → many starts item ts ≡ Stopped left → Stops (List A) (List A × List Atom) (flat_map toks) [] (many starts item) ts left
  stops_in zero ts left few e = absurd (omega arith)
  stops_in (suc n) ts left few e =
      either (starts ts) (item ts >>= λ x. many starts item x.1 >>= λ xs. Found (x.0 ∷ xs.0, xs.1)) (Found ([], ts)) (Stopped left) (sym (many_is starts item (shortens starts item toks Ends s) ts) ∙ e)
      (λ go f. in_item ts left (item ts) refl go f (λ x rest g. stops_in n rest left (omega (arith, shortens starts item toks Ends s ts (x, rest) g)))) (λ stop f. found_is_no_stop ([], ts) left f)

  pub many_stops : (ts : List Atom) (left : ℕ) → many starts item ts ≡ Stopped left → Stops (List A) (List A × List Atom) (flat_map toks) [] (many starts item) ts left
  many_stops ts left e = stops_in (suc (length ts)) ts left (omega arith) e

-- items that the first atom starts
pub many_reads : {A : Type 0} {starts : List Atom → Bool} {item : List Atom → Outcome (A × List Atom)} {toks : A → List Atom} {Ends : List Atom → Type 0} → ByFirst starts → Spells A starts item toks Ends → Reads A item toks → Reads (List A) (many starts item) (flat_map toks)
many_reads {A} {starts} {item} {toks} {Ends} first s r = record {
  takes = λ ts x e. (many_take starts item toks Ends s (suc (length ts)) ts x e).0;
  same = λ ts x e us h. many_same starts item toks Ends s r ts x e us h (sym (first x.1 us h) ∙ (many_take starts item toks Ends s (suc (length ts)) ts x e).1);
  stops = many_stops starts item toks Ends s r (λ ts seen here us go e parts h. sym (first ts (seen ++ us) (alike_from ts seen here us parts h)) ∙ go);
}

braced_stops : {A : Type 0} (item : List Atom → Outcome (A × List Atom)) (toks : A → List Atom) → Spells A is_open item toks Anything → Reads A item toks
    → (ts : List Atom) (left : ℕ) → braced_at item ts ≡ Stopped left → Stops (List A) (List A × List Atom) (λ xs. braced (flat_map toks xs)) [] (braced_at item) ts left
unfolding braced_at
braced_stops {A} item toks s r ts left e =
    behind_mark marks.OpenBrace _ ts left e (record { value = []; later = mark marks.OpenBrace ∷ mark marks.CloseBrace ∷ []; spelled = refl }) (λ inside f.
    behind (many_reads open_first s r) _ inside left f (ahead (λ (xs : List A). xs) (mark marks.CloseBrace ∷ []) (λ xs. refl)) (λ xs behind_items g h.
    behind_mark marks.CloseBrace _ behind_items left h (record { value = xs; later = mark marks.CloseBrace ∷ []; spelled = refl }) (λ rest i.
    found_is_no_stop (xs, rest) left i)))

pub braced_reads : {A : Type 0} {item : List Atom → Outcome (A × List Atom)} {toks : A → List Atom} → Spells A is_open item toks Anything → Reads A item toks → Reads (List A) (braced_at item) (λ xs. braced (flat_map toks xs))
braced_reads {A} {item} {toks} s r = record {
  takes = braced_take item toks s;
  same = λ ts x e us h. braced_again item toks s x.0 us;
  stops = braced_stops item toks s r;
}
