-- Marks, words and numbers are read as they are spelled.
use Rattle.tsdl_parser.proofs.Steps.{begins, bind_found, codes, names, Atom, Found, List, None, Number, Outcome, Some, Stopped, [], along, ap, cond_found, length, is_mark, is_word, keyword_at, mark, mark_at, number_at, number_toks, refl, signed_at, step, sym, true, word, word_at, ℕ, ◌++◌, ◌>>=◌, ◌∙◌, ◌∷◌, ◌≡◌}
use Rattle.tsdl_parser.proofs.Stopping.{Begins, ByFirst, Reads, Stops, at_once, behind, behind_one, found_is_no_stop, last}
use denote.Enum.Bare.{same_true}
use Rattle.std.proofs.lemmas.Slice.Eq.{bytes_eq-Decides}
use Rattle.tsdl_grammar.specs.contracts.token.Mark.{the_type}
use Rattle.tsdl_grammar.specs.Spelling.{sign_toks}
use Rattle.tsdl_grammar.specs.declared.{token.Mark.Mark, tree.Sign.Sign, tree.Sign.TheVariants.{Plus, Minus}}
use Rattle.tsdl_grammar.specs.declared.token.Mark.TheVariants as marks
use Rattle.tsdl_grammar.specs.declared.atom.Atom.TheVariants as atoms

pub mark_is : (m : Mark) (a : Atom) → is_mark m a ≡ true → a ≡ mark m
mark_is m (atoms.Mark n) e = ap (λ (x : Mark). mark x) (same_true the_type tt n m e)
mark_is m _ e = absurd cc

mark_takes : (m : Mark) (ts rest : List Atom) → mark_at m ts ≡ Found rest → ts ≡ mark m ∷ rest
unfolding mark_at
mark_takes m [] rest e = absurd cc
mark_takes m (a ∷ ts) rest e = let g = cond_found (is_mark m a) ts rest (length (a ∷ ts)) e in let h = mark_is m a g.0 in cc

-- a mark, and a step behind it
pub mark_step : {B : Type 0} (m : Mark) (ts : List Atom) (f : List Atom → Outcome B) (y : B) → (mark_at m ts >>= f) ≡ Found y → (rest : List Atom) × (ts ≡ mark m ∷ rest) × (f rest ≡ Found y)
mark_step m ts f y e = step (mark_at m ts) f y (mark_takes m ts) e

pub word_takes : (ts : List Atom) (x : List ℕ × List Atom) → word_at ts ≡ Found x → ts ≡ word x.0 ∷ x.1
unfolding word_at
word_takes (atoms.Word w ∷ ts) x e = cc
word_takes _ x e = absurd cc

pub word_is : (keyword : List ℕ) (a : Atom) → is_word keyword a ≡ true → a ≡ word keyword
word_is keyword (atoms.Word w) e = ap (λ (x : List ℕ). word x) ((bytes_eq-Decides w keyword).0 e)
word_is keyword _ e = absurd cc

keyword_takes : (keyword : List ℕ) (ts rest : List Atom) → keyword_at keyword ts ≡ Found rest → ts ≡ word keyword ∷ rest
unfolding keyword_at
keyword_takes keyword [] rest e = absurd cc
keyword_takes keyword (a ∷ ts) rest e = let g = cond_found (is_word keyword a) ts rest (length (a ∷ ts)) e in let h = word_is keyword a g.0 in cc

-- a word of the grammar, and a step behind it
pub keyword_step : {B : Type 0} (keyword : List ℕ) (ts : List Atom) (f : List Atom → Outcome B) (y : B) → (keyword_at keyword ts >>= f) ≡ Found y → (rest : List Atom) × (ts ≡ word keyword ∷ rest) × (f rest ≡ Found y)
keyword_step keyword ts f y e = step (keyword_at keyword ts) f y (keyword_takes keyword ts) e

pub number_takes : (ts : List Atom) (x : Number × List Atom) → number_at ts ≡ Found x → ts ≡ number_toks x.0 ++ x.1
unfolding number_at signed_at
number_takes (atoms.Number n ∷ ts) x e = along (λ (y : Number × List Atom). (atoms.Number n ∷ ts) ≡ number_toks y.0 ++ y.1) (record { sign = None; literal = n }, ts) x e refl
number_takes (atoms.Mark marks.Plus ∷ atoms.Number n ∷ ts) x e =
    along (λ (y : Number × List Atom). (mark marks.Plus ∷ atoms.Number n ∷ ts) ≡ number_toks y.0 ++ y.1) (record { sign = Some Plus; literal = n }, ts) x e refl
number_takes (atoms.Mark marks.Minus ∷ atoms.Number n ∷ ts) x e =
    along (λ (y : Number × List Atom). (mark marks.Minus ∷ atoms.Number n ∷ ts) ≡ number_toks y.0 ++ y.1) (record { sign = Some Minus; literal = n }, ts) x e refl
number_takes _ x e = absurd cc

-- what reads a number as a tree of its own
pub number_as : {T : Type 0} (made : Number → T) (toks : T → List Atom) → ((n : Number) → number_toks n ≡ toks (made n)) → (ts : List Atom) (x : T × List Atom)
    → (number_at ts >>= λ n. Found (made n.0, n.1)) ≡ Found x → ts ≡ toks x.0 ++ x.1
number_as {T} made toks same ts x e =
    let a = step (number_at ts) (λ n. Found (made n.0, n.1)) x (number_takes ts) e in
    along (λ (y : T × List Atom). ts ≡ toks y.0 ++ y.1) (made a.0.0, a.0.1) x a.2 (a.1 ∙ ap (λ (us : List Atom). us ++ a.0.1) (same a.0.0))

-- what holds without a sign and with each of both holds of a number
pub by_sign : (P : Number → Type 0) (n : Number) → P (record { sign = None; literal = n.literal }) → P (record { sign = Some Plus; literal = n.literal }) → P (record { sign = Some Minus; literal = n.literal }) → P n
by_sign P n none plus minus = elim n.sign as (λ s. P (record { sign = s; literal = n.literal })) [ None ↦ none | Some Plus ↦ plus | Some Minus ↦ minus ]

pub number_again : (n : Number) (rest : List Atom) → number_at (number_toks n ++ rest) ≡ Found (n, rest)
unfolding number_at signed_at
number_again n rest = by_sign (λ (m : Number). number_at (number_toks m ++ rest) ≡ Found (m, rest)) n refl refl refl

-- ---- where they stop

pub begins_first : (m : Mark) → ByFirst (begins m)
unfolding begins
begins_first m [] us h = ap (begins m) (sym h)
begins_first m (a ∷ ts) us h = ap (begins m) (sym h.1)

pub names_first : (keyword : List ℕ) → ByFirst (names keyword)
unfolding names
names_first keyword [] us h = ap (names keyword) (sym h)
names_first keyword (a ∷ ts) us h = ap (names keyword) (sym h.1)

pub behind_mark : {B D : Type 0} {whole : B → List Atom} {front : List Atom} (m : Mark) (k : List Atom → Outcome D) (ts : List Atom) (left : ℕ) → (mark_at m ts >>= k) ≡ Stopped left
    → Begins B whole front → ((rest : List Atom) → k rest ≡ Stopped left → Stops B D whole (front ++ mark m ∷ []) k rest left) → Stops B D whole front (λ us. mark_at m us >>= k) ts left
unfolding mark_at
behind_mark m k ts left e begin next = behind_one (mark_at m) (is_mark m) (mark m) refl (λ a rest. refl) (mark_is m) k ts left e begin next

pub behind_keyword : {B D : Type 0} {whole : B → List Atom} {front : List Atom} (keyword : List ℕ) (k : List Atom → Outcome D) (ts : List Atom) (left : ℕ)
    → (keyword_at keyword ts >>= k) ≡ Stopped left → Begins B whole front
    → ((rest : List Atom) → k rest ≡ Stopped left → Stops B D whole (front ++ word keyword ∷ []) k rest left) → Stops B D whole front (λ us. keyword_at keyword us >>= k) ts left
unfolding keyword_at
behind_keyword keyword k ts left e begin next = behind_one (keyword_at keyword) (is_word keyword) (word keyword) refl (λ a rest. refl) (word_is keyword) k ts left e begin next

word_stops : (ts : List Atom) (left : ℕ) → word_at ts ≡ Stopped left → Stops (List ℕ) (List ℕ × List Atom) (λ w. word w ∷ []) [] word_at ts left
unfolding word_at
word_stops [] left e = at_once word_at [] left (cc) (record { value = codes "_"; later = word (codes "_") ∷ []; spelled = refl }) (λ us h. rw h tt)
word_stops (atoms.Word w ∷ ts) left e = absurd cc
word_stops (a ∷ ts) left e = at_once word_at (a ∷ ts) left (cc) (record { value = codes "_"; later = word (codes "_") ∷ []; spelled = refl }) (λ us h. rw h.1 tt)

pub word_reads : Reads (List ℕ) word_at (λ w. word w ∷ [])
unfolding word_at
word_reads = record {
  takes = word_takes;
  same = λ ts x e us h. refl;
  stops = word_stops;
}

-- any number
zero_begins : Begins Number number_toks []
zero_begins = record { value = record { sign = None; literal = 0 }; later = atoms.Number 0 ∷ []; spelled = refl }

-- a number behind its sign
sign_begins : (sign : Sign) → Begins Number number_toks (sign_toks (Some sign))
sign_begins sign = record { value = record { sign = Some sign; literal = 0 }; later = atoms.Number 0 ∷ []; spelled = refl }

number_stops : (ts : List Atom) (left : ℕ) → number_at ts ≡ Stopped left → Stops Number (Number × List Atom) number_toks [] number_at ts left
unfolding number_at signed_at
number_stops [] left e = at_once number_at [] left (cc) zero_begins (λ us h. rw h tt)
number_stops (atoms.Number n ∷ ts) left e = absurd cc
number_stops (atoms.Mark marks.Plus ∷ []) left e = record { seen = mark marks.Plus ∷ []; here = []; parts = refl; count = cc; goes_on = sign_begins Plus; stuck = λ us h. rw h tt }
number_stops (atoms.Mark marks.Plus ∷ atoms.Number n ∷ ts) left e = absurd cc
number_stops (atoms.Mark marks.Plus ∷ a ∷ ts) left e =
    record { seen = mark marks.Plus ∷ []; here = a ∷ ts; parts = refl; count = cc; goes_on = sign_begins Plus; stuck = λ us h. rw h.1 tt }
number_stops (atoms.Mark marks.Minus ∷ []) left e = record { seen = mark marks.Minus ∷ []; here = []; parts = refl; count = cc; goes_on = sign_begins Minus; stuck = λ us h. rw h tt }
number_stops (atoms.Mark marks.Minus ∷ atoms.Number n ∷ ts) left e = absurd cc
number_stops (atoms.Mark marks.Minus ∷ a ∷ ts) left e =
    record { seen = mark marks.Minus ∷ []; here = a ∷ ts; parts = refl; count = cc; goes_on = sign_begins Minus; stuck = λ us h. rw h.1 tt }
number_stops (a ∷ ts) left e = at_once number_at (a ∷ ts) left (cc) zero_begins (λ us h. rw h.1 tt)

pub number_reads : Reads Number number_at number_toks
number_reads = record { takes = number_takes; same = λ ts x e us h. number_again x.0 us; stops = number_stops }

-- a number as a tree of its own
abbrev pub number_made : {T : Type 0} → (Number → T) → List Atom → Outcome (T × List Atom)
number_made made ts = number_at ts >>= λ n. Found (made n.0, n.1)

-- what reads a number so finds the same wherever it does that
pub number_same : {T : Type 0} (rule : List Atom → Outcome (T × List Atom)) (made : Number → T) (toks : T → List Atom) (us : List Atom) → ((n : Number) → rule (toks (made n) ++ us) ≡ Found (made n, us)) → (ts : List Atom) (x : T × List Atom)
    → number_made made ts ≡ Found x → rule (toks x.0 ++ us) ≡ Found (x.0, us)
number_same {T} rule made toks us again ts x e =
    let a = bind_found (number_at ts) (λ n. Found (made n.0, n.1)) x e in
    along (λ (y : T × List Atom). rule (toks y.0 ++ us) ≡ Found (y.0, us)) (made a.0.0, a.0.1) x a.2 (again a.0.0)

-- and it stops where a number does
pub number_stops_as : {T : Type 0} (made : Number → T) (toks : T → List Atom) → ((n : Number) → toks (made n) ≡ number_toks n) → (ts : List Atom) (left : ℕ) → number_made made ts ≡ Stopped left
    → Stops T (T × List Atom) toks [] (number_made made) ts left
number_stops_as made toks same ts left e = behind number_reads _ ts left e (last made same) (λ n rest f g. found_is_no_stop (made n, rest) left g)
