-- Where rules stop: what they have seen can go on as what is spelled, and they stop there whatever follows that begins alike.
use Rattle.tsdl_parser.proofs.Steps.{Atom, Bool, Found, List, Outcome, Stopped, [], ap, append-nil, append_assoc, cond, either, false, length, refl, subst, sym, true, ℕ, ◌++◌, ◌>>=◌, ◌∙◌, ◌∷◌, ◌≡◌}

-- both begin with the same atom, or both are at their end
abbrev pub StartAlike : List Atom → List Atom → Type 0
StartAlike [] us = us ≡ []
StartAlike (a ∷ here) us = (rest : List Atom) × (us ≡ a ∷ rest)

-- something is spelled so, and goes on
pub record Begins (A : Type 0) (toks : A → List Atom) (seen : List Atom) : Type 0 where
  pub value : A
  pub later : List Atom
  pub spelled : toks value ≡ seen ++ later

-- nothing was found
abbrev pub IsStopped : {A : Type 0} → Outcome A → Type 0
IsStopped (Found x) = ⊥
IsStopped (Stopped left) = Unit {0}

-- a rule behind these atoms stops at a place from which so many are left
pub record Stops (B C : Type 0) (toks : B → List Atom) (front : List Atom) (rule : List Atom → Outcome C) (ts : List Atom) (left : ℕ) : Type 0 where
  pub seen : List Atom
  pub here : List Atom
  pub parts : ts ≡ seen ++ here
  pub count : left ≡ length here
  pub goes_on : Begins B toks (front ++ seen)
  pub stuck : (us : List Atom) → StartAlike here us → IsStopped (rule (seen ++ us))

-- what a rule finds was spelled, it finds the same whatever follows that begins alike, and it stops where nothing that is spelled goes on
pub record Reads (A : Type 0) (rule : List Atom → Outcome (A × List Atom)) (toks : A → List Atom) : Type 0 where
  pub takes : (ts : List Atom) (x : A × List Atom) → rule ts ≡ Found x → ts ≡ toks x.0 ++ x.1
  pub same : (ts : List Atom) (x : A × List Atom) → rule ts ≡ Found x → (us : List Atom) → StartAlike x.1 us → rule (toks x.0 ++ us) ≡ Found (x.0, us)
  pub stops : (ts : List Atom) (left : ℕ) → rule ts ≡ Stopped left → Stops A (A × List Atom) toks [] rule ts left

-- ---- lists that begin alike

pub alike_behind : (seen here us : List Atom) → StartAlike here us → StartAlike (seen ++ here) (seen ++ us)
alike_behind [] here us h = h
alike_behind (a ∷ seen) here us h = (seen ++ us, refl)

pub alike_from : (ts seen here us : List Atom) → ts ≡ seen ++ here → StartAlike here us → StartAlike ts (seen ++ us)
alike_from ts seen here us parts h = subst (λ (vs : List Atom). StartAlike vs (seen ++ us)) (sym parts) (alike_behind seen here us h)

-- the first atom decides
abbrev pub ByFirst : (List Atom → Bool) → Type 0
ByFirst test = (ts us : List Atom) → StartAlike ts us → test ts ≡ test us

-- ---- what goes on

-- what was found is not stopped
pub found_is_no_stop : {A P : Type 0} (x : A) (left : ℕ) → Found x ≡ Stopped left → P
found_is_no_stop x left e = absurd cc

-- each part behind these atoms is one of a whole, in front of a tail
pub record PartOf (A B : Type 0) (part : A → List Atom) (whole : B → List Atom) (front : List Atom) : Type 0 where
  pub made : A → B
  pub tail : List Atom
  pub spelled : (x : A) → whole (made x) ≡ front ++ (part x ++ tail)

pub ahead : {A B : Type 0} {part : A → List Atom} {whole : B → List Atom} {front : List Atom} (made : A → B) (tail : List Atom) → ((x : A) → whole (made x) ≡ front ++ (part x ++ tail)) → PartOf A B part whole front
ahead made tail spelled = record { made = made; tail = tail; spelled = spelled }

-- the part is the last one
pub last : {A B : Type 0} {part : A → List Atom} {whole : B → List Atom} {front : List Atom} (made : A → B) → ((x : A) → whole (made x) ≡ front ++ part x) → PartOf A B part whole front
last {part} {front} made spelled = record { made = made; tail = []; spelled = λ x. spelled x ∙ ap (λ (us : List Atom). front ++ us) (sym (append-nil (part x))) }

-- where a part begins, the whole does
pub begun : {A B : Type 0} {part : A → List Atom} {whole : B → List Atom} {front : List Atom} → PartOf A B part whole front → (seen : List Atom) → Begins A part seen → Begins B whole (front ++ seen)
begun {front} p seen b =
    let regrouped : front ++ ((seen ++ b.later) ++ p.tail) ≡ (front ++ seen) ++ (b.later ++ p.tail) = simp append_assoc in
    record { value = p.made b.value; later = b.later ++ p.tail; spelled = p.spelled b.value ∙ ap (λ (us : List Atom). front ++ (us ++ p.tail)) b.spelled ∙ regrouped }

shift : {B : Type 0} (whole : B → List Atom) (front part seen : List Atom) → Begins B whole ((front ++ part) ++ seen) → Begins B whole (front ++ (part ++ seen))
shift {B} whole front part seen b = subst (λ (us : List Atom). Begins B whole us) (append_assoc front part seen) b

-- ---- rules one behind the other

pub stopped_on : {A B : Type 0} (o : Outcome A) (k : A → Outcome B) → IsStopped o → IsStopped (o >>= k)
stopped_on (Found x) k h = absurd h
stopped_on (Stopped left) k h = tt

-- what is found at the end was not stopped before
pub stopped_first : {A B : Type 0} (o : Outcome A) (made : A → B) (left : ℕ) → (o >>= λ x. Found (made x)) ≡ Stopped left → o ≡ Stopped left
stopped_first (Found x) made left e = absurd cc
stopped_first (Stopped n) made left e = let same : n ≡ left = cc in ap (λ (m : ℕ). Stopped m) same

is_stopped : {A : Type 0} (o : Outcome A) (left : ℕ) → o ≡ Stopped left → IsStopped o
is_stopped {A} o left e = subst (λ (p : Outcome A). IsStopped p) (sym e) tt

-- a rule that stops right where it begins
pub at_once : {B C : Type 0} {whole : B → List Atom} {front : List Atom} (rule : List Atom → Outcome C) (ts : List Atom) (left : ℕ)
    → left ≡ length ts → Begins B whole front → ((us : List Atom) → StartAlike ts us → IsStopped (rule us)) → Stops B C whole front rule ts left
at_once {B} {whole} {front} rule ts left count b stuck = record {
  seen = [];
  here = ts;
  parts = refl;
  count = count;
  goes_on = subst (λ (us : List Atom). Begins B whole us) (sym (append-nil front)) b;
  stuck = stuck;
}

-- a rule stops as part of a whole
pub within : {A B C : Type 0} {part : A → List Atom} {whole : B → List Atom} {front : List Atom} {rule : List Atom → Outcome C} {ts : List Atom} {left : ℕ} → Stops A C part [] rule ts left
    → PartOf A B part whole front → Stops B C whole front rule ts left
within s p = record {
  seen = s.seen;
  here = s.here;
  parts = s.parts;
  count = s.count;
  goes_on = begun p s.seen s.goes_on;
  stuck = s.stuck;
}

-- the first of two rules stops
pub first_stops : {A B C D : Type 0} {part : A → List Atom} {whole : B → List Atom} {front : List Atom} {rule : List Atom → Outcome C} (k : C → Outcome D) (ts : List Atom) (left : ℕ)
    → Stops A C part [] rule ts left → PartOf A B part whole front → Stops B D whole front (λ us. rule us >>= k) ts left
first_stops {rule} k ts left s p = record {
  seen = s.seen;
  here = s.here;
  parts = s.parts;
  count = s.count;
  goes_on = begun p s.seen s.goes_on;
  stuck = λ us h. stopped_on (rule (s.seen ++ us)) k (s.stuck us h);
}

-- a rule that makes a whole of what another one finds stops where that one does
pub made_of : {A B C D : Type 0} {part : A → List Atom} {whole : B → List Atom} {front : List Atom} {rule : List Atom → Outcome C} (k : C → Outcome D) (ts : List Atom) (left : ℕ)
    → Stops A C part front rule ts left → (made : A → B) → ((x : A) → whole (made x) ≡ part x) → Stops B D whole front (λ us. rule us >>= k) ts left
made_of {rule} k ts left s made same = record {
  seen = s.seen;
  here = s.here;
  parts = s.parts;
  count = s.count;
  goes_on = record { value = made s.goes_on.value; later = s.goes_on.later; spelled = same s.goes_on.value ∙ s.goes_on.spelled };
  stuck = λ us h. stopped_on (rule (s.seen ++ us)) k (s.stuck us h);
}

-- the second of two rules stops
pub second_stops : {B C D : Type 0} {whole : B → List Atom} {front : List Atom} (rule : List Atom → Outcome C) (k : C → Outcome D) (after : List Atom → C) (part ts rest : List Atom) (left : ℕ)
    → ts ≡ part ++ rest → ((us : List Atom) → StartAlike rest us → rule (part ++ us) ≡ Found (after us))
    → Stops B D whole (front ++ part) (λ us. k (after us)) rest left → Stops B D whole front (λ us. rule us >>= k) ts left
second_stops {D} {whole} {front} rule k after part ts rest left parts same s = record {
  seen = part ++ s.seen;
  here = s.here;
  parts = parts ∙ ap (λ (us : List Atom). part ++ us) s.parts ∙ sym (append_assoc part s.seen s.here);
  count = s.count;
  goes_on = shift whole front part s.seen s.goes_on;
  stuck = λ us h.
      let found = ap rule (append_assoc part s.seen us) ∙ same (s.seen ++ us) (alike_from rest s.seen s.here us s.parts h) in
      subst (λ (o : Outcome D). IsStopped o) (sym (ap (λ (o : Outcome _). o >>= k) found)) (s.stuck us h);
}

-- a rule that reads, and one behind it: either stops
pub behind : {A B D : Type 0} {rule : List Atom → Outcome (A × List Atom)} {part : A → List Atom} {whole : B → List Atom} {front : List Atom} (r : Reads A rule part) (k : A × List Atom → Outcome D)
    (ts : List Atom) (left : ℕ) → (rule ts >>= k) ≡ Stopped left → PartOf A B part whole front
    → ((x : A) (rest : List Atom) → rule ts ≡ Found (x, rest) → k (x, rest) ≡ Stopped left → Stops B D whole (front ++ part x) (λ us. k (x, us)) rest left)
    → Stops B D whole front (λ us. rule us >>= k) ts left
behind {A} {B} {D} {rule} {part} {whole} {front} r k ts left e p next = go (rule ts) refl e
  where
    go : (o : Outcome (A × List Atom)) → rule ts ≡ o → (o >>= k) ≡ Stopped left → Stops B D whole front (λ us. rule us >>= k) ts left
    go (Stopped n) f g =
        let same : n ≡ left = cc in
        first_stops k ts left (r.stops ts left (f ∙ ap (λ (m : ℕ). Stopped m) same)) p
    go (Found x) f g = second_stops rule k (λ us. (x.0, us)) (part x.0) ts x.1 left (r.takes ts x f) (r.same ts x f) (next x.0 x.1 f g)

-- one atom, and a rule behind it: either stops
pub behind_one : {B D : Type 0} {whole : B → List Atom} {front : List Atom} (rule : List Atom → Outcome (List Atom)) (is : Atom → Bool) (b : Atom) → rule [] ≡ Stopped 0
    → ((a : Atom) (rest : List Atom) → rule (a ∷ rest) ≡ cond (is a) (Found rest) (Stopped (length (a ∷ rest)))) → ((a : Atom) → is a ≡ true → a ≡ b)
    → (k : List Atom → Outcome D) (ts : List Atom) (left : ℕ) → (rule ts >>= k) ≡ Stopped left → Begins B whole front
    → ((rest : List Atom) → k rest ≡ Stopped left → Stops B D whole (front ++ b ∷ []) k rest left) → Stops B D whole front (λ us. rule us >>= k) ts left
behind_one rule is b none some only k [] left e begin next =
    let f : Stopped 0 ≡ Stopped left = sym (ap (λ (o : Outcome (List Atom)). o >>= k) none) ∙ e in
    at_once _ [] left (cc) begin (λ us h. stopped_on (rule us) k (is_stopped (rule us) 0 (ap rule h ∙ none)))
behind_one {D} rule is b none some only k (a ∷ rest) left e begin next =
    either (is a) (Found rest) (Stopped (length (a ∷ rest))) (rule (a ∷ rest)) (sym (some a rest)) (λ go f.
    let g : k rest ≡ Stopped left = ap (λ (o : Outcome (List Atom)). o >>= k) f ∙ e in
    let found : (us : List Atom) → rule (b ∷ us) ≡ Found us = λ us. ap (λ (c : Atom). rule (c ∷ us)) (sym (only a go)) ∙ some a us ∙ ap (λ (t : Bool). cond t (Found us) (Stopped (length (a ∷ us)))) go in
    second_stops rule k (λ us. us) (b ∷ []) (a ∷ rest) rest left (ap (λ (c : Atom). c ∷ rest) (only a go)) (λ us h. found us) (next rest g))
    (λ stop f.
    let g : Stopped (length (a ∷ rest)) ≡ Stopped left = ap (λ (o : Outcome (List Atom)). o >>= k) f ∙ e in
    at_once _ (a ∷ rest) left (cc) begin (λ us h. stopped_on (rule us) k (is_stopped (rule us) (length (a ∷ h.0)) (ap rule h.1 ∙ some a h.0 ∙ ap (λ (t : Bool). cond t (Found h.0) (Stopped (length (a ∷ h.0)))) stop))))

-- ---- rules by what stands first

-- two rules that do the same where a list begins so
pub as_if : {B D : Type 0} {whole : B → List Atom} {front : List Atom} {other : List Atom → Outcome D} (rule : List Atom → Outcome D) (ts : List Atom) (left : ℕ)
    → ((us : List Atom) → StartAlike ts us → rule us ≡ other us) → Stops B D whole front other ts left → Stops B D whole front rule ts left
as_if {D} rule ts left same s = record {
  seen = s.seen;
  here = s.here;
  parts = s.parts;
  count = s.count;
  goes_on = s.goes_on;
  stuck = λ us h. subst (λ (o : Outcome D). IsStopped o) (sym (same (s.seen ++ us) (alike_from ts s.seen s.here us s.parts h))) (s.stuck us h);
}

-- two rules under a test
pub by_test : {B D : Type 0} {whole : B → List Atom} {front : List Atom} (test : List Atom → Bool) (one other : List Atom → Outcome D) (ts : List Atom) (left : ℕ) → ByFirst test
    → cond (test ts) (one ts) (other ts) ≡ Stopped left → (test ts ≡ true → one ts ≡ Stopped left → Stops B D whole front one ts left)
    → (test ts ≡ false → other ts ≡ Stopped left → Stops B D whole front other ts left) → Stops B D whole front (λ us. cond (test us) (one us) (other us)) ts left
by_test test one other ts left first e holds fails =
    either (test ts) (one ts) (other ts) (Stopped left) e
    (λ go f. as_if _ ts left (λ us h. ap (λ (t : Bool). cond t (one us) (other us)) (sym (first ts us h) ∙ go)) (holds go f))
    (λ stop f. as_if _ ts left (λ us h. ap (λ (t : Bool). cond t (one us) (other us)) (sym (first ts us h) ∙ stop)) (fails stop f))
