-- One text said behind another, and what a fault leaves.
use Rattle.std.proofs.Common.{◌≡◌, ℕ, ◌≤◌, List, [], ◌++◌, length, length-append, length-drop, take, drop, Option, None, Some, arith, refl, sym, ap, subst, ◌∙◌, append_assoc, inl, inr}
use Rattle.std.proofs.KnownBytes.{Appends-nil, Appends-trans}
use Rattle.std.proofs.lemmas.List.{append-nil, take-append-le, drop-append-le, take_all, drop_all}
use Rattle.std.specs.Prelude.{◌⊎◌}
use Rattle.trace_platform.proofs.Fronts.{Advances-trans}
use Rattle.std.specs.Io.KnownBytes.{Appends}
use Rattle.trace_platform.specs.Fronts.{AppendsFront, AppendsLess, Advances}
use Rattle.trace_text.specs.declared.printing_page.Page.{Page}
use Rattle.trace_text.specs.declared.printing_fault.PrintFault.{PrintFault}
use Rattle.trace_text.specs.declared.printing_fault.PrintFault.TheVariants.{Writer}
use Rattle.trace_text.specs.PrintedPages.{IsOpen, Says}

-- ---- fronts

-- a front is one of a longer text, and what is left is longer by the same
further : (a b : Option (List ℕ)) (x left u : List ℕ) → Advances a b x left → Advances a b (x ++ u) (left ++ u)
further a b x left u p = record {
  count = p.count;
  within = omega (arith, p.within, length-append x u);
  written = subst (λ (l : List ℕ). Appends a b l) (sym (take-append-le p.count x u p.within)) p.written;
  left_is = ap (λ (l : List ℕ). l ++ u) p.left_is ∙ sym (drop-append-le p.count x u p.within);
}

go_on : (a b c : Option (List ℕ)) (x left u rest : List ℕ) → Advances a b x left → Advances b c (left ++ u) rest → Advances a c (x ++ u) rest
go_on a b c x left u rest p q = Advances-trans a b c (x ++ u) (left ++ u) rest (further a b x left u p) q

front_more : (a b c : Option (List ℕ)) (x left : List ℕ) → Advances a b x left → AppendsFront b c left → AppendsFront a c x
front_more a b c x left p q =
    let next : Advances b c left (drop q.0 left) = record { count = q.0; within = q.1; written = q.2; left_is = refl } in
    let both = Advances-trans a b c x left (drop q.0 left) p next in
    (both.count, both.within, both.written)

pub front_longer : (a b : Option (List ℕ)) (x u : List ℕ) → AppendsFront a b x → AppendsFront a b (x ++ u)
front_longer a b x u p =
    (p.0, omega (arith, p.1, length-append x u), subst (λ (l : List ℕ). Appends a b l) (sym (take-append-le p.0 x u p.1)) p.2)

front_stays : (a b c : Option (List ℕ)) (x : List ℕ) → AppendsFront a b x → Appends b c [] → AppendsFront a c x
front_stays a b c x p q =
    (p.0, p.1, subst (λ (l : List ℕ). Appends a c l) (append-nil (take p.0 x)) (Appends-trans a b c (take p.0 x) [] p.2 q))

-- and of a front that is not all

less_more : (a b c : Option (List ℕ)) (x left : List ℕ) → Advances a b x left → AppendsLess b c left → AppendsLess a c x
less_more a b c x left p q =
    let next : Advances b c left (drop q.0 left) = record { count = q.0; within = omega (arith, q.1); written = q.2; left_is = refl } in
    let both = Advances-trans a b c x left (drop q.0 left) p next in
    (both.count, omega (arith, q.1, length-drop q.0 left, length-drop both.count x, ap (λ (l : List ℕ). length l) both.left_is), both.written)

pub less_longer : (a b : Option (List ℕ)) (x u : List ℕ) → AppendsLess a b x → AppendsLess a b (x ++ u)
less_longer a b x u p =
    let within : p.0 ≤ length x = omega (arith, p.1) in
    (p.0, omega (arith, p.1, length-append x u), subst (λ (l : List ℕ). Appends a b l) (sym (take-append-le p.0 x u within)) p.2)

less_stays : (a b c : Option (List ℕ)) (x : List ℕ) → AppendsLess a b x → Appends b c [] → AppendsLess a c x
less_stays a b c x p q =
    (p.0, p.1, subst (λ (l : List ℕ). Appends a c l) (append-nil (take p.0 x)) (Appends-trans a b c (take p.0 x) [] p.2 q))

-- ---- a fault or none

abbrev IsNone : Option PrintFault → Type 0
IsNone None = Unit {0}
IsNone (Some fault) = ⊥

none_or : (o : Option PrintFault) → (o ≡ None) ⊎ ((fault : PrintFault) × (o ≡ Some fault))
none_or None = inl refl
none_or (Some fault) = inr (fault, refl)

pub never : {X : Type 0} (o : Option PrintFault) (fault : PrintFault) → o ≡ None → o ≡ Some fault → X
never o fault e f = absurd (subst (λ (v : Option PrintFault). IsNone v) f (subst (λ (v : Option PrintFault). IsNone v) (sym e) tt))

pub open_before : {a b : Option (List ℕ)} {p q : Page} {t : List ℕ} → Says a p b q t → IsOpen q → IsOpen p
open_before {a} {b} {p} {q} s o = elim (none_or p.fault) [
  | inl e ↦ e
  | inr h ↦ never q.fault h.0 o (s.stays h.0 h.1).0
]

-- ---- texts

-- the same text, in other words
pub said : {a b : Option (List ℕ)} {p q : Page} {t : List ℕ} (u : List ℕ) → t ≡ u → Says a p b q t → Says a p b q u
said {a} {b} {p} {q} u e s = subst (λ (v : List ℕ). Says a p b q v) e s

-- nothing is said
pub nothing : (a : Option (List ℕ)) (p : Page) → Says a p a p []
nothing a p = record {
  told = λ o. record { count = 0; within = omega arith; written = Appends-nil a; left_is = sym (append-nil p.bytes) };
  front = λ o. (0, omega arith, Appends-nil a);
  less = λ o e. never p.fault Writer o e;
  stays = λ fault e. (e, Appends-nil a);
}

-- a text that is put on the page
pub put_there : (a : Option (List ℕ)) (p q : Page) (t : List ℕ) → q.bytes ≡ p.bytes ++ t → q.fault ≡ p.fault → Says a p a q t
put_there a p q t e f = record {
  told = λ o. record { count = 0; within = omega arith; written = Appends-nil a; left_is = e };
  front = λ o. (0, omega arith, Appends-nil a);
  less = λ o w. never q.fault Writer (f ∙ o) w;
  stays = λ fault g. (f ∙ g, Appends-nil a);
}

-- two texts
pub more : {a b c : Option (List ℕ)} {p q r : Page} {t u : List ℕ} → Says a p b q t → Says b q c r u → Says a p c r (t ++ u)
more {a} {b} {c} {p} {q} {r} {t} {u} s v = record {
  told = λ o. subst (λ (w : List ℕ). Advances a c w r.bytes) (append_assoc p.bytes t u)
      (go_on a b c (p.bytes ++ t) q.bytes u r.bytes (s.told (open_before v o)) (v.told o));
  front = λ o. subst (λ (w : List ℕ). AppendsFront a c w) (append_assoc p.bytes t u) (elim (none_or q.fault) [
    | inl e ↦ front_more a b c (p.bytes ++ t ++ u) (q.bytes ++ u) (further a b (p.bytes ++ t) q.bytes u (s.told e)) (v.front e)
    | inr h ↦ front_longer a c (p.bytes ++ t) u (front_stays a b c (p.bytes ++ t) (s.front o) (v.stays h.0 h.1).1)
  ]);
  less = λ o e. subst (λ (w : List ℕ). AppendsLess a c w) (append_assoc p.bytes t u) (elim (none_or q.fault) [
    | inl f ↦ less_more a b c (p.bytes ++ t ++ u) (q.bytes ++ u) (further a b (p.bytes ++ t) q.bytes u (s.told f)) (v.less f e)
    | inr h ↦ less_longer a c (p.bytes ++ t) u
        (less_stays a b c (p.bytes ++ t) (s.less o (h.1 ∙ sym (v.stays h.0 h.1).0 ∙ e)) (v.stays h.0 h.1).1)
  ]);
  stays = λ fault e. ((v.stays fault (s.stays fault e).0).0, Appends-trans a b c [] [] (s.stays fault e).1 (v.stays fault (s.stays fault e).0).1);
}

-- ---- what is said at once

-- all that the page held and what is said behind it is written at once
pub written_all : (a b : Option (List ℕ)) (p q : Page) (t all : List ℕ) → all ≡ p.bytes ++ t → (IsOpen q → Appends a b all) → (IsOpen p → AppendsFront a b all)
    → (IsOpen p → q.fault ≡ Some Writer → AppendsLess a b all)
    → ((fault : PrintFault) → p.fault ≡ Some fault → (q.fault ≡ Some fault) × Appends a b []) → q.bytes ≡ [] → Says a p b q t
written_all a b p q t all e whole front less stays empty = record {
  told = λ o. record {
    count = length (p.bytes ++ t);
    within = omega arith;
    written = subst (λ (l : List ℕ). Appends a b l) (e ∙ sym (take_all (length (p.bytes ++ t)) (p.bytes ++ t) (omega arith))) (whole o);
    left_is = empty ∙ sym (drop_all (length (p.bytes ++ t)) (p.bytes ++ t) (omega arith));
  };
  front = λ o. subst (λ (l : List ℕ). AppendsFront a b l) e (front o);
  less = λ o f. subst (λ (l : List ℕ). AppendsLess a b l) e (less o f);
  stays = stays;
}

-- ---- from an empty page to an empty page

-- all that was said is written
pub written_out : {a b : Option (List ℕ)} {p q : Page} {t : List ℕ} → Says a p b q t → p.bytes ≡ [] → q.bytes ≡ [] → IsOpen q → Appends a b t
written_out {a} {b} {p} {q} {t} s e f o =
    let x : List ℕ = p.bytes ++ t in
    let w = s.told o in
    let all : length x ≤ w.count = omega (arith, length-drop w.count x, ap (λ (l : List ℕ). length l) w.left_is, ap (λ (l : List ℕ). length l) f) in
    subst (λ (l : List ℕ). Appends a b l) (take_all w.count x all ∙ ap (λ (l : List ℕ). l ++ t) e) w.written

-- a front of it is written
pub front_out : {a b : Option (List ℕ)} {p q : Page} {t : List ℕ} → Says a p b q t → p.bytes ≡ [] → IsOpen p → AppendsFront a b t
front_out {a} {b} {p} {q} {t} s e o = subst (λ (l : List ℕ). AppendsFront a b l) (ap (λ (l : List ℕ). l ++ t) e) (s.front o)

-- and where the fault is the writer's, not all of it
pub less_out : {a b : Option (List ℕ)} {p q : Page} {t : List ℕ} → Says a p b q t → p.bytes ≡ [] → IsOpen p → q.fault ≡ Some Writer → AppendsLess a b t
less_out {a} {b} {p} {q} {t} s e o f = subst (λ (l : List ℕ). AppendsLess a b l) (ap (λ (l : List ℕ). l ++ t) e) (s.less o f)
