-- From a case that was met back to the cases of its parts.
use Rattle.std.proofs.Common.{◌≡◌, ℕ, ◌<◌, Bool, true, false, ltb, eqb, List, [], ◌∷◌, Option, Some, None, refl, sym, ap, subst, ◌∙◌, arith, inl, inr, option_map}
use Rattle.std.specs.List.{AllByRecursion}
use Rattle.std.proofs.{lemmas.Bool.{cases_Bool, ltb-true}, lemmas.Bool.Decides.nat_tests, lemmas.Option.same_Some}
use Rattle.tsdl_grammar.specs.Steps.{◌>>=◌, provided, each, insert_numbered, by_number}
use Rattle.tsdl_grammar.specs.Laws.{NumbersRise}

-- a step that has a case had one for its part
pub bind_some : {A B : Type 0} (o : Option A) (f : A → Option B) (y : B) → (o >>= f) ≡ Some y → (x : A) × (o ≡ Some x) × (f x ≡ Some y)
bind_some (Some x) f y e = (x, refl, e)
bind_some None f y e = absurd cc

-- a test under which there is a case holds
pub provided_some : {A : Type 0} (b : Bool) (o : Option A) (y : A) → provided b o ≡ Some y → (b ≡ true) × (o ≡ Some y)
provided_some true o y e = (refl, e)
provided_some false o y e = absurd cc

pub some_same : {A : Type 0} (x y : A) (o : Option A) → o ≡ Some x → o ≡ Some y → x ≡ y
some_same x y o p q = cc

-- a step whose parts have cases has one
pub bind_is : {A B : Type 0} (o : Option A) (f : A → Option B) (x : A) (y : B) → o ≡ Some x → f x ≡ Some y → (o >>= f) ≡ Some y
bind_is (Some z) f x y p q = ap f (same_Some z x p) ∙ q
bind_is None f x y p q = absurd cc

pub map_some : {A B : Type 0} (f : A → B) (o : Option A) (y : B) → option_map f o ≡ Some y → (x : A) × (o ≡ Some x) × (f x ≡ y)
map_some f (Some x) y e = (x, refl, cc)
map_some f None y e = absurd cc

-- the first of the items has a number above n
abbrev pub StartsAbove : {A : Type 0} → (A → ℕ) → ℕ → List A → Type 0
StartsAbove number n [] = Unit {0}
StartsAbove number n (x ∷ xs) = n < number x

rise-cons : {A : Type 0} (number : A → ℕ) (x : A) (xs : List A) → StartsAbove number (number x) xs → NumbersRise number xs → NumbersRise number (x ∷ xs)
rise-cons number x [] s r = tt
rise-cons number x (y ∷ xs) s r = (s, r)

rise-tail : {A : Type 0} (number : A → ℕ) (x : A) (xs : List A) → NumbersRise number (x ∷ xs) → StartsAbove number (number x) xs × NumbersRise number xs
rise-tail number x [] r = (tt, tt)
rise-tail number x (y ∷ xs) r = (r.0, r.1)

-- an insertion keeps the order, and what stood above still does
insert_rises : {A : Type 0} (number : A → ℕ) (x : A) (xs ys : List A) → NumbersRise number xs → insert_numbered number x xs ≡ Some ys
    → NumbersRise number ys × ((n : ℕ) → n < number x → StartsAbove number n xs → StartsAbove number n ys)
insert_rises number x [] ys r e =
    subst (λ (zs : List _). NumbersRise number zs × ((n : ℕ) → n < number x → Unit {0} → StartsAbove number n zs)) (same_Some (x ∷ []) ys e) (tt, λ n lt s. lt)
insert_rises {A} number x (y ∷ xs) ys r e =
    elim (cases_Bool (ltb (number x) (number y))) [
      | inl t ↦ (let f : Some (x ∷ y ∷ xs) ≡ Some ys = sym (rw t refl) ∙ e in
          subst (λ (zs : List A). NumbersRise number zs × ((n : ℕ) → n < number x → n < number y → StartsAbove number n zs))
          (same_Some (x ∷ y ∷ xs) ys f) ((ltb-true (number x) (number y) t, r), λ n lt s. lt))
      | inr t ↦ elim (cases_Bool (eqb (number x) (number y))) [
        | inl q ↦ absurd (let f : None ≡ Some ys = sym (rw (t, q) refl) ∙ e in cc)
        | inr q ↦ (let f : option_map (λ zs. y ∷ zs) (insert_numbered number x xs) ≡ Some ys = sym (rw (t, q) refl) ∙ e in
            let g = map_some (λ zs. y ∷ zs) (insert_numbered number x xs) ys f in
            let tail = rise-tail number y xs r in
            let below : number y < number x = grind (arith, nat_tests) in
            let inner = insert_rises number x xs g.0 tail.1 g.1 in
            subst (λ (zs : List A). NumbersRise number zs × ((n : ℕ) → n < number x → n < number y → StartsAbove number n zs))
            g.2 (rise-cons number y g.0 (inner.1 (number y) below tail.0) inner.0, λ n lt s. s))
      ]
    ]

-- items by number have numbers that rise
pub by_number-rises : {A : Type 0} (number : A → ℕ) (xs ys : List A) → by_number number xs ≡ Some ys → NumbersRise number ys
by_number-rises {A} number [] ys e = subst (λ (zs : List A). NumbersRise number zs) (same_Some [] ys e) tt
by_number-rises number (x ∷ xs) ys e =
    let a = bind_some (by_number number xs) (λ zs. insert_numbered number x zs) ys e in
    (insert_rises number x a.0 ys (by_number-rises number xs a.0 a.1) a.2).0

-- what is made of each item keeps the numbers
pub each-rises : {A B : Type 0} (f : A → Option B) (before : A → ℕ) (after : B → ℕ) → ((x : A) (y : B) → f x ≡ Some y → after y ≡ before x)
    → (xs : List A) (ys : List B) → each f xs ≡ Some ys → NumbersRise before xs → NumbersRise after ys × ((n : ℕ) → StartsAbove before n xs → StartsAbove after n ys)
each-rises {A} {B} f before after same [] ys e r =
    subst (λ (zs : List B). NumbersRise after zs × ((n : ℕ) → Unit {0} → StartsAbove after n zs)) (same_Some [] ys e) (tt, λ n s. s)
each-rises {A} {B} f before after same (x ∷ xs) ys e r =
    let a = bind_some (f x) (λ y. each f xs >>= λ zs. Some (y ∷ zs)) ys e in
    let b = bind_some (each f xs) (λ zs. Some (a.0 ∷ zs)) ys a.2 in
    let k = same x a.0 a.1 in
    let tail = rise-tail before x xs r in
    let inner = each-rises f before after same xs b.0 b.1 tail.1 in
    let starts : StartsAbove after (after a.0) b.0 = rw k (inner.1 (before x) tail.0) in
    subst (λ (zs : List B). NumbersRise after zs × ((n : ℕ) → n < before x → StartsAbove after n zs))
    (same_Some (a.0 ∷ b.0) ys b.2) (rise-cons after a.0 b.0 starts inner.0, λ n s. rw k s)

-- a fact of what is made of each item
pub each-all : {A B : Type 0} (f : A → Option B) (P : B → Type 0) → ((x : A) (y : B) → f x ≡ Some y → P y) → (xs : List A) (ys : List B) → each f xs ≡ Some ys → AllByRecursion P ys
each-all {A} {B} f P h [] ys e = subst (λ (zs : List B). AllByRecursion P zs) (same_Some [] ys e) tt
each-all {A} {B} f P h (x ∷ xs) ys e =
    let a = bind_some (f x) (λ y. each f xs >>= λ zs. Some (y ∷ zs)) ys e in
    let b = bind_some (each f xs) (λ zs. Some (a.0 ∷ zs)) ys a.2 in
    subst (λ (zs : List B). AllByRecursion P zs) (same_Some (a.0 ∷ b.0) ys b.2) (h x a.0 a.1, each-all f P h xs b.0 b.1)
