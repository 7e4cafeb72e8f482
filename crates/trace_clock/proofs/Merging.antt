-- Lists of numbers merged in order: they keep all numbers, and rise where no number is in both.
use Rattle.std.proofs.Common.{◌≡◌, ◌≢◌, ℕ, zero, suc, ◌+◌, ◌<◌, ◌≤◌, Bool, true, false, eqb, ltb, cond, if◌then◌else◌, flat_map, List, [], ◌∷◌, ◌++◌, refl, ⊎_elim, ltb-true, ltb-false, arith}
use Rattle.std.proofs.lemmas.List.Elements.{All-cons, All-head, All-tail, All-nil, All-weaker}
use Rattle.std.proofs.lemmas.List.Sums.{sum_by-cons, sum_by-append}
use Rattle.std.specs.List.{All}
use Rattle.trace_clock.specs.History.{AllBelow, Rises, times, placed, merged}
use Rattle.trace_clock.proofs.Totals.{is_once, once_same, same_or_other}

either_way : (b : Bool) (F : List ℕ → Type 0) (xs ys : List ℕ) → (b ≡ true → F xs) → (b ≡ false → F ys) → F (if b then xs else ys)
either_way true F xs ys first second = first refl
either_way false F xs ys first second = second refl

pub times_cons : (x y : ℕ) (ys : List ℕ) → times x (y ∷ ys) ≡ is_once y x + times x ys
times_cons x y ys = sum_by-cons (λ z. cond (eqb z x) 1 0) y ys

pub times-append : (x : ℕ) (xs ys : List ℕ) → times x (xs ++ ys) ≡ times x xs + times x ys
times-append x xs ys = sum_by-append (λ z. cond (eqb z x) 1 0) xs ys

times_placed : (x n : ℕ) (xs : List ℕ) → times x (placed n xs) ≡ times x xs + is_once n x
times_placed x n [] = let a = times_cons x n [] in omega (arith, a)
times_placed x n (y ∷ ys) = either_way (ltb n y) (λ zs. times x zs ≡ times x (y ∷ ys) + is_once n x) (n ∷ y ∷ ys) (y ∷ placed n ys)
    (λ e. let a = times_cons x n (y ∷ ys) in omega (arith, a))
    (λ e. let a = times_cons x y (placed n ys) in let b = times_placed x n ys in let c = times_cons x y ys in omega (arith, a, b, c))

pub times_merged : (x : ℕ) (xs ys : List ℕ) → times x (merged xs ys) ≡ times x xs + times x ys
times_merged x xs [] = omega arith
times_merged x xs (y ∷ ys) =
    let a = times_placed x y (merged xs ys) in let b = times_merged x xs ys in let c = times_cons x y ys in
    omega (arith, a, b, c)

all_placed : (P : ℕ → Type 0) (n : ℕ) (xs : List ℕ) → P n → All P xs → All P (placed n xs)
all_placed P n [] here all = All-cons P n [] here (All-nil P)
all_placed P n (x ∷ xs) here all = either_way (ltb n x) (All P) (n ∷ x ∷ xs) (x ∷ placed n xs)
    (λ e. All-cons P n (x ∷ xs) here all)
    (λ e. All-cons P x (placed n xs) (All-head P x xs all) (all_placed P n xs here (All-tail P x xs all)))

pub all_merged : (P : ℕ → Type 0) (xs ys : List ℕ) → All P xs → All P ys → All P (merged xs ys)
all_merged P xs [] a b = a
all_merged P xs (y ∷ ys) a b = all_placed P y (merged xs ys) (All-head P y ys b) (all_merged P xs ys a (All-tail P y ys b))

rises_cons : (x : ℕ) (xs : List ℕ) → All (λ y. x < y) xs → Rises xs → Rises (x ∷ xs)
rises_cons x xs above h zero zero d lt under = absurd (omega (arith, lt))
rises_cons x xs above h zero (suc j) d lt under = above j d (omega (arith, under))
rises_cons x xs above h (suc i) zero d lt under = absurd (omega (arith, lt))
rises_cons x xs above h (suc i) (suc j) d lt under = h i j d (omega (arith, lt)) (omega (arith, under))

rises_head : (x : ℕ) (xs : List ℕ) → Rises (x ∷ xs) → All (λ y. x < y) xs
rises_head x xs h k d lt = h 0 (suc k) d (omega arith) (omega (arith, lt))

rises_tail : (x : ℕ) (xs : List ℕ) → Rises (x ∷ xs) → Rises xs
rises_tail x xs h i j d lt under = h (suc i) (suc j) d (omega (arith, lt)) (omega (arith, under))

pub none_rise : Rises []
none_rise i j d lt under = absurd (omega (arith, under))

rises_placed : (n : ℕ) (xs : List ℕ) → Rises xs → times n xs ≡ 0 → Rises (placed n xs)
rises_placed n [] h none = rises_cons n [] (All-nil (λ y. n < y)) none_rise
rises_placed n (x ∷ xs) h none = either_way (ltb n x) Rises (n ∷ x ∷ xs) (x ∷ placed n xs)
    (λ e. let lt : n < x = ltb-true n x e in
    rises_cons n (x ∷ xs) (All-cons (λ y. n < y) x xs lt (All-weaker (λ y. x < y) (λ y. n < y) (λ y l. omega (arith, l, lt)) xs (rises_head x xs h))) h)
    (λ e. let le : x ≤ n = ltb-false n x e in
    let c = times_cons n x xs in
    let lt : x < n = ⊎_elim (λ (t : (x ≡ n) × (is_once x n ≡ 1)). absurd (omega (arith, t.1, c, none))) (λ (t : (x ≢ n) × (is_once x n ≡ 0)). let ne = t.0 in omega (arith, ne, le)) (same_or_other x n) in
    rises_cons x (placed n xs) (all_placed (λ y. x < y) n xs lt (rises_head x xs h)) (rises_placed n xs (rises_tail x xs h) (omega (arith, c, none))))

-- where no number stands twice in both together
pub rises_merged : (xs ys : List ℕ) → Rises xs → ((x : ℕ) → times x xs + times x ys ≤ 1) → Rises (merged xs ys)
rises_merged xs [] h apart = h
rises_merged xs (y ∷ ys) h apart = rises_placed y (merged xs ys)
    (rises_merged xs ys h (λ x. let a = apart x in let c = times_cons x y ys in omega (arith, a, c)))
    (let a = apart y in let c = times_cons y y ys in let m = times_merged y xs ys in let s = once_same y y refl in omega (arith, a, c, m, s))

-- the last of some numbers
pub below_last : (n : ℕ) (xs ys : List ℕ) → AllBelow n (xs ++ ys) → AllBelow n ys
below_last n [] ys h = h
below_last n (x ∷ xs) ys h = below_last n xs ys (All-tail (λ y. y < n) x (xs ++ ys) h)

pub times_flat_push : {X : Type 0} (x : ℕ) (f : X → List ℕ) (ys : List X) (y : X) → times x (flat_map f (ys ++ y ∷ [])) ≡ times x (flat_map f ys) + times x (f y)
times_flat_push x f [] y = let a = times-append x (f y) [] in omega (arith, a)
times_flat_push x f (z ∷ ys) y =
    let a = times-append x (f z) (flat_map f (ys ++ y ∷ [])) in
    let b = times-append x (f z) (flat_map f ys) in
    let c = times_flat_push x f ys y in
    omega (arith, a, b, c)
