-- Lists of what is known at each index.
use Rattle.std.proofs.Common.{◌≡◌, ℕ, zero, suc, ◌+◌, ◌<◌, List, [], ◌∷◌, ◌++◌, length, take, get_or, Some, None, refl, ap, sym, subst, ◌∙◌, arith}
use Rattle.std.specs.Prelude.{slice_get}
use Rattle.std.specs.List.{AllZip}
use Rattle.std.proofs.lemmas.List.{take_more}
use Rattle.std.proofs.lemmas.Option.{none-some, same_Some}

-- for each element what a function says of its index
abbrev pub listed : {A B : Type 0} → (ℕ → B) → List A → List B
listed f [] = []
listed f (x ∷ xs) = f 0 ∷ listed (λ i. f (suc i)) xs

pub length_listed : {A B : Type 0} (f : ℕ → B) (xs : List A) → length (listed f xs) ≡ length xs
length_listed f [] = refl
length_listed f (x ∷ xs) = ap suc (length_listed (λ i. f (suc i)) xs)

pub at_listed : {A B : Type 0} (f : ℕ → B) (xs : List A) (i : ℕ) (x : A) → slice_get xs i ≡ Some x → slice_get (listed f xs) i ≡ Some (f i)
at_listed f [] i x e = absurd (none-some x e)
at_listed f (y ∷ xs) zero x e = refl
at_listed f (y ∷ xs) (suc i) x e = at_listed (λ i. f (suc i)) xs i x e

pub zip_listed : {A B : Type 0} (R : A → B → Type 0) (f : ℕ → B) (xs : List A) → ((i : ℕ) (x : A) → slice_get xs i ≡ Some x → R x (f i)) → AllZip R xs (listed f xs)
zip_listed R f [] h = tt
zip_listed R f (x ∷ xs) h = (h 0 x refl, zip_listed R (λ i. f (suc i)) xs (λ i y e. h (suc i) y e))

-- the other way: what stands beside an element
pub zip_at : {A B : Type 0} (R : A → B → Type 0) (xs : List A) (ys : List B) (i : ℕ) (x : A) → AllZip R xs ys → slice_get xs i ≡ Some x → (y : B) × (slice_get ys i ≡ Some y) × R x y
zip_at R [] ys i x z e = absurd (none-some x e)
zip_at R (w ∷ xs) [] i x z e = absurd z
zip_at R (w ∷ xs) (y ∷ ys) zero x z e = (y, refl, subst (λ v. R v y) (same_Some w x e) z.0)
zip_at R (w ∷ xs) (y ∷ ys) (suc i) x z e = zip_at R xs ys i x z.1 e

pub zip_length : {A B : Type 0} (R : A → B → Type 0) (xs : List A) (ys : List B) → AllZip R xs ys → length ys ≡ length xs
zip_length R [] [] z = refl
zip_length R [] (y ∷ ys) z = absurd z
zip_length R (x ∷ xs) [] z = absurd z
zip_length R (x ∷ xs) (y ∷ ys) z = ap suc (zip_length R xs ys z.1)

-- where each holds beside its own, all do
pub zip_each : {A B : Type 0} (R : A → B → Type 0) (xs : List A) (ys : List B) → length ys ≡ length xs
    → ((i : ℕ) (x : A) (y : B) → slice_get xs i ≡ Some x → slice_get ys i ≡ Some y → R x y) → AllZip R xs ys
zip_each R [] [] e h = tt
zip_each R [] (y ∷ ys) e h = absurd (omega (arith, e))
zip_each R (x ∷ xs) [] e h = absurd (omega (arith, e))
zip_each R (x ∷ xs) (y ∷ ys) e h = (h 0 x y refl refl, zip_each R xs ys (omega (arith, e)) (λ i v w p q. h (suc i) v w p q))

-- one more element of both
pub zip_push : {A B : Type 0} (R : A → B → Type 0) (xs : List A) (ys : List B) (x : A) (y : B) → AllZip R xs ys → R x y → AllZip R (xs ++ x ∷ []) (ys ++ y ∷ [])
zip_push R [] [] x y z r = (r, tt)
zip_push R [] (w ∷ ys) x y z r = absurd z
zip_push R (v ∷ xs) [] x y z r = absurd z
zip_push R (v ∷ xs) (w ∷ ys) x y z r = (z.0, zip_push R xs ys x y z.1 r)

-- the next element of a list, beside one more
pub zip_more : {A B : Type 0} (R : A → B → Type 0) (xs : List A) (ys : List B) (i : ℕ) (x : A) (y : B) → i < length xs → x ≡ get_or xs i x → AllZip R (take i xs) ys → R x y
    → AllZip R (take (i + 1) xs) (ys ++ y ∷ [])
zip_more R xs ys i x y l is z r =
    subst (λ (w : List _). AllZip R w (ys ++ y ∷ [])) (ap (λ v. take i xs ++ v ∷ []) is ∙ sym (take_more xs i x l)) (zip_push R (take i xs) ys x y z r)

-- as long lists have an element where the other has one
pub beside : {A B : Type 0} (xs : List A) (ys : List B) (i : ℕ) (x : A) → length ys ≡ length xs → slice_get xs i ≡ Some x → (y : B) × (slice_get ys i ≡ Some y)
beside [] ys i x l e = absurd (none-some x e)
beside (w ∷ xs) [] i x l e = absurd (omega (arith, l))
beside (w ∷ xs) (y ∷ ys) zero x l e = (y, refl)
beside (w ∷ xs) (y ∷ ys) (suc i) x l e = beside xs ys i x (omega (arith, l)) e

-- and none where it has none
pub none_beside : {A B : Type 0} (xs : List A) (ys : List B) (i : ℕ) → length ys ≡ length xs → slice_get xs i ≡ None → slice_get ys i ≡ None
none_beside [] [] i l e = refl
none_beside [] (y ∷ ys) i l e = absurd (omega (arith, l))
none_beside (x ∷ xs) [] i l e = refl
none_beside (x ∷ xs) (y ∷ ys) zero l e = absurd (none-some x (sym e))
none_beside (x ∷ xs) (y ∷ ys) (suc i) l e = none_beside xs ys i (omega (arith, l)) e
