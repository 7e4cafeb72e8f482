-- What is made of each item of a list, one item after the other, and whether a test holds of what is made.
use Rattle.std.proofs.Common.{◌≡◌, ℕ, ◌+◌, ◌-◌, ◌≤◌, ◌<◌, List, ◌∷◌, ◌++◌, map, length, take, drop, get_or, Option, Some, None, refl, sym, ap, ◌∙◌, subst, append_assoc, arith, Bool, ◌&&◌, ◌||◌, []}
use Rattle.std.proofs.Math.Seq.{take-length}
use Rattle.std.proofs.lemmas.List.Folds.{list_any-append}
use Rattle.tsdl_meaning.proofs.TextWords.{each, flat_map, take_more, with_front, map-append, ◌>>=◌, bytes_eq, list_all, list_any, same_words}
use Rattle.std.specs.List.{zip}

-- one more item at the front's end
front_more : {A : Type 0} (front : List A) (y : A) (o : Option (List A)) → with_front (front ++ y ∷ []) o ≡ with_front front (o >>= λ ys. Some (y ∷ ys))
front_more front y None = refl
front_more front y (Some ys) = ap (λ (xs : List _). Some xs) (append_assoc front (y ∷ []) ys)

pub each_more : {A B : Type 0} (f : A → Option B) (front : List B) (x : A) (xs : List A) (y : B) → f x ≡ Some y → with_front (front ++ y ∷ []) (each f xs) ≡ with_front front (each f (x ∷ xs))
each_more f front x xs y e = rw e (front_more front y (each f xs))

whole : {A : Type 0} (xs : List A) (n : ℕ) → n ≡ length xs → take n xs ≡ xs
whole xs n e = ap (λ (k : ℕ). take k xs) e ∙ take-length xs

-- the first item of a list has one part, of which something is made
pub made_part : {A P B : Type 0} (part : A → List P) (f : P → Option B) (front new : List B) (rest : List A) (x : A) (p : P) (y : B) (all : Option (List B)) (n : ℕ)
    → 1 ≤ length rest → x ≡ get_or rest 0 x → part x ≡ p ∷ [] → f p ≡ Some y → new ≡ front ++ y ∷ [] → n ≡ length rest - 1 → with_front front (each f (flat_map part rest)) ≡ all
    → with_front new (each f (flat_map part (take n (drop 1 rest)))) ≡ all
made_part part f front new [] x p y all n len is has makes adds count h = absurd (omega arith)
made_part part f front new (z ∷ rest) x p y all n len is has makes adds count h =
    ap (λ (ns : List _). with_front ns (each f (flat_map part (take n rest)))) adds
    ∙ ap (λ (zs : List _). with_front (front ++ y ∷ []) (each f (flat_map part zs))) (whole rest n (omega arith))
    ∙ each_more f front p (flat_map part rest) y makes
    ∙ ap (λ (ps : List _). with_front front (each f (ps ++ flat_map part rest))) (sym has ∙ ap part is) ∙ h

-- what holds of the items up to one and of that one holds of the items up to the next
pub next_item : {A : Type 0} (P : List A → Type 0) (xs : List A) (i : ℕ) (x : A) → i < length xs → x ≡ get_or xs i x → P (take i xs ++ x ∷ []) → P (take (i + 1) xs)
next_item {A} P xs i x h is = subst P (sym (take_more xs i x h ∙ ap (λ (y : A). take i xs ++ y ∷ []) (sym is)))

-- what is made of the items up to one, with what is made of that one
pub made_up_to : {A B : Type 0} (f : A → B) (xs : List A) (i : ℕ) (x : A) (old new : List B) → i < length xs → x ≡ get_or xs i x → old ≡ map f (take i xs) → new ≡ old ++ f x ∷ []
    → new ≡ map f (take (i + 1) xs)
made_up_to {A} f xs i x old new h is made adds =
    next_item (λ (l : List A). new ≡ map f l) xs i x h is (adds ∙ ap (λ (ys : List _). ys ++ f x ∷ []) made ∙ sym (map-append f (take i xs) (x ∷ [])))

pub any_mapped : {A B : Type 0} (p : B → Bool) (f : A → B) (xs : List A) → list_any p (map f xs) ≡ list_any (λ x. p (f x)) xs
any_mapped p f [] = refl
any_mapped p f (x ∷ xs) = ap (λ (b : Bool). p (f x) || b) (any_mapped p f xs)

pub any_part : {A B : Type 0} (p : B → Bool) (part : A → List B) (xs : List A) → list_any p (flat_map part xs) ≡ list_any (λ x. list_any p (part x)) xs
any_part p part [] = refl
any_part p part (x ∷ xs) = list_any-append p (part x) (flat_map part xs) ∙ ap (λ (b : Bool). list_any p (part x) || b) (any_part p part xs)

-- texts beside as many others are the same
pub same_zipped : {B : Type 0} (text : B → List ℕ) (xs : List (List ℕ)) (ys : List B) → length xs ≡ length ys → list_all (λ p. bytes_eq p.0 (text p.1)) (zip xs ys) ≡ same_words xs (map text ys)
same_zipped text [] [] e = refl
same_zipped text [] (y ∷ ys) e = absurd (omega (arith, e))
same_zipped text (x ∷ xs) [] e = absurd (omega (arith, e))
same_zipped text (x ∷ xs) (y ∷ ys) e = ap (λ (b : Bool). bytes_eq x (text y) && b) (same_zipped text xs ys (omega (arith, e)))
