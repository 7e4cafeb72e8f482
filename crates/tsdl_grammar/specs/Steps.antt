-- Rules that have a case or none: one after the other, under a test, and for each of a list.
use Rattle.std.specs.Prelude.{◌≡◌, refl, ℕ, Bool, true, false, nat_lt, ◌==◌, if◌then◌else◌, List, [], ◌∷◌, Option, Some, None, option_map, option_and_then}

infixl 10 ◌>>=◌
abbrev pub ◌>>=◌ : {A B : Type 0} → Option A → (A → Option B) → Option B
o >>= f = option_and_then f o

-- a case under a test alone
abbrev pub provided : {A : Type 0} → Bool → Option A → Option A
provided true x = x
provided false x = None

-- a case under a test, made from its proof
abbrev pub proved : {A : Type 0} (b : Bool) → (b ≡ true → Option A) → Option A
proved true f = f refl
proved false f = None

-- what is made of each item, where each has a case
abbrev pub each : {A B : Type 0} → (A → Option B) → List A → Option (List B)
each f [] = Some []
each f (x ∷ xs) = f x >>= λ y. each f xs >>= λ ys. Some (y ∷ ys)

-- the only item, if there is just one
abbrev pub only : {A : Type 0} → List A → Option A
only (x ∷ []) = Some x
only _ = None

-- the items of a list that has one part or none
abbrev pub at_most_one : {A : Type 0} → List (List A) → Option (List A)
at_most_one [] = Some []
at_most_one (x ∷ []) = Some x
at_most_one (x ∷ y ∷ xs) = None

-- one more item among those in order of their numbers, where no other has its number
abbrev pub insert_numbered : {A : Type 0} → (A → ℕ) → A → List A → Option (List A)
insert_numbered number x [] = Some (x ∷ [])
insert_numbered number x (y ∷ ys) =
    if nat_lt (number x) (number y) then Some (x ∷ y ∷ ys)
    else (if number x == number y then None else option_map (λ zs. y ∷ zs) (insert_numbered number x ys))

-- the items in order of their numbers, where no two have one number
abbrev pub by_number : {A : Type 0} → (A → ℕ) → List A → Option (List A)
by_number number [] = Some []
by_number number (x ∷ xs) = by_number number xs >>= λ ys. insert_numbered number x ys
