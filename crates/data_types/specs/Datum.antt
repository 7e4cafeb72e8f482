-- A value of a field as the definitions see it: a number, a signed number, a text, or many such values.
-- `Items` is the list of an array's elements: the two are defined together, so it is a type of its own, and `data_in` and `items_of` go between it and std's lists.
use Rattle.std.specs.Prelude.{◌≡◌, ℕ, ℤ, List, [], ◌∷◌, Option, Some, None, max, refl}
use Rattle.std.proofs.Common.{ap, sym, subst, suc, arith}
use Rattle.std.specs.Coded.{Coded, coded_ℕ, coded_ℤ, coded_list}
use base.Stored.{Gv, gnil, gnum, gcons, num}

mutual
  pub data Datum : Type 0 where
    Unsigned : ℕ → Datum
    Signed : ℤ → Datum
    Text : List ℕ → Datum
    Many : Items → Datum

  pub data Items : Type 0 where
    none : Items
    item : Datum → Items → Items

-- the elements as a list, and a list as elements
abbrev pub data_in : Items → List Datum
data_in none = []
data_in (item d ds) = d ∷ data_in ds

abbrev pub items_of : List Datum → Items
items_of [] = none
items_of (d ∷ ds) = item d (items_of ds)

-- the values that a list has; no other value is a list
abbrev pub list_in : Datum → Option (List Datum)
list_in (Many ds) = Some (data_in ds)
list_in (Unsigned n) = None
list_in (Signed z) = None
list_in (Text s) = None

pub items_of-data_in : (ds : Items) → items_of (data_in ds) ≡ ds
items_of-data_in none = refl
items_of-data_in (item d ds) = ap (item d) (items_of-data_in ds)

pub data_in-items_of : (ds : List Datum) → data_in (items_of ds) ≡ ds
data_in-items_of [] = refl
data_in-items_of (d ∷ ds) = ap (λ x. d ∷ x) (data_in-items_of ds)

-- how deep lists are nested in a value
abbrev mutual
  pub depth : Datum → ℕ
  depth (Unsigned n) = 0
  depth (Signed z) = 0
  depth (Text s) = 0
  depth (Many ds) = suc (depths ds)

  pub depths : Items → ℕ
  depths none = 0
  depths (item d ds) = max (depth d) (depths ds)

abbrev pub depth_of : List Datum → ℕ
depth_of ds = depths (items_of ds)

-- a value as a tree of numbers, and back: what tells two values apart
abbrev mutual
  pub code : Datum → Gv
  code (Unsigned n) = gcons (gnum 0) (gnum n)
  code (Signed z) = gcons (gnum 1) (coded_ℤ.code z)
  code (Text s) = gcons (gnum 2) ((coded_list coded_ℕ).code s)
  code (Many ds) = gcons (gnum 3) (codes ds)

  pub codes : Items → Gv
  codes none = gnil
  codes (item d ds) = gcons (code d) (codes ds)

abbrev left : Gv → Gv
left gnil = gnil
left (gnum n) = gnil
left (gcons a b) = a

abbrev right : Gv → Gv
right gnil = gnil
right (gnum n) = gnil
right (gcons a b) = b

abbrev IsPair : Gv → Type 0
IsPair gnil = ⊥
IsPair (gnum n) = ⊥
IsPair (gcons a b) = Unit {0}

apart : (x y : Gv) → x ≡ y → num (left x) ≡ num (left y)
apart x y p = ap (λ g. num (left g)) p

mutual
  pub code-inj : (x y : Datum) → code x ≡ code y → x ≡ y
  code-inj (Unsigned m) (Unsigned n) p = ap (λ g. Unsigned (num (right g))) p
  code-inj (Signed m) (Signed n) p = ap Signed (coded_ℤ.inj m n (ap right p))
  code-inj (Text m) (Text n) p = ap Text ((coded_list coded_ℕ).inj m n (ap right p))
  code-inj (Many m) (Many n) p = ap Many (codes-inj m n (ap right p))
  code-inj (Unsigned m) (Signed n) p = absurd (omega (arith, apart _ _ p))
  code-inj (Unsigned m) (Text n) p = absurd (omega (arith, apart _ _ p))
  code-inj (Unsigned m) (Many n) p = absurd (omega (arith, apart _ _ p))
  code-inj (Signed m) (Unsigned n) p = absurd (omega (arith, apart _ _ p))
  code-inj (Signed m) (Text n) p = absurd (omega (arith, apart _ _ p))
  code-inj (Signed m) (Many n) p = absurd (omega (arith, apart _ _ p))
  code-inj (Text m) (Unsigned n) p = absurd (omega (arith, apart _ _ p))
  code-inj (Text m) (Signed n) p = absurd (omega (arith, apart _ _ p))
  code-inj (Text m) (Many n) p = absurd (omega (arith, apart _ _ p))
  code-inj (Many m) (Unsigned n) p = absurd (omega (arith, apart _ _ p))
  code-inj (Many m) (Signed n) p = absurd (omega (arith, apart _ _ p))
  code-inj (Many m) (Text n) p = absurd (omega (arith, apart _ _ p))

  pub codes-inj : (xs ys : Items) → codes xs ≡ codes ys → xs ≡ ys
  codes-inj none none p = refl
  codes-inj (item x xs) (item y ys) p = λ i. item (code-inj x y (ap left p) i) (codes-inj xs ys (ap right p) i)
  codes-inj none (item y ys) p = absurd (subst IsPair (sym p) tt)
  codes-inj (item x xs) none p = absurd (subst IsPair p tt)

abbrev pub datum_code : Coded Datum
datum_code = record { code = code; inj = code-inj }
