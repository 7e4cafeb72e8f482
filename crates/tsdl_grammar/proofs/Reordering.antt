-- What lists of the same items in another order have in common.
use Rattle.std.proofs.Common.{◌≡◌, ℕ, Bool, true, false, not, ◌&&◌, ◌||◌, List, [], ◌∷◌, ◌++◌, map, Option, Some, None, refl, sym, ap, ap₂, subst, ◌∙◌, arith, flat_map}
use Rattle.std.specs.List.{list_any, list_all}
use Rattle.std.proofs.{lemmas.List.Concat.flat_map-cons, lemmas.Bool.Decides.nat_tests, lemmas.Option.same_Some}
use Rattle.tsdl_grammar.specs.Steps.{◌>>=◌, each, insert_numbered, by_number}
use Rattle.tsdl_grammar.specs.Lookups.{no_two}
use Rattle.tsdl_grammar.specs.Orders.{Reordered, same, neighbours, behind, further}
use Rattle.tsdl_grammar.proofs.Inversion.{bind_some, bind_is}

front : {A : Type 0} (xs ys zs : List A) → Reordered ys zs → Reordered (xs ++ ys) (xs ++ zs)
front [] ys zs r = r
front (x ∷ xs) ys zs r = behind x (xs ++ ys) (xs ++ zs) (front xs ys zs r)

-- an item goes behind others
goes_behind : {A : Type 0} (x : A) (xs ys : List A) → Reordered (x ∷ xs ++ ys) (xs ++ x ∷ ys)
goes_behind x [] ys = same (x ∷ ys)
goes_behind x (z ∷ xs) ys = further _ _ _ (neighbours x z (xs ++ ys)) (behind z (x ∷ xs ++ ys) (xs ++ x ∷ ys) (goes_behind x xs ys))

-- two parts change places
parts_swap : {A : Type 0} (xs ys zs : List A) → Reordered (xs ++ (ys ++ zs)) (ys ++ (xs ++ zs))
parts_swap [] ys zs = same (ys ++ zs)
parts_swap (x ∷ xs) ys zs = further _ _ _ (behind x _ _ (parts_swap xs ys zs)) (goes_behind x ys (xs ++ zs))

pub reordered_parts : {A B : Type 0} (part : A → List B) {xs ys : List A} → Reordered xs ys → Reordered (flat_map part xs) (flat_map part ys)
reordered_parts part (same xs) = same (flat_map part xs)
reordered_parts part (neighbours x y xs) =
    rw (flat_map-cons part x (y ∷ xs), flat_map-cons part y xs, flat_map-cons part y (x ∷ xs), flat_map-cons part x xs) (parts_swap (part x) (part y) (flat_map part xs))
reordered_parts part (behind x xs ys r) = rw (flat_map-cons part x xs, flat_map-cons part x ys) (front (part x) (flat_map part xs) (flat_map part ys) (reordered_parts part r))
reordered_parts part (further xs ys zs r s) = further _ _ _ (reordered_parts part r) (reordered_parts part s)

pub reordered_map : {A B : Type 0} (f : A → B) {xs ys : List A} → Reordered xs ys → Reordered (map f xs) (map f ys)
reordered_map f (same xs) = same (map f xs)
reordered_map f (neighbours x y xs) = neighbours (f x) (f y) (map f xs)
reordered_map f (behind x xs ys r) = behind (f x) (map f xs) (map f ys) (reordered_map f r)
reordered_map f (further xs ys zs r s) = further _ _ _ (reordered_map f r) (reordered_map f s)

none_stays : {A : Type 0} {xs ys : List A} → Reordered xs ys → xs ≡ [] → ys ≡ []
none_stays (same xs) e = e
none_stays (neighbours x y xs) e = absurd cc
none_stays (behind x xs ys r) e = absurd cc
none_stays (further xs ys zs r s) e = none_stays s (none_stays r e)

-- what is made of one item at most stays
pub one_stays : {A B : Type 0} (made : List A → Option B) → ((x y : A) (xs : List A) → made (x ∷ y ∷ xs) ≡ None) → {xs ys : List A} (b : B) → Reordered xs ys → made xs ≡ Some b → made ys ≡ Some b
one_stays made h b (same xs) e = e
one_stays made h b (neighbours x y xs) e = absurd (let none = h x y xs in cc)
one_stays made h b (behind x [] ys r) e = rw (none_stays r refl) e
one_stays made h b (behind x (y ∷ xs) ys r) e = absurd (let none = h x y xs in cc)
one_stays made h b (further xs ys zs r s) e = one_stays made h b s (one_stays made h b r e)

-- what is gathered of the items, one after the other, stays where it is the same for neighbours that change places
pub gathered_stay : {A B : Type 0} (all : List A → B) (one : A → B → B) → ((x : A) (xs : List A) → all (x ∷ xs) ≡ one x (all xs)) → ((x y : A) (b : B) → one x (one y b) ≡ one y (one x b)) → {xs ys : List A}
    → Reordered xs ys → all xs ≡ all ys
gathered_stay all one step swap (same xs) = refl
gathered_stay all one step swap (neighbours x y xs) = rw (step x (y ∷ xs), step y xs, step y (x ∷ xs), step x xs) (swap x y (all xs))
gathered_stay all one step swap (behind x xs ys r) = rw (step x xs, step x ys) (ap (one x) (gathered_stay all one step swap r))
gathered_stay all one step swap (further xs ys zs r s) = gathered_stay all one step swap r ∙ gathered_stay all one step swap s

or_swaps : (a b c : Bool) → (a || (b || c)) ≡ (b || (a || c))
or_swaps true true c = refl
or_swaps true false c = refl
or_swaps false b c = refl

and_swaps : (a b c : Bool) → (a && (b && c)) ≡ (b && (a && c))
and_swaps true b c = refl
and_swaps false true c = refl
and_swaps false false c = refl

pub any_stays : {A : Type 0} (f : A → Bool) {xs ys : List A} → Reordered xs ys → list_any f xs ≡ list_any f ys
any_stays f r = gathered_stay (list_any f) (λ x b. f x || b) (λ x xs. refl) (λ x y b. or_swaps (f x) (f y) b) r

pub all_stays : {A : Type 0} (f : A → Bool) {xs ys : List A} → Reordered xs ys → list_all f xs ≡ list_all f ys
all_stays f r = gathered_stay (list_all f) (λ x b. f x && b) (λ x xs. refl) (λ x y b. and_swaps (f x) (f y) b) r

apart_swap : (a b c d : Bool) → (not (a || b) && (not c && d)) ≡ (not (a || c) && (not b && d))
apart_swap true b c d = refl
apart_swap false b c d = and_swaps (not b) (not c) d

-- no two are the same, in any order
pub no_two_stays : {A : Type 0} (like : A → A → Bool) → ((x y : A) → like x y ≡ like y x) → {xs ys : List A} → Reordered xs ys → no_two like xs ≡ no_two like ys
no_two_stays like h (same xs) = refl
no_two_stays like h (neighbours x y xs) =
    apart_swap (like x y) (list_any (like x) xs) (list_any (like y) xs) (no_two like xs)
    ∙ ap (λ (b : Bool). not (b || list_any (like y) xs) && (not (list_any (like x) xs) && no_two like xs)) (h x y)
no_two_stays like h (behind x xs ys r) = ap₂ (λ (a b : Bool). not a && b) (any_stays (like x) r) (no_two_stays like h r)
no_two_stays like h (further xs ys zs r s) = no_two_stays like h r ∙ no_two_stays like h s

each_of_first : {A B : Type 0} (f : A → Option B) (x : A) (xs : List A) (us : List B) → each f (x ∷ xs) ≡ Some us → (u : B) × (vs : List B) × (f x ≡ Some u) × (each f xs ≡ Some vs) × (us ≡ u ∷ vs)
each_of_first f x xs us e =
    let a = bind_some (f x) (λ u. each f xs >>= λ ws. Some (u ∷ ws)) us e in
    let b = bind_some (each f xs) (λ ws. Some (a.0 ∷ ws)) us a.2 in
    (a.0, b.0, a.1, b.1, sym (same_Some (a.0 ∷ b.0) us b.2))

each_with_first : {A B : Type 0} (f : A → Option B) (x : A) (xs : List A) (u : B) (us : List B) → f x ≡ Some u → each f xs ≡ Some us → each f (x ∷ xs) ≡ Some (u ∷ us)
each_with_first f x xs u us p q =
    bind_is (f x) (λ w. each f xs >>= λ ws. Some (w ∷ ws)) u (u ∷ us) p (bind_is (each f xs) (λ ws. Some (u ∷ ws)) us (u ∷ us) q refl)

-- what is made of the items stands in the items' order
pub each_stays : {A B : Type 0} (f : A → Option B) {xs ys : List A} (us : List B) → Reordered xs ys → each f xs ≡ Some us → (vs : List B) × (each f ys ≡ Some vs) × Reordered us vs
each_stays f us (same xs) e = (us, e, same us)
each_stays f us (neighbours x y xs) e =
    let a = each_of_first f x (y ∷ xs) us e in
    let b = each_of_first f y xs a.1 a.3 in
    let is : us ≡ a.0 ∷ b.0 ∷ b.1 = a.4 ∙ ap (λ (ws : List _). a.0 ∷ ws) b.4 in
    (b.0 ∷ a.0 ∷ b.1, each_with_first f y (x ∷ xs) b.0 (a.0 ∷ b.1) b.2 (each_with_first f x xs a.0 b.1 a.2 b.3), subst (λ (ws : List _). Reordered ws (b.0 ∷ a.0 ∷ b.1)) (sym is) (neighbours a.0 b.0 b.1))
each_stays f us (behind x xs ys r) e =
    let a = each_of_first f x xs us e in
    let i = each_stays f a.1 r a.3 in
    (a.0 ∷ i.0, each_with_first f x ys a.0 i.0 a.2 i.1, subst (λ (ws : List _). Reordered ws (a.0 ∷ i.0)) (sym a.4) (behind a.0 a.1 i.0 i.2))
each_stays f us (further xs ys zs r s) e =
    let i = each_stays f us r e in
    let j = each_stays f i.0 s i.1 in
    (j.0, j.1, further us i.0 j.0 i.2 j.2)

-- the same is made of each item
pub each_alike : {A B : Type 0} (f g : A → Option B) (xs : List A) → ((x : A) → f x ≡ g x) → each f xs ≡ each g xs
each_alike f g [] h = refl
each_alike {A} {B} f g (x ∷ xs) h =
    ap₂ (λ (o : Option B) (p : Option (List B)). o >>= λ y. p >>= λ ys. Some (y ∷ ys)) (h x) (each_alike f g xs h)

-- one more item among those in order of their numbers
module _ {A : Type 0} (number : A → ℕ) where
  abbrev put : A → Option (List A) → Option (List A)
  put x o = o >>= λ ys. insert_numbered number x ys

  swapped_behind : (x y z : A) (zs : List A) (o p : Option (List A)) → insert_numbered number x zs ≡ o → insert_numbered number y zs ≡ p → put x p ≡ put y o
      → put x (insert_numbered number y (z ∷ zs)) ≡ put y (insert_numbered number x (z ∷ zs))
  swapped_behind x y z zs o p a b e = grind (arith, nat_tests)

  swapped_alone : (x y : A) → put x (insert_numbered number y []) ≡ put y (insert_numbered number x [])
  swapped_alone x y = grind (arith, nat_tests)

  swapped : (x y : A) (zs : List A) → put x (insert_numbered number y zs) ≡ put y (insert_numbered number x zs)
  swapped x y [] = swapped_alone x y
  swapped x y (z ∷ zs) = swapped_behind x y z zs _ _ refl refl (swapped x y zs)

  puts_swap : (x y : A) (o : Option (List A)) → put x (put y o) ≡ put y (put x o)
  puts_swap x y None = refl
  puts_swap x y (Some zs) = swapped x y zs

  -- items by number stand as their numbers say, whatever order they came in
  pub by_number_stays : {xs ys : List A} → Reordered xs ys → by_number number xs ≡ by_number number ys
  by_number_stays r = gathered_stay (by_number number) put (λ x xs. refl) puts_swap r
