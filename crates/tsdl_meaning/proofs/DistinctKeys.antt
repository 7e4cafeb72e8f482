-- Lists of which no two items are the same, walked from the last item to the first.
use Rattle.std.proofs.Common.{◌≡◌, Bool, true, false, not, cond, ◌&&◌, ◌||◌, List, ◌∷◌, ◌++◌, map, refl, sym, ap, ap₂, ◌∙◌, ℕ, Bor, nat_cmp, [], arith}
use Rattle.tsdl_meaning.proofs.TextWords.{BTreeSet, Global, HasNames, IsTotalOrder, String, are_distinct, bytes_eq, contains_text, eq_by_cmp, eq_by_cmp_equiv, is_at, list_any, lists_ties, name_lists, nat_list_eq_equiv, no_two, not-true, pointwise, same_words, slice_cmp, texts_of, texts_ties, or-false, or_assoc}
use Rattle.std.specs.declared.cmp.Ordering.{Ordering}
use Rattle.tsdl_meaning.specs.Distinct.{no_two_before}
use Rattle.std.specs.Global.{Vec}

pub any_behind : {A : Type 0} (f : A → Bool) (xs : List A) (x : A) → list_any f (xs ++ x ∷ []) ≡ (list_any f xs || f x)
any_behind f [] x = or-false (f x)
any_behind f (y ∷ xs) x = ap (λ (b : Bool). f y || b) (any_behind f xs x) ∙ sym (or_assoc (f y) (list_any f xs) (f x))

-- ---- the walk

nothing_behind : {A : Type 0} (same : A → A → Bool) (xs : List A) → no_two_before same (λ w. false) xs ≡ no_two same xs
nothing_behind same [] = refl
nothing_behind same (x ∷ xs) = ap₂ (λ (a b : Bool). not a && b) (or-false (list_any (same x) xs)) (nothing_behind same xs)

-- nothing is behind the whole list
pub at_first : {A : Type 0} (cmp : A → A → Ordering) (keys xs : List A) → keys ≡ [] → no_two_before (eq_by_cmp cmp) (λ w. list_any (is_at (cmp w)) keys) xs ≡ no_two (eq_by_cmp cmp) xs
at_first cmp keys xs e = ap (λ (ks : List _). no_two_before (eq_by_cmp cmp) (λ w. list_any (is_at (cmp w)) ks) xs) e ∙ nothing_behind (eq_by_cmp cmp) xs

twice : {A : Type 0} (same : A → A → Bool) (behind : A → Bool) (x : A) (xs : List A) → behind x ≡ true → no_two_before same behind (xs ++ x ∷ []) ≡ false
twice same behind x [] h = rw h refl
twice same behind x (y ∷ xs) h = grind (arith, twice same behind x xs h)

once : {A : Type 0} (same : A → A → Bool) (behind more : A → Bool) (x : A) (xs : List A) → behind x ≡ false → ((w : A) → more w ≡ (same w x || behind w))
    → no_two_before same behind (xs ++ x ∷ []) ≡ no_two_before same more xs
once same behind more x [] h e = rw h refl
once same behind more x (y ∷ xs) h e = grind (arith, any_behind (same y) xs x, once same behind more x xs h e, e y)

module _ {A : Type 0} (cmp : A → A → Ordering) (old left rest : List A) (x : A) (all added : Bool) where
  -- the key is among those behind it
  pub stands_twice : left ≡ rest ++ x ∷ [] → no_two_before (eq_by_cmp cmp) (λ w. list_any (is_at (cmp w)) old) left ≡ all → added ≡ not (list_any (is_at (cmp x)) old) → added ≡ false → false ≡ all
  stands_twice e h a f = grind (arith, twice (eq_by_cmp cmp) (λ w. list_any (is_at (cmp w)) old) x rest, e, h, a, f)

  -- the key joins those behind the keys before it
  pub stands_once : (new : List A) → IsTotalOrder cmp → left ≡ rest ++ x ∷ [] → no_two_before (eq_by_cmp cmp) (λ w. list_any (is_at (cmp w)) old) left ≡ all
      → added ≡ not (list_any (is_at (cmp x)) old) → added ≡ true → ((w : A) → list_any (is_at (cmp w)) new ≡ cond (is_at (cmp x) w) true (list_any (is_at (cmp w)) old))
      → no_two_before (eq_by_cmp cmp) (λ w. list_any (is_at (cmp w)) new) rest ≡ all
  stands_once new o e h a t u =
      sym
      (once (eq_by_cmp cmp) (λ w. list_any (is_at (cmp w)) old) (λ w. list_any (is_at (cmp w)) new) x rest (not-true (list_any (is_at (cmp x)) old) (sym a ∙ t))
      (λ w. grind (arith, u w, (eq_by_cmp_equiv o).symm x w)))
      ∙ ap (λ (l : List _). no_two_before (eq_by_cmp cmp) (λ w. list_any (is_at (cmp w)) old) l) (sym e) ∙ h

-- ---- the same items, seen otherwise

pub no_two_seen : {A B : Type 0} (same : A → A → Bool) (equal : B → B → Bool) (view : A → B) (xs : List A) → ((x y : A) → same x y ≡ equal (view x) (view y)) → no_two same xs ≡ no_two equal (map view xs)
no_two_seen same equal view [] h = refl
no_two_seen same equal view (x ∷ xs) h = ap₂ (λ (a b : Bool). not a && b) (any xs) (no_two_seen same equal view xs h)
  where
    any : (ys : List _) → list_any (same x) ys ≡ list_any (equal (view x)) (map view ys)
    any [] = refl
    any (y ∷ ys) = ap₂ (λ (a b : Bool). a || b) (h x y) (any ys)

pub distinct_texts : (words : List (Bor (List ℕ))) (texts : List (List ℕ)) → texts_of words ≡ texts → no_two (eq_by_cmp (λ x y. slice_cmp nat_cmp x.now y.now)) words ≡ no_two bytes_eq texts
distinct_texts words texts e =
    no_two_seen (eq_by_cmp (λ x y. slice_cmp nat_cmp x.now y.now)) bytes_eq (λ w. w.now) words (λ x y. sym (texts_ties x.now y.now)) ∙ ap (no_two bytes_eq) e

same_texts : (xs ys : List (Bor (List ℕ))) → pointwise (λ v w. bytes_eq v.now w.now) xs ys ≡ same_words (texts_of xs) (texts_of ys)
same_texts [] ys = grind arith
same_texts (x ∷ xs) ys = grind (arith, same_texts xs)

pub distinct_names : (names : Vec (Vec (Bor (List ℕ)))) (ns : List (List (List ℕ))) → name_lists names ≡ ns
    → no_two (eq_by_cmp (λ x y. slice_cmp (λ v w. slice_cmp nat_cmp v.now w.now) x.items y.items)) names.items ≡ are_distinct ns
distinct_names names ns e =
    no_two_seen (eq_by_cmp (λ x y. slice_cmp (λ v w. slice_cmp nat_cmp v.now w.now) x.items y.items)) same_words (λ n. texts_of n.items) names.items
    (λ x y. sym (lists_ties (λ v w. slice_cmp nat_cmp v.now w.now) (λ v w. texts_ties v.now w.now) x.items y.items) ∙ same_texts x.items y.items)
    ∙ ap are_distinct e

-- one more name
pub one_name : (old new : BTreeSet (String Global)) (before names : List (List ℕ)) (name : List ℕ) → names ≡ before ++ name ∷ [] → HasNames old before
    → ((w : List ℕ) → contains_text new w ≡ cond (bytes_eq name w) true (contains_text old w)) → HasNames new names
one_name old new before names name e h u w = grind (arith, u w, nat_list_eq_equiv.symm name w, h w, any_behind (bytes_eq w) before name, e)
