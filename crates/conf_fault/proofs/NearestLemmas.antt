-- The word that is nearest to a text, as far as a loop over the words has come.
use Rattle.std.proofs.Common.{Bool, true, false, ◌≡◌, ◌⊎◌, inl, inr, ◌+◌, ◌/◌, ◌<◌, ◌≤◌, ℕ, List, [], ◌∷◌, ◌++◌, All, length, take, get_or, refl, subst, sym, arith}
use Rattle.std.specs.Prelude.{Contains, Option, None, Some, codes, option_map}
use Rattle.std.specs.Borrow.{Bor}
use Rattle.std.proofs.lemmas.Bool.{cases_lt}
use Rattle.std.proofs.lemmas.List.Elements.{All-append, All-cons, All-nil, All-map, All-weaker, Contains-get_or}
use Rattle.std.proofs.lemmas.List.{get_or-map, length-map, take_more}
use Rattle.conf_fault.specs.Shown.{cut}
use Rattle.conf_fault.specs.Wanted.{IsNearest, IsNearestOf, IsNoNearer, gap, likeness}
use Rattle.conf_fault.proofs.WantedLemmas.{texts}

-- the best of the words so far has so much in common with the text, and such a gap; where there is none, the floor would not do
abbrev pub IsBest : ℕ → List ℕ → List (Bor (List ℕ)) → ℕ → ℕ → Option (Bor (List ℕ)) → Type 0
IsBest floor text words most least None = (most ≡ floor) × (least ≡ 0)
IsBest floor text words most least (Some word) = Contains (texts words) word.now × (most ≡ likeness text word.now) × (least ≡ gap text word.now) × (floor < most)

abbrev pub AreWithin : List ℕ → ℕ → ℕ → List (Bor (List ℕ)) → Type 0
AreWithin text most least words = All (λ word. IsNoNearer text most least word.now) words

-- what is nearer leaves those behind that were no nearer
pub nearer_still : (text word : List ℕ) (most least next near : ℕ) → (most < next) ⊎ ((next ≡ most) × (near < least)) → IsNoNearer text most least word → IsNoNearer text next near word
nearer_still text word most least next near (inl more) (inl less) = inl (omega (arith, more, less))
nearer_still text word most least next near (inl more) (inr same) = inl (omega (arith, more, same.0))
nearer_still text word most least next near (inr as_much) (inl less) = inl (omega (arith, as_much.0, less))
nearer_still text word most least next near (inr as_much) (inr same) = inr (omega (arith, as_much.0, same.0), omega (arith, as_much.1, same.1))

-- what is found not to hold
pub refuted : {P : Type 0} (b : Bool) → (P → b ≡ true) → b ≡ false → ¬ P
refuted true holds e = λ p. absurd (cc)
refuted false holds e = λ p. absurd (let f = holds p in cc)

-- a word that is not nearer than the best
pub not_nearer : (text word : List ℕ) (most least alike near : ℕ) → alike ≡ likeness text word → near ≡ gap text word → ¬ ((most < alike) ⊎ ((alike ≡ most) × (near < least))) → IsNoNearer text most least word
not_nearer text word most least alike near e f further = elim (cases_lt (likeness text word) most) [
  | inl less ↦ inl less
  | inr much ↦
      let same : likeness text word ≡ most = elim (cases_lt most (likeness text word)) [
        | inl more ↦ absurd (further (inl (omega (arith, e, more))))
        | inr most_of ↦ omega (arith, much, most_of)
      ] in
      inr (
        same,
        elim (cases_lt near least) [
          | inl closer ↦ absurd (further (inr (omega (arith, e, same), closer)))
          | inr far ↦ omega (arith, f, far)
        ],
      )
]

-- one word more
pub one_more : (text : List ℕ) (words : List (Bor (List ℕ))) (i most least : ℕ) (d : Bor (List ℕ)) → i < length words → IsNoNearer text most least (get_or words i d).now
    → AreWithin text most least (take i words) → AreWithin text most least (take (i + 1) words)
one_more text words i most least d h own seen =
    let word = get_or words i d in
    let within = λ (w : Bor (List ℕ)). IsNoNearer text most least w.now in
    subst (AreWithin text most least) (sym (take_more words i d h)) (All-append within (take i words) (word ∷ []) seen (All-cons within word [] own (All-nil within)))

-- one that is nearer
pub one_nearer : (text : List ℕ) (words : List (Bor (List ℕ))) (i most least next near : ℕ) (d : Bor (List ℕ)) → i < length words → next ≡ likeness text (get_or words i d).now → near ≡ gap text (get_or words i d).now
    → (most < next) ⊎ ((next ≡ most) × (near < least)) → AreWithin text most least (take i words) → AreWithin text next near (take (i + 1) words)
one_nearer text words i most least next near d h e f more seen =
    one_more text words i next near d h (inr (sym e, omega (arith, f)))
    (All-weaker (λ (w : Bor (List ℕ)). IsNoNearer text most least w.now) (λ (w : Bor (List ℕ)). IsNoNearer text next near w.now) (λ w within. nearer_still text w.now most least next near more within) (take i words) seen)

-- a word that is nearer than those before
pub better : (floor : ℕ) (text : List ℕ) (words : List (Bor (List ℕ))) (i most least next near : ℕ) (d : Bor (List ℕ)) (was : Option (Bor (List ℕ))) → i < length words
    → next ≡ likeness text (get_or words i d).now → near ≡ gap text (get_or words i d).now → (most < next) ⊎ ((next ≡ most) × (near < least)) → IsBest floor text words most least was
    → IsBest floor text words next near (Some (get_or words i d))
better floor text words i most least next near d was h e f more best =
    (subst (Contains (texts words)) (get_or-map (λ (word : Bor (List ℕ)). word.now) words i d d.now h) (Contains-get_or (texts words) i d.now (let same : length (texts words) ≡ length words = length-map words (λ word. word.now) in omega (arith, same))), e, f, past most least was best more)
  where
    past : (m l : ℕ) (o : Option (Bor (List ℕ))) → IsBest floor text words m l o → (m < next) ⊎ ((next ≡ m) × (near < l)) → floor < next
    past m l None b (inl more) = omega (arith, b.0, more)
    past m l None b (inr same) = absurd (omega (arith, b.1, same.1))
    past m l (Some w) b (inl more) = omega (arith, b.3, more)
    past m l (Some w) b (inr same) = omega (arith, b.3, same.0)

-- after the last word
pub nearest : (floor : ℕ) (text : List ℕ) (words : List (Bor (List ℕ))) (most least : ℕ) (found : Option (Bor (List ℕ))) → AreWithin text most least words → IsBest floor text words most least found
    → IsNearestOf floor text (texts words) (option_map (λ word. word.now) found)
nearest floor text words most least None seen best =
    All-map (λ w. likeness text w ≤ floor) (λ word. word.now) words
    (All-weaker (λ (w : Bor (List ℕ)). IsNoNearer text most least w.now) (λ (w : Bor (List ℕ)). likeness text w.now ≤ floor) (λ w within. low w.now within) words seen)
  where
    low : (w : List ℕ) → IsNoNearer text most least w → likeness text w ≤ floor
    low w (inl less) = omega (arith, best.0, less)
    low w (inr same) = omega (arith, best.0, same.0)
nearest floor text words most least (Some word) seen best = (
  best.0,
  subst (λ (n : ℕ). floor < n) best.1 best.3,
  All-map (IsNoNearer text (likeness text word.now) (gap text word.now)) (λ w. w.now) words
      (subst (λ (n : ℕ). AreWithin text (likeness text word.now) n words) best.2 (subst (λ (n : ℕ). AreWithin text n least words) best.1 seen)),
)

-- the nearest word is told
pub told : (text : List ℕ) (words : List (List ℕ)) (found : Option (Bor (List ℕ))) (word : Bor (List ℕ)) → found ≡ Some word → IsNearestOf (length text / 2) text words (option_map (λ w. w.now) found)
    → IsNearest text words (codes "; the nearest is `" ++ cut word.now ++ codes "`")
told text words found word e is = (Some word.now, subst (λ (o : Option (Bor (List ℕ))). IsNearestOf (length text / 2) text words (option_map (λ w. w.now) o)) e is, refl)
