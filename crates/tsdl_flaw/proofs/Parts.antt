-- A stop in a part of a list of atoms is a stop in the list.
use Rattle.std.proofs.Common.{◌≡◌, ℕ, suc, ◌+◌, ◌<◌, List, [], ◌∷◌, ◌++◌, length, take, drop, get_or, min, sym, ap, ◌∙◌, subst, arith, append_assoc, length-append}
use Rattle.std.specs.List.{flat_map}
use Rattle.std.proofs.lemmas.List.{append-nil, take_more, take-append-drop}
use Rattle.std.proofs.lemmas.List.Concat.{flat_map-append}
use Rattle.std.proofs.Math.Seq.{drop-cons}
use Rattle.tsdl_grammar.specs.declared.atom.Atom.{Atom}
use Rattle.tsdl_flaw.specs.declared.flaw.Stop.{Stop}
use Rattle.tsdl_flaw.specs.Lengths.{most, HasLength}
use Rattle.tsdl_flaw.specs.Places.{StandsBehind}
use Rattle.tsdl_flaw.specs.Stopping.{StopsIn}
use Rattle.tsdl_flaw.proofs.Stops.{in_parts}

-- a stop behind other atoms
pub stops_after : (front toks pre own : List Atom) (at place : ℕ) (stop : Stop) → toks ≡ pre ++ own → StandsBehind at pre place → StopsIn (front ++ pre) place own stop
    → StopsIn front at toks stop
stops_after front toks pre own at place stop e stands s =
    subst (λ (l : List Atom). StopsIn front at l stop) (sym (e ∙ ap (λ (l : List Atom). pre ++ l) (sym (append-nil own))))
    (in_parts front pre own [] at place stop (λ bound. let l = length-append pre (own ++ []) in stands (omega arith)) s)

-- the place behind one more part
pub behind_more : (pre own : List Atom) (at place n next : ℕ) → StandsBehind at pre place → HasLength own n → next ≡ min (place + n) most → StandsBehind at (pre ++ own) next
behind_more pre own at place n next stands counts is = λ h.
    let l = length-append pre own in
    let e : place ≡ at + length pre = stands (omega (arith, l)) in
    let m : n ≡ length own = counts (omega (arith, l)) in
    omega (arith, l)

-- the items up to one, that one, and the others
pub flat_parts : {A : Type 0} (f : A → List Atom) (xs : List A) (i : ℕ) (x : A) → i < length xs → x ≡ get_or xs i x
    → flat_map f xs ≡ flat_map f (take i xs) ++ (f x ++ flat_map f (drop (suc i) xs))
flat_parts {A} f xs i x h is =
    ap (flat_map f) (sym (take-append-drop i xs)) ∙ flat_map-append f (take i xs) (drop i xs)
    ∙ ap (λ (ys : List A). flat_map f (take i xs) ++ flat_map f ys) (drop-cons xs i x h ∙ ap (λ (y : A). y ∷ drop (suc i) xs) (sym is))

pub flat_next : {A : Type 0} (f : A → List Atom) (xs : List A) (i : ℕ) (x : A) → i < length xs → x ≡ get_or xs i x → flat_map f (take (i + 1) xs) ≡ flat_map f (take i xs) ++ f x
flat_next {A} f xs i x h is =
    ap (flat_map f) (take_more xs i x h ∙ ap (λ (y : A). take i xs ++ y ∷ []) (sym is)) ∙ flat_map-append f (take i xs) (x ∷ [])
    ∙ ap (λ (l : List Atom). flat_map f (take i xs) ++ l) (append-nil (f x))

-- a stop in an item of a list that stands behind some atoms and before others
pub stops_item : {A : Type 0} (f : A → List Atom) (xs : List A) (i : ℕ) (x : A) (opening closing front : List Atom) (at place : ℕ) (stop : Stop)
    → i < length xs → x ≡ get_or xs i x → StandsBehind at (opening ++ flat_map f (take i xs)) place
    → StopsIn (front ++ (opening ++ flat_map f (take i xs))) place (f x ++ (flat_map f (drop (suc i) xs) ++ closing)) stop
    → StopsIn front at (opening ++ flat_map f xs ++ closing) stop
stops_item f xs i x opening closing front at place stop h is stands s =
    let rest = flat_map f (drop (suc i) xs) in
    let done = flat_map f (take i xs) in
    let parts : opening ++ flat_map f xs ++ closing ≡ (opening ++ done) ++ (f x ++ (rest ++ closing)) =
    ap (λ (l : List Atom). opening ++ l ++ closing) (flat_parts f xs i x h is) ∙ simp append_assoc
    in
    stops_after front (opening ++ flat_map f xs ++ closing) (opening ++ done) (f x ++ (rest ++ closing)) at place stop parts stands s

-- the place behind one more item
pub behind_item : {A : Type 0} (f : A → List Atom) (xs : List A) (i : ℕ) (x : A) (opening : List Atom) (at place n next : ℕ)
    → i < length xs → x ≡ get_or xs i x → StandsBehind at (opening ++ flat_map f (take i xs)) place → HasLength (f x) n → next ≡ min (place + n) most
    → StandsBehind at (opening ++ flat_map f (take (i + 1) xs)) next
behind_item f xs i x opening at place n next h is stands counts adds =
    let e : (opening ++ flat_map f (take i xs)) ++ f x ≡ opening ++ flat_map f (take (i + 1) xs) =
    append_assoc opening (flat_map f (take i xs)) (f x) ∙ ap (λ (l : List Atom). opening ++ l) (sym (flat_next f xs i x h is))
    in
    subst (λ (l : List Atom). StandsBehind at l next) e (behind_more (opening ++ flat_map f (take i xs)) (f x) at place n next stands counts adds)
