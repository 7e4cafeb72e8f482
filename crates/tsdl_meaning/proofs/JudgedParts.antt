-- A stop in a part of a tree is a stop in the tree, and what a judge hands on from a part.
use Rattle.std.proofs.Common.{◌≡◌, ℕ, suc, ◌+◌, ◌<◌, min, arith, List, ◌++◌, length, take, drop, get_or, sym, ap, ◌∙◌, subst, append_assoc, Result, Ok, Err, []}
use Rattle.tsdl_meaning.proofs.TextWords.{Atom, Ends, HasLength, Holds, IfErr, IfOk, IsErrAnd, StandsBehind, Stop, StopsIn, append-nil, flat_map, most, stops_after, stops_item}

-- ---- answers

-- an error that is handed on
pub handed : {T : Type 0} (r : Result T Stop) (e : Stop) (Q : Stop → Type 0) → IsErrAnd r (λ x. x ≡ e) → Q e → IfErr r Q
handed (Ok v) e Q is h = absurd is
handed (Err s) e Q is h = subst Q (sym is) h

pub ok_from : {T : Type 0} (r : Result T Stop) (Q : T → Type 0) → ((x : T) → Q x) → IfOk r Q
ok_from (Ok v) Q f = f v
ok_from (Err s) Q f = tt

-- ---- fronts

pub holds_more : (front more toks : List Atom) → Holds front toks → Holds (front ++ more) toks
holds_more front more toks (before, behind, e) = (before, behind ++ more, ap (λ (l : List Atom). l ++ more) e ∙ simp append_assoc)

pub holds_last : (front toks : List Atom) → Holds (front ++ toks) toks
holds_last front toks = (front, [], ap (λ (l : List Atom). front ++ l) (sym (append-nil toks)))

-- behind a front that ends so, and more
pub ends_more : (front toks more : List Atom) → Ends front toks → Ends (front ++ more) (toks ++ more)
ends_more front toks more (others, e) = (others, ap (λ (l : List Atom). l ++ more) e ∙ append_assoc others toks more)

-- only the last of the atoms
pub ends_part : (front toks more : List Atom) → Ends front (toks ++ more) → Ends front more
ends_part front toks more (others, e) = (others ++ toks, e ∙ sym (append_assoc others toks more))

-- ---- parts

-- the same atoms
pub stops_same : (front toks other : List Atom) (at : ℕ) (stop : Stop) → toks ≡ other → StopsIn front at other stop → StopsIn front at toks stop
stops_same front toks other at stop e s = subst (λ (l : List Atom). StopsIn front at l stop) (sym e) s

-- the place behind the first atoms
pub behind_first : (own : List Atom) (at n next : ℕ) → HasLength own n → next ≡ min (at + n) most → StandsBehind at own next
behind_first own at n next counts is = λ fits. let c : n ≡ length own = counts (omega arith) in omega arith

-- a stop in a part that stands between others
pub in_part : (toks pre part post front behind : List Atom) (at place : ℕ) (stop : Stop) → toks ≡ pre ++ (part ++ post) → StandsBehind at pre place
    → StopsIn (front ++ pre) place (part ++ (post ++ behind)) stop → StopsIn front at (toks ++ behind) stop
in_part toks pre part post front behind at place stop e stands s =
    stops_after front (toks ++ behind) pre (part ++ (post ++ behind)) at place stop (ap (λ (l : List Atom). l ++ behind) e ∙ simp append_assoc) stands s

-- a stop in an item of a list that stands between others
pub in_item : {A : Type 0} (f : A → List Atom) (xs : List A) (i : ℕ) (x : A) (toks opening closing front behind : List Atom) (at place : ℕ) (stop : Stop) → i < length xs → x ≡ get_or xs i x
    → toks ≡ opening ++ (flat_map f xs ++ closing) → StandsBehind at (opening ++ flat_map f (take i xs)) place
    → ((after : List Atom) → StopsIn (front ++ (opening ++ flat_map f (take i xs))) place (f x ++ after) stop) → StopsIn front at (toks ++ behind) stop
in_item f xs i x toks opening closing front behind at place stop h is e stands s =
    stops_same front (toks ++ behind) (opening ++ flat_map f xs ++ (closing ++ behind)) at stop (ap (λ (l : List Atom). l ++ behind) e ∙ simp append_assoc)
    (stops_item f xs i x opening (closing ++ behind) front at place stop h is stands (s (flat_map f (drop (suc i) xs) ++ (closing ++ behind))))
