-- The history of a clock. Each of its seats has the list of the numbers that it drew, and a quota of how many it may still draw. The clock is one
-- word, the next number; a draw answers the word and adds one to it.
use Rattle.std.specs.Prelude.{◌≡◌, ℕ, ◌+◌, ◌-◌, ◌<◌, ◌≤◌, ◌^◌, nat_eq, nat_lt, if◌then◌else◌, List, [], ◌∷◌, ◌++◌, map, replicate, slice_set}
use Rattle.std.specs.List.{All, AllPairs, count_by, sum_by}
use mathlib.Core.Option.{some}
use lib.ListN.{get_elem?}
use Rattle.atomic_table.specs.Table.{State}
use Rattle.trace_clock.specs.declared.bounds.Bounds.{Bounds}
use Rattle.trace_clock.specs.declared.known.Known.{Known}
use Rattle.trace_clock.specs.declared.view.View.{View}

abbrev pub AllBelow : ℕ → List ℕ → Type 0
AllBelow n xs = All (λ x. x < n) xs

-- each number is above those before it
abbrev pub Rises : List ℕ → Type 0
Rises xs = AllPairs (λ x y. x < y) xs

-- how often a number stands in a list
abbrev pub times : ℕ → List ℕ → ℕ
times x xs = count_by (λ y. nat_eq y x) xs

-- how often a number was drawn, by all seats together
abbrev pub drawings : ℕ → List View → ℕ
drawings x views = sum_by (λ (v : View). times x v.drawn) views

-- each number stands in both equally often
abbrev pub HaveSameNumbers : List ℕ → List ℕ → Type 0
HaveSameNumbers xs ys = (x : ℕ) → times x xs ≡ times x ys

-- each number stands there at most once
abbrev pub EachOnce : List ℕ → Type 0
EachOnce xs = (x : ℕ) → times x xs ≤ 1

-- how many numbers all seats together may still draw
abbrev pub quotas : List View → ℕ
quotas views = sum_by (λ (v : View). v.quota) views

-- Each number from the start to below the word was drawn by just one seat, once, and no other number by any. The word and all quotas left make the
-- start and the total. What a seat drew rises.
pub record IsHistory (b : Bounds) (word : ℕ) (views : List View) : Type 0 where
  pub begun : b.start ≤ word
  pub counted : word + quotas views ≡ b.start + b.total
  pub once : (x : ℕ) → b.start ≤ x → x < word → drawings x views ≡ 1
  pub none_before : (x : ℕ) → x < b.start → drawings x views ≡ 0
  pub none_after : (x : ℕ) → word ≤ x → drawings x views ≡ 0
  pub each : (seat : ℕ) (v : View) → get_elem? views seat ≡ some v → Rises v.drawn × AllBelow word v.drawn

-- the clock has a history before and after the draw of n, in which the view of one seat alone changed, from v to w
abbrev pub Happens : Bounds → View → ℕ → View → Type 0
Happens b v n w = (views : List View) × (seat : ℕ) × (get_elem? views seat ≡ some v) × IsHistory b n views × IsHistory b (n + 1) (slice_set views seat w)

-- the clock has a history in which a seat has this view
abbrev pub Shows : Bounds → View → Type 0
Shows b v = (word : ℕ) × (views : List View) × (seat : ℕ) × (get_elem? views seat ≡ some v) × IsHistory b word views × (b.start + b.total < 2 ^ 64)

-- a seat that drew nothing
abbrev pub fresh : ℕ → View
fresh quota = record { drawn = []; quota = quota }

-- a seat after it drew n
abbrev pub drew : View → ℕ → View
drew v n = record { drawn = v.drawn ++ n ∷ []; quota = v.quota - 1 }

-- a seat that gave a part of its quota away
abbrev pub gave : View → ℕ → View
gave v quota = record { drawn = v.drawn; quota = v.quota - quota }

-- a number put in its place among numbers that rise
abbrev pub placed : ℕ → List ℕ → List ℕ
placed n [] = n ∷ []
placed n (x ∷ xs) = if nat_lt n x then n ∷ x ∷ xs else x ∷ placed n xs

-- two lists of numbers merged, in order
abbrev pub merged : List ℕ → List ℕ → List ℕ
merged xs [] = xs
merged xs (y ∷ ys) = placed y (merged xs ys)

-- a seat that took in another: it has both seats' numbers and quotas
abbrev pub both : View → View → View
both v w = record { drawn = merged v.drawn w.drawn; quota = v.quota + w.quota }

-- ---- what a seat heard of, which is no part of the history

abbrev pub knows : View → List ℕ → Known
knows v heard = record { view = v; heard = heard }

abbrev pub views_of : List Known → List View
views_of ks = map (λ (k : Known). k.view) ks

-- the numbers that a seat heard of, and those that it drew
abbrev pub numbers_of : Known → List ℕ
numbers_of k = k.heard ++ k.view.drawn

abbrev pub joined : Known → Known → Known
joined k l = knows (both k.view l.view) (k.heard ++ l.heard)

-- every number that a seat heard of was drawn: it is below the word
abbrev pub HeardBelow : ℕ → List Known → Type 0
HeardBelow word ks = (seat : ℕ) (k : Known) → get_elem? ks seat ≡ some k → AllBelow word k.heard

-- ---- the clock's table

-- Where the word stands among the words of its table: those before and behind it are unused, so that it has its cache lines to itself
abbrev pub place : ℕ
place = 15

abbrev pub laid : ℕ → List ℕ
laid word = slice_set (replicate 31 0) place word

-- what holds of a clock's table between any two steps
abbrev pub Keeps : Bounds → State ℕ Known → Type 0
Keeps b s = (b.start + b.total < 2 ^ 64) × ((word : ℕ) × (s.words ≡ laid word) × IsHistory b word (views_of s.views) × HeardBelow word s.views)

-- what a draw tells its seat: the number, which is above all that it drew before and all that it heard of
abbrev pub Draws : Bounds → Known → ℕ → Known → Type 0
Draws b k n l = (l ≡ knows (drew k.view n) k.heard) × AllBelow n k.view.drawn × AllBelow n k.heard × Happens b k.view n l.view
