-- The readings of a seat never fall, and each refusal is counted.
use Rattle.std.specs.Prelude.{◌≡◌, ℕ, ◌<◌, ◌≤◌, max, List, [], ◌∷◌, ◌++◌, Ok, Err}
use Rattle.std.specs.List.{fold}
use Rattle.std.proofs.Common.{subst, sym, le_refl, arith}
use Rattle.std.proofs.lemmas.List.Elements.{All-head, All-tail}
use Rattle.trace_platform.specs.Count.{next_count}
use Rattle.trace_platform.specs.declared.clock.ClockSpent.{ClockSpent}
use Rattle.trace_clock.specs.declared.bounds.Bounds.{Bounds}
use Rattle.trace_clock.specs.declared.tick_seat.TickSeat.{TickSeat}
use Rattle.trace_clock.specs.declared.view.View.{View}
use Rattle.trace_clock.specs.History.{AllBelow, Happens}
use Rattle.trace_clock.specs.Seats.{Reads, bounds_of, drawn, floor_of, refused_of, view_of}

largest_at_most : (n m : ℕ) (xs : List ℕ) → m ≤ n → AllBelow n xs → fold max m xs ≤ n
largest_at_most n m [] le below = le
largest_at_most n m (x ∷ xs) le below =
    let lt = All-head (λ y. y < n) x xs below in
    largest_at_most n (max m x) xs (omega (arith, le, lt)) (All-tail (λ y. y < n) x xs below)

at_most_largest : (n m : ℕ) (xs : List ℕ) → n ≤ fold max m (xs ++ n ∷ [])
at_most_largest n m [] = omega arith
at_most_largest n m (x ∷ xs) = at_most_largest n (max m x) xs

-- a number that is drawn is not below the clock's first
not_before_start : (b : Bounds) (v : View) (n : ℕ) (w : View) → Happens b v n w → b.start ≤ n
not_before_start b v n w (views, seat, here, before, after) = before.begun

pub rises : (a b : TickSeat) (n : ℕ) → Reads a (Ok n) b → (floor_of a ≤ n) × (n ≤ floor_of b) × (refused_of b ≡ refused_of a)
rises a b n h = (
  largest_at_most n (bounds_of a).start (drawn a) (not_before_start (bounds_of a) (view_of a) n (view_of b) h.4) h.3,
  subst (λ xs. n ≤ fold max (bounds_of b).start xs) (sym h.2) (at_most_largest n (bounds_of b).start (drawn a)),
  h.5,
)

pub refuses : (a b : TickSeat) (e : ClockSpent) → Reads a (Err e) b → (floor_of a ≤ floor_of b) × (refused_of b ≡ next_count (refused_of a))
refuses a b e h = (
  subst (λ (k : Bounds). floor_of a ≤ fold max k.start (drawn b)) (sym h.0.1) (subst (λ (v : View). floor_of a ≤ fold max (bounds_of a).start v.drawn) (sym h.2) (le_refl (floor_of a))),
  h.3,
)
