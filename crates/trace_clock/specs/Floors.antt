-- A clock with a floor: each reading is the larger of another clock's reading and the floor, which stays.
use Rattle.std.specs.Prelude.{◌≡◌, ℕ, ◌≤◌, max, Result, Ok, Err}
use Rattle.std.proofs.Common.{arith}
use Rattle.trace_platform.specs.declared.clock.ClockSpent.{ClockSpent}
use Rattle.trace_platform.specs.Count.{next_count}

module _ {S : Type 0} (reads : S → Result ℕ ClockSpent → S → Type 0) where
  -- the other clock and the floor before, the answer, and both after
  abbrev pub Reads : S → ℕ → Result ℕ ClockSpent → S → ℕ → Type 0
  Reads a floor (Ok n) b floor' = (m : ℕ) × reads a (Ok m) b × (n ≡ max m floor) × (floor' ≡ floor)
  Reads a floor (Err e) b floor' = reads a (Err e) b × (floor' ≡ floor)

  module _ (floor_of spent_of : S → ℕ) where
    -- the readings never fall, and each refusal is counted
    pub rises : ((a b : S) (n : ℕ) → reads a (Ok n) b → (floor_of a ≤ n) × (n ≤ floor_of b) × (spent_of b ≡ spent_of a))
        → (a : S) (floor : ℕ) (b : S) (floor' n : ℕ) → Reads a floor (Ok n) b floor'
        → (max (floor_of a) floor ≤ n) × (n ≤ max (floor_of b) floor') × (spent_of b ≡ spent_of a)
    rises law a floor b floor' n (m, read, is, same) = let h = law a b m read in (omega (arith, h.0, is), omega (arith, h.1, is, same), h.2)

    pub refuses : ((a b : S) (e : ClockSpent) → reads a (Err e) b → (floor_of a ≤ floor_of b) × (spent_of b ≡ next_count (spent_of a)))
        → (a : S) (floor : ℕ) (b : S) (floor' : ℕ) (e : ClockSpent) → Reads a floor (Err e) b floor'
        → (max (floor_of a) floor ≤ max (floor_of b) floor') × (spent_of b ≡ next_count (spent_of a))
    refuses law a floor b floor' e (read, same) = let h = law a b e read in (omega (arith, h.0, same), h.1)
