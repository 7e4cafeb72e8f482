-- The clock of a list: its readings come in their order, and it refuses exactly where none is left.
use Rattle.std.specs.Prelude.{◌≡◌, ℕ, ◌≤◌, List, [], ◌∷◌, Result, Ok, Err}
use Rattle.std.proofs.Common.{ap, arith}
use Rattle.trace_platform.specs.declared.clock.ClockSpent.{ClockSpent}
use Rattle.trace_platform.specs.Count.{next_count}

-- the readings to come, the last one given, and how many were refused
pub record Readings : Type 0 where
  pub left : List ℕ
  pub floor : ℕ
  pub spent : ℕ

abbrev pub Reads : Readings → Result ℕ ClockSpent → Readings → Type 0
Reads a (Ok n) b = (a.floor ≤ n) × (a.left ≡ n ∷ b.left) × (b ≡ record { left = b.left; floor = n; spent = a.spent })
Reads a (Err e) b = (a.left ≡ []) × (b ≡ record { left = []; floor = a.floor; spent = next_count a.spent })

pub rises : (a b : Readings) (n : ℕ) → Reads a (Ok n) b → (a.floor ≤ n) × (n ≤ b.floor) × (b.spent ≡ a.spent)
rises a b n h = (h.0, omega (arith, ap (λ (c : Readings). c.floor) h.2), ap (λ (c : Readings). c.spent) h.2)

pub refuses : (a b : Readings) (e : ClockSpent) → Reads a (Err e) b → (a.floor ≤ b.floor) × (b.spent ≡ next_count a.spent)
refuses a b e h = (omega (arith, ap (λ (c : Readings). c.floor) h.1), ap (λ (c : Readings). c.spent) h.1)
