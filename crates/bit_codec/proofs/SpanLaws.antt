-- Laws of spans of bits: zero from one position up to another, and unchanged outside of it.
use Rattle.std.proofs.Common.{◌⊎◌, ℕ, ◌≤◌, refl, ◌∙◌, inl, inr, arith}
use Rattle.std.proofs.lemmas.Bool.{cases_lt}
use Rattle.ctf_types.specs.Bits.{AreZero, SameOutside}

-- an empty span is zero
pub AreZero-none : (b : ℕ → ℕ) (at : ℕ) → AreZero b at at
unfolding AreZero
AreZero-none b at p low high = absurd (omega arith)

-- two zero spans, one after the other
pub AreZero-join : (b : ℕ → ℕ) (from middle to : ℕ) → AreZero b from middle → AreZero b middle to → AreZero b from to
unfolding AreZero
AreZero-join b from middle to first second p low high =
    elim (cases_lt p middle) [ inl before ↦ first p low before | inr after ↦ second p after high ]

-- a zero span stays zero where another span changes
pub AreZero-outside : (b c : ℕ → ℕ) (from to low high : ℕ) → SameOutside c b low high → (to ≤ low) ⊎ (high ≤ from) → AreZero b from to → AreZero c from to
unfolding AreZero SameOutside
AreZero-outside b c from to low high same (inl before) zeros p after below = same p (inl (omega arith)) ∙ zeros p after below
AreZero-outside b c from to low high same (inr behind) zeros p after below = same p (inr (omega arith)) ∙ zeros p after below

-- a zero span grows by a span that is made zero
pub AreZero-grow : (b c : ℕ → ℕ) (from middle to : ℕ) → AreZero b from middle → SameOutside c b middle to → AreZero c middle to → AreZero c from to
AreZero-grow b c from middle to zeros same more =
    AreZero-join c from middle to (AreZero-outside b c from middle middle to same (inl (omega arith)) zeros) more

-- nothing changed
pub SameOutside-none : (b : ℕ → ℕ) (from to : ℕ) → SameOutside b b from to
unfolding SameOutside
SameOutside-none b from to p outside = refl

-- one change after another, in a span that covers both
pub SameOutside-then : (old middle new : ℕ → ℕ) (from to a b c d : ℕ) → SameOutside middle old a b → SameOutside new middle c d
    → from ≤ a → b ≤ to → from ≤ c → d ≤ to → SameOutside new old from to
unfolding SameOutside
SameOutside-then old middle new from to a b c d first second from_a b_to from_c d_to p (inl before) =
    second p (inl (omega arith)) ∙ first p (inl (omega arith))
SameOutside-then old middle new from to a b c d first second from_a b_to from_c d_to p (inr after) =
    second p (inr (omega arith)) ∙ first p (inr (omega arith))
