-- What a writer holds after writes that may have stopped on their way.
use Rattle.std.specs.Prelude.{◌≡◌, ℕ, ◌<◌, ◌≤◌, List, length, take, drop, Option}
use Rattle.std.specs.Io.KnownBytes.{Appends}

-- known bytes grow by some front of these
abbrev pub AppendsFront : Option (List ℕ) → Option (List ℕ) → List ℕ → Type 0
AppendsFront old new bytes = (n : ℕ) × (n ≤ length bytes) × Appends old new (take n bytes)

-- known bytes grow by a front of these that is not all of them
abbrev pub AppendsLess : Option (List ℕ) → Option (List ℕ) → List ℕ → Type 0
AppendsLess old new bytes = (n : ℕ) × (n < length bytes) × Appends old new (take n bytes)

-- known bytes grow by a front of these, and the rest is left
pub record Advances (old new : Option (List ℕ)) (bytes left : List ℕ) : Type 0 where
  pub count : ℕ
  pub within : count ≤ length bytes
  pub written : Appends old new (take count bytes)
  pub left_is : left ≡ drop count bytes
