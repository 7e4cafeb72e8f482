-- Alignment: where in a packet a field may begin (CTF 1.8.3, section 4.1.2, "align"). Positions count bits from the packet's start.
use Rattle.std.specs.Prelude.{◌≡◌, ℕ, ◌+◌, ◌-◌, ◌*◌, ◌/◌, ◌%◌, ◌<◌}

-- an alignment: a power of two up to 4,096, in bits. These are the divisors of 4,096
abbrev pub IsAlignment : ℕ → Type 0
IsAlignment a = (0 < a) × (4096 % a ≡ 0)

-- the least multiple of the alignment that is not below the position
unfoldable pub up : ℕ → ℕ → ℕ
up p a = (p + (a - 1)) / a * a
