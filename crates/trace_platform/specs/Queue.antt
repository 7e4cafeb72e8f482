-- The back end of lists: packets wait in their order, and buffers are spare. It is full exactly where no buffer is spare, and hands a packet back
-- only where as many packets wait as it was made for. What no line names stays as it is.
use Rattle.std.specs.Prelude.{◌≡◌, ℕ, ◌<◌, ◌≤◌, Bool, true, false, ◌&&◌, nat_eq, nat_lt, if◌then◌else◌, List, [], ◌∷◌, ◌++◌, length, Option, None, Some, Result, Ok, Err}
use Rattle.packet_writer.specs.declared.packet.Packet.{Packet}
use Rattle.trace_platform.specs.Count.{next_count}

pub record Queue : Type 0 where
  pub waiting : List Packet
  pub spares : List (List ℕ)
  pub bytes : ℕ
  pub buffers : ℕ
  pub fulls : ℕ

abbrev pub Looks : Queue → Bool → Queue → Type 0
Looks a true b = (a.spares ≡ []) × (b ≡ record a { fulls = next_count a.fulls })
Looks a false b = (0 < length a.spares) × (b ≡ a)

-- the last spare buffer
abbrev pub Lends : Queue → Option (List ℕ) → Queue → Type 0
Lends a None b = (a.spares ≡ []) × (b ≡ a)
Lends a (Some buffer) b = (length buffer ≡ a.bytes) × (a.spares ≡ b.spares ++ buffer ∷ []) × (b ≡ record a { spares = b.spares })

abbrev pub Hands : Queue → Packet → Result (Unit {0}) Packet → Queue → Type 0
Hands a p (Ok u) b = (length a.waiting < a.buffers) × (b ≡ record a { waiting = a.waiting ++ p ∷ [] })
Hands a p (Err q) b = (q ≡ p) × (a.buffers ≤ length a.waiting) × (b ≡ record a { fulls = next_count a.fulls })

abbrev pub Takes : Queue → Option Packet → Queue → Type 0
Takes a None b = (a.waiting ≡ []) × (b ≡ a)
Takes a (Some p) b = (a.waiting ≡ p ∷ b.waiting) × (b ≡ record a { waiting = b.waiting })

-- a buffer of another length, or one that comes while as many are spare as it was made for, is dropped
abbrev pub is_kept : Queue → List ℕ → Bool
is_kept a buffer = nat_eq (length buffer) a.bytes && nat_lt (length a.spares) a.buffers

abbrev pub Regains : Queue → List ℕ → Queue → Type 0
Regains a buffer b = b ≡ (if is_kept a buffer then record a { spares = a.spares ++ buffer ∷ [] } else a)
