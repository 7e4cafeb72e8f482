use Rattle.std.proofs.Common.{ℕ, ◌<◌, ◌≤◌, take}
use Rattle.std.specs.Prelude.{IsUtf8}
use Rattle.conf_fault.proofs.not_json.first_character.Given as goal

-- so far no bytes at the front are UTF-8
abbrev pub invariant-loop-len : goal.invariant-loop-len
invariant-loop-len l = (count : ℕ) → 0 < count → count ≤ l.len → ¬ IsUtf8 (take count l.bytes)
