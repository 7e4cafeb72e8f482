use Rattle.std.proofs.Common.{◌≡◌, ℕ, ◌<◌, false, take}
use Rattle.std.specs.Str.{is_utf8}
use Rattle.tsdl_grammar.proofs.wrong_character.first_character.Given as goal

-- no shorter front is a text
abbrev pub invariant-loop-len : goal.invariant-loop-len
invariant-loop-len l = (k : ℕ) → 0 < k → k < l.len → is_utf8 (take k l.bytes) ≡ false
