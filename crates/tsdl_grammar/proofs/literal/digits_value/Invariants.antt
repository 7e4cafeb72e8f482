use Rattle.std.proofs.Common.{◌≡◌, ◌<◌, ◌^◌, drop}
use Rattle.tsdl_grammar.specs.Literals.{digits_from}
use Rattle.tsdl_grammar.proofs.literal.digits_value.Given as goal

abbrev pub invariant-loop-b : goal.invariant-loop-b
invariant-loop-b l = (digits_from l.radix l.value (drop l.b-index l.bytes) ≡ digits_from l.radix 0 l.bytes) × (l.value < 2 ^ 64)
