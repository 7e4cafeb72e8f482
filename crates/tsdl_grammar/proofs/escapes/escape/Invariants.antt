use Rattle.std.proofs.Common.{◌≡◌, take}
use Rattle.tsdl_grammar.specs.Escapes.{escaped}
use Rattle.tsdl_grammar.proofs.escapes.escape.Given as goal

abbrev pub invariant-loop-b : goal.invariant-loop-b
invariant-loop-b l = l.bytes.items ≡ escaped (take l.b-index l.text)
