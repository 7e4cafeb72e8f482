use Rattle.std.proofs.Common.{◌≡◌, ◌++◌, false, drop}
use Rattle.tsdl_grammar.specs.Escapes.{unescaped_from}
use Rattle.tsdl_grammar.proofs.escapes.unescape.Given as goal

abbrev pub invariant-loop-b : goal.invariant-loop-b
invariant-loop-b l = l.text.items ++ unescaped_from l.after_backslash (drop l.b-index l.bytes) ≡ unescaped_from false l.bytes
