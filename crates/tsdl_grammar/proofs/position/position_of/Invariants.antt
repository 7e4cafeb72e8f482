use Rattle.std.proofs.Common.{◌≡◌, ◌+◌, ◌≤◌, take}
use Rattle.tsdl_grammar.specs.Positions.{column_after}
use Rattle.tsdl_grammar.proofs.position.position_of.Given as goal

abbrev pub invariant-loop-b : goal.invariant-loop-b
invariant-loop-b l = (l.column ≡ column_after (take l.b-index l.before)) × (l.column ≤ l.b-index + 1)
