use Rattle.std.proofs.Common.{◌≡◌, ◌+◌, length}
use Rattle.tsdl_grammar.specs.Fronts.{atoms_in}
use Rattle.tsdl_grammar.proofs.front.atom_count.Given as goal

abbrev pub invariant-loop-behind : goal.invariant-loop-behind
invariant-loop-behind l = l.count + length (atoms_in l.rest) ≡ length (atoms_in l.text)

abbrev pub decreases-loop-behind : goal.decreases-loop-behind
decreases-loop-behind l = length (atoms_in l.rest)
