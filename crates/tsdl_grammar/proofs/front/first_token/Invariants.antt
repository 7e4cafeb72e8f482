use Rattle.std.proofs.Common.{◌≡◌, length}
use Rattle.tsdl_grammar.specs.Fronts.{atoms_in}
use Rattle.tsdl_grammar.proofs.front.first_token.Given as goal

-- what was passed over means nothing
abbrev pub invariant-loop-cut : goal.invariant-loop-cut
invariant-loop-cut l = atoms_in l.text ≡ atoms_in l.rest

abbrev pub decreases-loop-cut : goal.decreases-loop-cut
decreases-loop-cut l = length l.rest
