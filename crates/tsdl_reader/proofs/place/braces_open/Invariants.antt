use Rattle.std.proofs.Common.{length}
use Rattle.tsdl_grammar.specs.Fronts.{atoms_in}
use Rattle.tsdl_reader.proofs.place.braces_open.Given as goal

abbrev pub decreases-loop-front : goal.decreases-loop-front
decreases-loop-front l = length (atoms_in l.rest)
