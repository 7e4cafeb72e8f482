use Rattle.std.proofs.Common.{◌≡◌, length, slice_get}
use Rattle.tsdl_grammar.specs.Fronts.{atoms_in}
use Rattle.tsdl_reader.proofs.place.atom_at.Given as goal

-- the atom that is looked for stands among those that are left
abbrev pub invariant-loop-front : goal.invariant-loop-front
invariant-loop-front l = slice_get (atoms_in l.text) l.at ≡ slice_get (atoms_in l.rest) l.before

abbrev pub decreases-loop-front : goal.decreases-loop-front
decreases-loop-front l = length (atoms_in l.rest)
