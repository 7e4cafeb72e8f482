use Rattle.tsdl_parser.proofs.Steps.{atoms_in, length}
use Rattle.tsdl_parser.proofs.Keywords.{Read}
use Rattle.tsdl_parser.proofs.keyword.first_unread.Given as goal

abbrev pub invariant-loop-front : goal.invariant-loop-front
invariant-loop-front l = Read (atoms_in l.text) (atoms_in l.rest) l.index

abbrev pub decreases-loop-front : goal.decreases-loop-front
decreases-loop-front l = length (atoms_in l.rest)
