use Rattle.tsdl_parser.proofs.Steps.{atoms_in, length}
use Rattle.tsdl_parser.proofs.room.room_for.Given as goal

abbrev pub decreases-loop-front : goal.decreases-loop-front
decreases-loop-front l = length (atoms_in l.rest)
