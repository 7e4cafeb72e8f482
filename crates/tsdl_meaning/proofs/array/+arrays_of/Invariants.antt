use Rattle.std.proofs.Common.{length}
use Rattle.tsdl_meaning.proofs.array.+arrays_of.Given as goal

abbrev pub decreases-arrays_of : goal.decreases-arrays_of
decreases-arrays_of l = length l.lengths.now
