use Rattle.std.proofs.Common.{◌≡◌, length}
use Rattle.tsdl_meaning.proofs.TextWords.{has_only, names_of}
use Rattle.tsdl_meaning.proofs.lookup.has_only.Given as goal

abbrev pub invariant-loop-rest : goal.invariant-loop-rest
invariant-loop-rest l = has_only (names_of l.allowed) l.rest ≡ has_only (names_of l.allowed) l.attributes

abbrev pub decreases-loop-rest : goal.decreases-loop-rest
decreases-loop-rest l = length l.rest
