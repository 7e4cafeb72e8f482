use Rattle.std.proofs.Common.{◌≡◌, ◌-◌, ◌^◌, take, min}
use Rattle.tsdl_meaning.proofs.TextWords.{elements_of}
use Rattle.tsdl_meaning.proofs.array.are_few.Given as goal

abbrev pub invariant-loop-length : goal.invariant-loop-length
invariant-loop-length l = l.elements ≡ min (elements_of (take l.length-index l.lengths)) (2 ^ 64 - 1)
