use Rattle.std.proofs.Common.{◌∷◌, take}
use Rattle.tsdl_meaning.proofs.TextWords.{AreRanges, StandsBehind}
use Rattle.tsdl_meaning.proofs.StopsInMembers.{range_before}
use Rattle.tsdl_meaning.proofs.judge.kind.judge_ranges.Given as goal

-- the ranges so far stand before the place
abbrev pub invariant-loop-index : goal.invariant-loop-index
invariant-loop-index l =
    record { place : StandsBehind l.at (range_before l.first l.others l.index) l.next; ranges : AreRanges (l.first ∷ take l.index l.others) }
