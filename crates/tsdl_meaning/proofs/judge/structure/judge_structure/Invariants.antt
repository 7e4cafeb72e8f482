use Rattle.std.proofs.Common.{◌++◌, take}
use Rattle.tsdl_meaning.proofs.TextWords.{StandsBehind, flat_map, member_toks}
use Rattle.tsdl_meaning.proofs.StopsInMembers.{struct_opening}
use Rattle.tsdl_meaning.proofs.FlawlessTypes.{AreFlawless}
use Rattle.tsdl_meaning.proofs.judge.structure.judge_structure.Given as goal

-- the members so far stand before the place
abbrev pub invariant-loop-tree : goal.invariant-loop-tree
invariant-loop-tree l =
    record { stands : StandsBehind l.at (struct_opening ++ flat_map member_toks (take l.tree-index l.trees)) l.next; flawless : AreFlawless l.judging.survey.now.known l.rule (take l.tree-index l.trees) l.members }
