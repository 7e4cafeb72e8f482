use Rattle.std.proofs.Common.{take}
use Rattle.conf_fault.proofs.NearestLemmas.{AreWithin, IsBest}
use Rattle.conf_fault.proofs.expected.nearest.Given as goal

abbrev pub invariant-loop-word : goal.invariant-loop-word
invariant-loop-word l = record {
  seen : AreWithin l.text l.most l.least (take l.word-index l.words);
  best : IsBest l.floor l.text l.words l.most l.least l.nearest;
}
