use Rattle.std.proofs.Common.{◌≡◌, drop}
use Rattle.tsdl_meaning.proofs.TextWords.{count_of, each, with_front}
use Rattle.tsdl_meaning.proofs.array.counts_of.Given as goal

abbrev pub invariant-loop-bracket : goal.invariant-loop-bracket
invariant-loop-bracket l = with_front l.counts (each count_of (drop l.bracket-index l.brackets)) ≡ each count_of l.brackets
