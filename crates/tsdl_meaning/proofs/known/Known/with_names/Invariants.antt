use Rattle.std.proofs.Common.{take}
use Rattle.tsdl_meaning.proofs.TextWords.{HasNames}
use Rattle.tsdl_meaning.proofs.known.Known.with_names.Given as goal

abbrev pub invariant-loop-clock : goal.invariant-loop-clock
invariant-loop-clock l = HasNames l.names (take l.clock-index l.listed)
