use Rattle.std.proofs.Common.{take}
use Rattle.std.specs.List.{flat_map}
use Rattle.tsdl_flaw.specs.Lengths.{HasLength}
use Rattle.tsdl_flaw.proofs.spelled.ListOfSpelled.length.Given as goal

abbrev pub invariant-loop-item : goal.invariant-loop-item
invariant-loop-item g l = HasLength (flat_map g.T.Spelled.toks (take l.item-index l.self)) l.count
