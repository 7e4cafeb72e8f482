use Rattle.std.proofs.Common.{◌≡◌, take}
use Rattle.data_types.proofs.members.MembersDuplicate.copy.Given as goal

abbrev pub invariant-loop-index : goal.invariant-loop-index
invariant-loop-index l = l.copied ≡ take l.index l.self
