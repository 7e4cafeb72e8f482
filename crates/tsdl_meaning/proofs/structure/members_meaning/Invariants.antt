use Rattle.std.proofs.Common.{◌≡◌, drop, []}
use Rattle.tsdl_meaning.proofs.TextWords.{members_meaning}
use Rattle.tsdl_meaning.proofs.structure.members_meaning.Given as goal

abbrev pub invariant-loop-member : goal.invariant-loop-member
invariant-loop-member l = members_meaning l.known l.before (drop l.member-index l.members) ≡ members_meaning l.known [] l.members
