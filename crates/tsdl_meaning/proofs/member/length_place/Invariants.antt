use Rattle.std.proofs.Common.{◌≡◌, ℕ, ◌<◌, false, List, get_or}
use Rattle.tsdl_meaning.proofs.TextWords.{MemberType}
use Rattle.tsdl_meaning.specs.Members.{is_length}
use Rattle.tsdl_meaning.proofs.member.length_place.Given as goal

abbrev pub invariant-loop-index : goal.invariant-loop-index
invariant-loop-index l = (d : List ℕ × MemberType) (k : ℕ) → k < l.index → is_length l.name (get_or l.before k d) ≡ false
