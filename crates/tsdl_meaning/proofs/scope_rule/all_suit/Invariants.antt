use Rattle.std.proofs.Common.{◌≡◌, ℕ, ◌<◌, true, List, get_or}
use Rattle.tsdl_meaning.proofs.TextWords.{MemberType, suits_rule}
use Rattle.tsdl_meaning.proofs.scope_rule.all_suit.Given as goal

abbrev pub invariant-loop-index : goal.invariant-loop-index
invariant-loop-index l = (d : List ℕ × MemberType) (k : ℕ) → k < l.index → suits_rule l.rule (get_or l.members k d) ≡ true
