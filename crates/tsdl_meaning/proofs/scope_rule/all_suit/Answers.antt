use Rattle.std.proofs.Common.{◌≡◌, List, ℕ, true, arith, sym, []}
use Rattle.std.proofs.lemmas.List.Folds.{list_all_at}
use Rattle.std.proofs.lemmas.List.Elements.{All-from_get_or}
use Rattle.std.proofs.lemmas.List.Sums.{list_all-from_AllPass}
use Rattle.tsdl_meaning.proofs.TextWords.{MemberType, Plain, Str, suits_rule}
use Rattle.tsdl_meaning.proofs.scope_rule.all_suit.Goals as goal

a_member : List ℕ × MemberType
a_member = ([], Plain Str)

pub returns-then-not-suits_at : goal.returns-then-not-suits_at
returns-then-not-suits_at c =
    sym (list_all_at (suits_rule c.args.rule) c.args.members.now c.loop-index.index a_member (omega arith) (c.if-not-suits_at.ensures a_member))

pub returns : goal.returns
returns c =
    let p = suits_rule c.args.rule in
    let ms = c.args.members.now in
    sym (list_all-from_AllPass p ms (All-from_get_or (λ (m : List ℕ × MemberType). p m ≡ true) ms a_member (λ i h. c.loop-index.invariant a_member i (omega arith))))
