use Rattle.std.proofs.Common.{ℕ, List, Contains, subst, arith}
use Rattle.tsdl_meaning.proofs.TextWords.{names_in, word}
use Rattle.tsdl_meaning.proofs.StopsInMembers.{member_twice, member_many}
use Rattle.tsdl_meaning.proofs.judge.structure.judge_member_name.Goals as goal

pub returns-then-has_member-clause-fault : goal.returns-then-has_member-clause-fault
returns-then-has_member-clause-fault c = λ done kind same front behind ends.
    let members = c.args.members.now in
    let name = c.args.name.now in
    let there = subst (λ (w : List ℕ). Contains (names_in members) w) c.as_str.ensures (c.has_member.ensures.found.0 c.if-has_member.true) in
    c.at_atom.ensures front behind (word name) (member_twice done members kind name front same there ends)

pub returns-then-len-ge-MAX_MEMBERS-clause-fault : goal.returns-then-len-ge-MAX_MEMBERS-clause-fault
returns-then-len-ge-MAX_MEMBERS-clause-fault c = λ done kind same front behind ends.
    let name = c.args.name.now in
    c.at_atom-then-len-ge-MAX_MEMBERS.ensures front behind (word name) (member_many done c.args.members.now kind name front same (omega (arith, c.len.ensures.len)) ends)
