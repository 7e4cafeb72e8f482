use Rattle.std.proofs.Common.{List, ℕ, arith, []}
use Rattle.tsdl_meaning.proofs.TextWords.{MemberType, Plain, Str}
use Rattle.tsdl_meaning.specs.Members.{is_length}
use Rattle.tsdl_meaning.proofs.MemberNames.{first_place, no_place}
use Rattle.tsdl_meaning.proofs.member.length_place.Goals as goal

a_member : List ℕ × MemberType
a_member = ([], Plain Str)

pub returns-then-is_length : goal.returns-then-is_length
returns-then-is_length c =
    first_place (is_length c.args.name.now) c.args.before.now c.loop-index.index a_member (omega arith) (c.loop-index.invariant a_member) (c.if-is_length.ensures a_member)

pub returns : goal.returns
returns c = no_place (is_length c.args.name.now) c.args.before.now a_member (λ k h. c.loop-index.invariant a_member k (omega arith))
