use Rattle.tsdl_meaning.proofs.structure.has_member.Goals as goal
use Rattle.std.proofs.lemmas.Bool.Decides.{same_from_decides}
use Rattle.tsdl_meaning.proofs.MemberNames.{member_says}

pub returns-clause-is : goal.returns-clause-is
returns-clause-is c = same_from_decides c.contains.result _ c.contains.ensures (member_says c.args.name.now c.args.members.now)
