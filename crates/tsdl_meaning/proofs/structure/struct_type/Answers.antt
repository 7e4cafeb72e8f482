use Rattle.tsdl_meaning.proofs.MemberNames.{struct_made}
use Rattle.tsdl_meaning.proofs.structure.struct_type.Goals as goal

pub returns : goal.returns
returns c = struct_made c.new.result c.args.members c.args.align c.new.ensures.accepted c.new.ensures.members c.new.ensures.min_align
