use Rattle.data_types.proofs.MembersLemmas.{found_says}
use Rattle.data_types.proofs.members.Members.contains.Goals as goal

pub returns : goal.returns
returns c =
    let n = c.args.name.now in
    rw c.contains_key.ensures (rw c.self.view_is at (found_says n c.self.inside.members.entries))
