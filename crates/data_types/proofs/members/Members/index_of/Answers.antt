use Rattle.std.proofs.Common.{◌∙◌, ap, position}
use Rattle.std.specs.Str.{bytes_eq}
use Rattle.data_types.specs.Members.{names_in}
use Rattle.data_types.proofs.MembersLemmas.{position_named}
use Rattle.data_types.proofs.members.Members.index_of.Goals as goal

pub returns : goal.returns
returns c =
    c.get_index_of.ensures.index ∙ position_named (bytes_eq c.args.name.now) c.self.inside.members.entries
    ∙ ap (λ ms. position (bytes_eq c.args.name.now) (names_in ms)) c.self.view_is
