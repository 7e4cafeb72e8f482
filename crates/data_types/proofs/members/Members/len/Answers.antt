use Rattle.std.proofs.Common.{subst}
use Rattle.std.specs.List.{IsDistinct}
use Rattle.std.specs.Str.{bytes_eq}
use Rattle.data_types.specs.Members.{names_in}
use Rattle.data_types.proofs.MembersLemmas.{distinct_named}
use Rattle.data_types.proofs.members.Members.len.Goals as goal

pub returns-clause-distinct : goal.returns-clause-distinct
returns-clause-distinct c =
    subst (λ ms. IsDistinct bytes_eq (names_in ms)) c.self.view_is (distinct_named c.self.inside.members.entries c.len.ensures.unique)
