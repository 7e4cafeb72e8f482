use Rattle.std.proofs.Common.{◌≡◌, ◌++◌, ◌∷◌, [], Contains, None, ap, subst, ◌∙◌, rules}
use Rattle.indexmap.proofs.CallerLemmas.{insert_entry-new}
use Rattle.indexmap.specs.IndexMap.{get}
use Rattle.std.specs.String.{string_eq, string_bytes}
use Rattle.data_types.specs.Members.{named_members, names_in}
use Rattle.data_types.proofs.MembersLemmas.{named_push, not_found}
use Rattle.data_types.proofs.members.Members.push.Goals as goal
use Rattle.data_types.proofs.members.Members.push.Goals.{in-Ok, in-Err}

pub returns-clause-ok : goal.returns-clause-ok
returns-clause-ok c =
    let map = c.self.inside.members in
    let key = c.into_string.result in
    let missing : Contains (names_in (named_members map.entries)) (string_bytes key) → ⊥ = λ w.
    c.requires (subst (λ n. Contains (names_in c.args.self.now) n) c.into_string.ensures (subst (λ ms. Contains (names_in ms) (string_bytes key)) c.self.view_is w)) in
    let absent : get string_eq map key ≡ None = not_found (string_bytes key) map.entries missing in
    elim c.match-insert.branch [
      | in-Ok w ↦
          rw w.result-is
          (ap named_members (w.in-Ok.ensures.entries ∙ insert_entry-new string_eq map key c.args.member absent)
          ∙ named_push map.entries key c.args.member c.args.name c.into_string.ensures ∙ ap (λ ms. ms ++ (c.args.name, c.args.member) ∷ []) c.self.view_is)
      | in-Err w ↦ rw w.result-is (search rules)
    ]
