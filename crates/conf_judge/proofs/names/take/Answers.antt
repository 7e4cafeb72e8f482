use Rattle.std.proofs.Common.{◌≡◌, string_bytes, ap, ◌∙◌, rules}
use Rattle.serde_json.specs.Data.{null, put}
use Rattle.serde_json.specs.View.{view, members_view}
use Rattle.serde_json.specs.declared.value.Value.{Null, the_lemmas}
use Rattle.serde_json.proofs.Views.{members_view-insert_entry}
use Rattle.conf_judge.proofs.names.take.Goals as goal

view-null : view Null ≡ null
view-null = search (rules, the_lemmas)

pub returns : goal.returns
returns c =
    ap members_view c.in_ok-insert.ensures.entries
    ∙ members_view-insert_entry c.args.taken.now.entries c.in_ok-name.name Null
    ∙ ap (λ d. put (string_bytes c.in_ok-name.name) d (members_view c.args.taken.now.entries)) view-null
    ∙ ap (λ k. put k null (members_view c.args.taken.now.entries)) c.in_ok-name.ensures.ok
