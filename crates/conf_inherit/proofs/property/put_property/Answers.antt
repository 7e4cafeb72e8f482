use Rattle.std.proofs.Common.{option_map, string_bytes, sym, ap, ◌∙◌}
use Rattle.serde_json.specs.{Data.put, View.{view, members_view}}
use Rattle.serde_json.proofs.Views.{members_view-insert_entry, view-lookup}
use Rattle.conf_inherit.proofs.SpentLemmas.{written_put}
use Rattle.conf_inherit.proofs.property.put_property.Goals as goal

pub returns-in-Some : goal.returns-in-Some
returns-in-Some c =
    let n = c.as_str.result.now in
    let old = c.args.members.now.entries in
    let found = ap (option_map view) c.in-Some.ensures.value ∙ view-lookup n old in
    ap members_view (c.get_mut.follows.holds c.args.value).0
    ∙ written_put n c.args.value (view c.in-Some.place.now) old c.get_mut.ensures.ordered (sym found)
    ∙ ap (λ k. put k (view c.args.value) (members_view old)) c.as_str.ensures.value

pub returns-in_ok-insert-in-None : goal.returns-in_ok-insert-in-None
returns-in_ok-insert-in-None c =
    let name = c.in_ok-clone-in-None.field-0 in
    ap members_view c.in_ok-insert-in-None.ensures.entries
    ∙ members_view-insert_entry c.get_mut.follows.lender-at-none.entries name c.args.value
    ∙ ap (λ m. put (string_bytes name) (view c.args.value) (members_view m.entries)) c.get_mut.follows.holds-at-none
    ∙ ap (λ k. put k (view c.args.value) (members_view c.args.members.now.entries)) c.in_ok-clone-in-None.ensures.cases
