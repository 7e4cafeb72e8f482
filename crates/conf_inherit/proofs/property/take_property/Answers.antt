use Rattle.std.proofs.Common.{◌≡◌, Some, None, option_map, sym, ap, ◌∙◌}
use Rattle.serde_json.specs.{Data.{null, put}, Find.get_member, View.{view, members_view}}
use Rattle.serde_json.proofs.Views.{view-lookup}
use Rattle.conf_inherit.proofs.{SpentLemmas.{put_written, view_null}, TakenLemmas.{with_none, written_with}}
use Rattle.conf_inherit.proofs.property.take_property.Goals as goal

pub returns-in-Some : goal.returns-in-Some
returns-in-Some c =
    let n = c.args.name.now in
    let old = c.args.members.now.entries in
    let value = ap (option_map view) c.in-Some.ensures.value ∙ view-lookup n old in
    let now = (c.get_mut.follows.holds c.replace.new.dest).0 in
    record {
      found = ap (λ v. Some (view v)) c.replace.ensures.value ∙ value;
      others = λ d. ap (λ es. put n d (members_view es)) now ∙ put_written n d c.replace.new.dest old c.get_mut.ensures.ordered;
      left = ap members_view now ∙ written_with n (λ d. null) _ c.replace.new.dest old (sym value) (ap view c.replace.ensures.after ∙ view_null);
    }

pub returns-in-None-clause-found : goal.returns-in-None-clause-found
returns-in-None-clause-found c = ap (option_map view) c.in-None.ensures.value ∙ view-lookup c.args.name.now c.args.members.now.entries

pub returns-in-None-clause-left : goal.returns-in-None-clause-left
returns-in-None-clause-left c =
    let old = members_view c.args.members.now.entries in
    let none : get_member c.args.name.now old ≡ None = sym (view-lookup c.args.name.now c.args.members.now.entries) ∙ sym (ap (option_map view) c.in-None.ensures.value) in
    ap (λ m. members_view m.entries) c.get_mut.follows.holds-at-none ∙ sym (with_none c.args.name.now (λ d. null) old none)
