use Rattle.std.proofs.Common.{◌++◌, List, string_bytes, refl, ◌∙◌, ap, arith, sym, subst}
use Rattle.std.specs.Prelude.{codes, option_map}
use Rattle.serde_json.specs.View.{view}
use Rattle.conf_tree.specs.declared.step.Step.{Step}
use Rattle.conf_fault.specs.Explanation.{IsPlaced, IsStanding, IsWanted, path_words, place_words}
use Rattle.conf_fault.specs.Found.{Leads, data_of, end_of, outermost}
use Rattle.conf_fault.specs.Names.{IsRead}
use Rattle.conf_fault.specs.Wanted.{IsEnd}
use Rattle.conf_fault.specs.declared.source.Source.{Source}
use Rattle.conf_fault.proofs.Adding.{added, behind}
use Rattle.conf_fault.proofs.EndLemmas.{copied_data}
use Rattle.conf_fault.proofs.explanation.push_placed.Goals as goal

pub wanted_words-requires : goal.wanted_words-requires
wanted_words-requires c =
    let text = c.args.source.text.now in
    let tree = c.as_ref.result in
    let end = end_of c.in_ok-found.found in
    let read : IsRead text (data_of tree) = subst (IsRead text) (ap (option_map view) (sym c.as_ref.ensures.value) ∙ copied_data tree) c.in_ok-tree.ensures in
    let leads = subst (λ (path : List Step). Leads text (outermost (data_of tree)) path end) c.as_slice.ensures c.in_ok-found.ensures.ends in
    subst (λ (s : Source). IsEnd s.text.now c.args.fault.now end) (sym c.in_ok-found.ensures.source) (data_of tree, read, leads)

pub returns : goal.returns
returns c =
    let fault = c.args.fault.now in
    let place = place_words c.line_column.result in
    let path = path_words fault.path in
    let alias = c.in_ok-push_alias.ensures in
    let standing = c.in_ok-push_standing.ensures in
    let path_said = c.in_ok-push_path.ensures ∙ ap (λ z. string_bytes c.push_place.new.said ++ path_words z) c.as_slice-2.ensures in
    let behind_path = behind _ _ _ place path c.in_ok-push_place.ensures path_said in
    let behind_alias = behind _ _ _ (place ++ path) alias.0 behind_path alias.2 in
    let behind_standing = behind _ _ _ (place ++ path ++ alias.0) standing.0 behind_alias standing.2 in
    added (IsPlaced c.args.source.text.now fault) _ _ _ _ _ _ _
    (behind _ _ _ (place ++ path ++ alias.0 ++ standing.0) (codes ": expected ") behind_standing c.in_ok-push_str.ensures.bytes) c.push_str-2.ensures.bytes refl
    (record {
      at = c.min-at.result;
      place = c.line_column.result;
      alias = alias.0;
      standing = standing.0;
      wanted = c.as_str.result.now;
      lies = (omega (arith, c.min-at.ensures), c.line_column.ensures.line, c.line_column.ensures.column);
      in_alias = alias.1;
      stands = subst (λ (s : Source). IsStanding fault.kind s.text.now c.min-at.result standing.0) c.in_ok-found.ensures.source standing.1;
      expects = subst (IsWanted c.args.source.text.now fault) (sym c.as_str.ensures.value) (subst (λ (s : Source). IsWanted s.text.now fault (string_bytes c.in_ok-wanted_words.field-0)) c.in_ok-found.ensures.source c.in_ok-wanted_words.ensures);
      is = refl;
    })
