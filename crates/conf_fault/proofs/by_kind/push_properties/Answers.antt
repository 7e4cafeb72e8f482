use Rattle.std.proofs.Common.{◌≡◌, ◌∙◌, ◌++◌, ap, map, rules, string_bytes, subst, tests}
use Rattle.std.specs.Prelude.{IfOk, Some}
use Rattle.std.proofs.lemmas.Result.{on_ok_weaker}
use Rattle.std.proofs.lemmas.Iterator.{YieldsList-from_slice, YieldsList-from_map_by}
use Rattle.std.proofs.lemmas.Iterator.Consumers.{map_from_collect}
use Rattle.conf_fault.specs.Explanation.{Adds}
use Rattle.conf_fault.specs.Expected.{listed}
use Rattle.conf_fault.specs.Wanted.{IsNearest, names_of}
use Rattle.conf_fault.proofs.WantedLemmas.{one_of, same_names, texts}
use Rattle.conf_fault.proofs.by_kind.push_properties.Goals as goal

pub returns : goal.returns
returns c =
    let names = names_of c.args.found.now.holder in
    let was = string_bytes c.args.said.now in
    let mid = string_bytes c.push_words.new.said in
    let collected = subst (λ r. IfOk r (λ words. texts words.items ≡ map (λ x. x.0.now) c.rows.result.now)) c.in_ok-names.was
    (map_from_collect _ c.collect.ensures.ran (YieldsList-from_map_by _ (λ r. r.now) (λ x. x.0.now) (YieldsList-from_slice c.rows.result.now (cc)) c.map.ensures.closure (λ x r q k. search (rules, tests)))) in
    let same = collected ∙ same_names c.rows.result.now ∙ ap (λ rows. map (λ r. r.name) rows) c.rows.ensures in
    on_ok_weaker c.push_nearest.result
    (λ (near : Adds (IsNearest c.args.name.now (texts c.as_slice-2.result.now)) mid (string_bytes c.push_nearest.new.said)).
    one_of (Some c.args.name.now) names was mid _ (c.in_ok-push_words.ensures ∙ ap (λ words. was ++ listed words) (ap texts c.as_slice.ensures.value ∙ same))
    (subst (λ words. Adds (IsNearest c.args.name.now words) mid (string_bytes c.push_nearest.new.said)) (ap texts c.as_slice-2.ensures.value ∙ same) near))
    c.push_nearest.ensures
