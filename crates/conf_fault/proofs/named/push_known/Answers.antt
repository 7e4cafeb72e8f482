use Rattle.std.proofs.Common.{◌∙◌, ◌++◌, ap, arith, string_bytes, subst, sym}
use Rattle.std.specs.Prelude.{None, Some, option_map}
use Rattle.std.proofs.lemmas.Result.{on_ok_weaker}
use Rattle.serde_json.specs.View.{view}
use Rattle.conf_fault.specs.Explanation.{Adds}
use Rattle.conf_fault.specs.Found.{data_of}
use Rattle.conf_fault.specs.Names.{known_names}
use Rattle.conf_fault.specs.Wanted.{IsNearest, IsTextThere, few_listed}
use Rattle.conf_fault.proofs.WantedLemmas.{known, none_near, texts}
use Rattle.conf_fault.proofs.named.push_known.Goals as goal

pub returns-in_default : goal.returns-in_default
returns-in_default c =
    let tree = option_map view c.in_ok-tree.tree in
    let names = known_names c.args.map_name.now c.args.own.now tree in
    let opened = c.in_ok-push_str.ensures.bytes ∙ ap (λ z. string_bytes c.args.said.now ++ z) (c.as_str.ensures.value ∙ c.in_ok-format.ensures.ok) in
    let listed = c.in_ok-push_names.ensures ∙ ap (λ ns. string_bytes c.push_str.new.self ++ few_listed ns) (ap texts c.as_slice.ensures.value ∙ c.in_ok-words.ensures) in
    let closed = c.in_ok-push.ensures.bytes ∙ ap (λ z. string_bytes c.push_names.new.said ++ z) (c.in_ok-push.ensures.ascii (omega arith)) in
    let stands : IsTextThere c.args.found.now.source.text.now (data_of c.args.found.now.value) None = subst (IsTextThere c.args.found.now.source.text.now (data_of c.args.found.now.value)) (ap (option_map string_bytes) c.in_default.is) c.in_ok-word.ensures in
    known c.args.found.now.source.text.now c.args.thing.now c.args.map_name.now c.args.own.now _ _ _ _ _ tree (data_of c.args.found.now.value) None c.in_ok-tree.ensures stands opened listed closed
    (none_near names (string_bytes c.push.new.self))

pub returns : goal.returns
returns c =
    let text = c.args.found.now.source.text.now in
    let tree = option_map view c.in_ok-tree.tree in
    let names = known_names c.args.map_name.now c.args.own.now tree in
    let opened = c.in_ok-push_str.ensures.bytes ∙ ap (λ z. string_bytes c.args.said.now ++ z) (c.as_str.ensures.value ∙ c.in_ok-format.ensures.ok) in
    let listed = c.in_ok-push_names.ensures ∙ ap (λ ns. string_bytes c.push_str.new.self ++ few_listed ns) (ap texts c.as_slice.ensures.value ∙ c.in_ok-words.ensures) in
    let closed = c.in_ok-push.ensures.bytes ∙ ap (λ z. string_bytes c.push_names.new.said ++ z) (c.in_ok-push.ensures.ascii (omega arith)) in
    let word = c.as_str-2.result.now in
    let mid = string_bytes c.push.new.self in
    let now = string_bytes c.push_nearest.new.said in
    let value = data_of c.args.found.now.value in
    let stands : IsTextThere text value (Some word) = subst (IsTextThere text value) (ap (option_map string_bytes) c.in-Some.is ∙ ap Some (sym c.as_str-2.ensures.value)) c.in_ok-word.ensures in
    on_ok_weaker c.push_nearest.result
    (λ (near : Adds (IsNearest word (texts c.as_slice-2.result.now)) mid now).
    known text c.args.thing.now c.args.map_name.now c.args.own.now _ _ _ _ _ tree value (Some word) c.in_ok-tree.ensures stands opened listed closed
    (subst (λ ns. Adds (IsNearest word ns) mid now) (ap texts c.as_slice-2.ensures.value ∙ c.in_ok-words.ensures) near))
    c.push_nearest.ensures
