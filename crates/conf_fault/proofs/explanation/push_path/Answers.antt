use Rattle.std.proofs.Common.{◌≡◌, ◌++◌, [], ◌∷◌, ◌+◌, take, string_bytes, sym, ◌∙◌, ap, append_assoc, append-nil}
use Rattle.std.specs.Prelude.{codes}
use Rattle.std.specs.List.{flat_map}
use Rattle.std.proofs.lemmas.List.{flat_map_more, take_all, take_more, nil_from_length}
use Rattle.conf_fault.specs.Explanation.{further_step, path_words, step_words}
use Rattle.conf_fault.proofs.Adding.{appended_behind, behind}
use Rattle.conf_fault.proofs.explanation.push_path.Goals as goal

pub returns-in_default : goal.returns-in_default
unfolding path_words
returns-in_default c = sym (append-nil (string_bytes c.args.said.now)) ∙ ap (λ path. string_bytes c.args.said.now ++ path_words path) (sym (nil_from_length c.args.path.now c.in_default.ensures.cases))

pub loop-step-preserved : goal.loop-step-preserved
loop-step-preserved c =
    let others = c.in-Some.others.now in
    let i = c.loop-step.step-index in
    let item = c.step-item.result in
    let was = string_bytes c.push_step.new.said in
    let more : take (i + 1) others ≡ take i others ++ item ∷ [] = take_more others i item c.loop-step-test.true ∙ ap (λ x. take i others ++ x ∷ []) (sym c.step-item.is) in
    let slash = c.in_ok-push_str.ensures.bytes ∙ ap (λ z. z ++ codes "/") c.loop-step.invariant in
    c.in_ok-push_step-2.ensures ∙ ap (λ z. z ++ step_words item) slash ∙ append_assoc (was ++ flat_map further_step (take i others)) (codes "/") (step_words item)
    ∙ flat_map_more further_step was (take i others) item ∙ ap (λ z. was ++ flat_map further_step z) (sym more)

pub returns : goal.returns
unfolding path_words
returns c =
    let others = c.in-Some.others.now in
    let all = take_all c.loop-step.step-index others c.loop-step-test.false in
    let steps = c.loop-step.invariant ∙ ap (λ z. string_bytes c.push_step.new.said ++ flat_map further_step z) all in
    let front = behind (string_bytes c.args.said.now) _ _ (step_words c.in-Some.first.now) (flat_map further_step others) c.in_ok-push_step.ensures steps in
    appended_behind _ _ (step_words c.in-Some.first.now ++ flat_map further_step others) _ _ _ _ front c.push_str-2.ensures.bytes (sym (ap path_words c.in-Some.ensures.cases.0))
