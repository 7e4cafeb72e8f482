use Rattle.std.proofs.Common.{inl, inr}
use Rattle.std.proofs.lemmas.Result.{IfOk-weaker, IfErr-weaker, err_from_is_err_and}
use Rattle.serde_json.specs.View.{view}
use Rattle.conf_tree.specs.Flaw.{flaw_of}
use Rattle.conf_check.proofs.ConfigurationLaws.{memory_or, text_excluded, no_tree, memory_alone, refused_for_memory, configured_by_look_up, answered_by_look_up}
use Rattle.conf_check.proofs.ExcludedTexts.{tree_excluded, none_to_tell, first_told, none_inherited, told_of_tree}
use Rattle.conf_check.proofs.configuration.configure.Goals as goal

pub returns-clause-only : goal.returns-clause-only
returns-clause-only c =
    IfErr-weaker c.check.result _ _ (λ fault. memory_alone c.args.text.now c.args.number (view c.in_ok-tree.tree.value) (view c.in_ok-resolved.resolved.value) fault c.in_ok-tree.ensures.tree c.in_ok-resolved.ensures.first) c.check.ensures.only

pub returns-clause-exact : goal.returns-clause-exact
returns-clause-exact c =
    λ x. answered_by_look_up c.args.text.now c.args.number (view c.in_ok-tree.tree.value) (view c.in_ok-resolved.resolved.value) x c.check.result c.in_ok-tree.ensures.tree c.in_ok-resolved.ensures.resolved c.check.ensures.rows c.check.ensures.only

pub returns-clause-looked_up : goal.returns-clause-looked_up
returns-clause-looked_up c =
    IfOk-weaker c.check.result _ _ (λ x. configured_by_look_up c.args.text.now c.args.number (view c.in_ok-tree.tree.value) (view c.in_ok-resolved.resolved.value) x c.in_ok-tree.ensures.tree c.in_ok-resolved.ensures.first c.in_ok-resolved.ensures.resolved) c.check.ensures.rows

pub returns-clause-faultless : goal.returns-clause-faultless
returns-clause-faultless c =
    IfOk-weaker c.check.result _ _ (λ x. text_excluded c.args.text.now c.args.number x (view c.in_ok-tree.tree.value) (view c.in_ok-resolved.resolved.value) c.in_ok-tree.ensures.tree c.in_ok-resolved.ensures.first c.in_ok-resolved.ensures.resolved) c.check.ensures.rows

pub returns-clause-refused : goal.returns-clause-refused
returns-clause-refused c =
    IfErr-weaker c.check.result _ _ (λ fault first. memory_or first (λ first. inr (inr (view c.in_ok-tree.tree.value, view c.in_ok-resolved.resolved.value, c.in_ok-tree.ensures.tree, c.in_ok-resolved.ensures.first, first)))) c.check.ensures.first

pub returns-clause-holds : goal.returns-clause-holds
returns-clause-holds c =
    IfErr-weaker c.check.result _ _ (λ fault wrong. memory_or wrong (λ wrong. inr (inr (view c.in_ok-tree.tree.value, view c.in_ok-resolved.resolved.value, c.in_ok-tree.ensures.tree, c.in_ok-resolved.ensures.resolved, wrong)))) c.check.ensures.refused

pub returns-clause-first_in_tree : goal.returns-clause-first_in_tree
returns-clause-first_in_tree c =
    IfErr-weaker c.check.result _ _ (λ fault only. inr (none_to_tell c.args.text.now (view c.in_ok-tree.tree.value) (flaw_of fault) c.in_ok-tree.ensures.tree)) c.check.ensures.only

pub returns-in_err-resolved-clause-first_in_tree : goal.returns-in_err-resolved-clause-first_in_tree
returns-in_err-resolved-clause-first_in_tree c =
    let p = err_from_is_err_and c.from_residual-in_err-resolved.result c.from_residual-in_err-resolved.ensures.1 in
    rw (p.1, p.2) (inr (none_to_tell c.args.text.now (view c.in_ok-tree.tree.value) (flaw_of c.in_err-resolved.field-0.0) c.in_ok-tree.ensures.tree))

pub returns-in_err-tree-clause-first_in_tree : goal.returns-in_err-tree-clause-first_in_tree
returns-in_err-tree-clause-first_in_tree c =
    let p = err_from_is_err_and c.from_residual.result c.from_residual.ensures.1 in
    rw (p.1, p.2) (first_told c.args.text.now c.in_err-tree.field-0.0 c.in_err-tree.ensures.first)

pub returns-in_err-resolved-clause-exact : goal.returns-in_err-resolved-clause-exact
returns-in_err-resolved-clause-exact c =
    let p = err_from_is_err_and c.from_residual-in_err-resolved.result c.from_residual-in_err-resolved.ensures.1 in
    rw (p.1, p.2) (λ x. refused_for_memory c.args.text.now c.args.number (view c.in_ok-tree.tree.value) c.in_err-resolved.field-0.0 x c.in_ok-tree.ensures.tree c.in_err-resolved.ensures.refused)

pub returns-in_err-tree-clause-holds : goal.returns-in_err-tree-clause-holds
returns-in_err-tree-clause-holds c =
    let p = err_from_is_err_and c.from_residual.result c.from_residual.ensures.1 in
    rw (p.1, p.2) (memory_or (no_tree c.args.text.now c.in_err-tree.field-0.0 c.in_err-tree.ensures.first c.in_err-tree.ensures.holds) inl)

pub returns-in_err-resolved-clause-holds : goal.returns-in_err-resolved-clause-holds
returns-in_err-resolved-clause-holds c =
    let p = err_from_is_err_and c.from_residual-in_err-resolved.result c.from_residual-in_err-resolved.ensures.1 in
    rw (p.1, p.2) (memory_or c.in_err-resolved.ensures.refused (λ wrong. inr (inl (view c.in_ok-tree.tree.value, c.in_ok-tree.ensures.tree, wrong))))

pub returns-clause-inherited_in_turn : goal.returns-clause-inherited_in_turn
returns-clause-inherited_in_turn c =
    IfErr-weaker c.check.result _ _ (λ fault only. inr (none_inherited c.args.text.now (view c.in_ok-tree.tree.value) (view c.in_ok-resolved.resolved.value) (flaw_of fault) c.in_ok-tree.ensures.tree c.in_ok-resolved.ensures.first)) c.check.ensures.only

pub returns-in_err-resolved-clause-inherited_in_turn : goal.returns-in_err-resolved-clause-inherited_in_turn
returns-in_err-resolved-clause-inherited_in_turn c =
    let p = err_from_is_err_and c.from_residual-in_err-resolved.result c.from_residual-in_err-resolved.ensures.1 in
    rw (p.1, p.2) (memory_or c.in_err-resolved.ensures.in_turn (told_of_tree c.args.text.now (view c.in_ok-tree.tree.value) (flaw_of c.in_err-resolved.field-0.0) c.in_ok-tree.ensures.tree))

pub returns-in_err-tree-clause-inherited_in_turn : goal.returns-in_err-tree-clause-inherited_in_turn
returns-in_err-tree-clause-inherited_in_turn c =
    let p = err_from_is_err_and c.from_residual.result c.from_residual.ensures.1 in
    rw (p.1, p.2)
    (memory_or (no_tree c.args.text.now c.in_err-tree.field-0.0 c.in_err-tree.ensures.first c.in_err-tree.ensures.holds) (λ none t tree. absurd (tree_excluded c.args.text.now t (flaw_of c.in_err-tree.field-0.0) tree none)))
