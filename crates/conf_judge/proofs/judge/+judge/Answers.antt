use Rattle.std.proofs.Common.{sym, ap, ◌∙◌, subst}
use Rattle.serde_json.specs.View.{view}
use Rattle.serde_json.proofs.Views.{view-Array, view-Object}
use Rattle.conf_tree.specs.Reading.{Gives}
use Rattle.conf_tree.specs.Walk.{refusal}
use Rattle.conf_table.specs.declared.row.Content.TheVariants.{At}
use Rattle.conf_judge.specs.Flaws.{inner_flaws}
use Rattle.conf_judge.specs.Known.{known_of}
use Rattle.conf_judge.proofs.judge.+judge.Goals as goal

pub check_inner-returns-in-Array : goal.check_inner-returns-in-Array
check_inner-returns-in-Array t c =
    subst (λ k. Gives (λ _. tt) c.check_items.result (refusal (inner_flaws (known_of c.args.around.now) k (view c.args.value.now)))) (sym c.in-At.is)
    (subst (λ d. Gives (λ _. tt) c.check_items.result (refusal (inner_flaws (known_of c.args.around.now) (At c.in-At.place) d)))
    (sym (ap view c.in-Array.is ∙ view-Array c.in-Array.items)) c.check_items.ensures)

pub check_inner-returns-in-Object : goal.check_inner-returns-in-Object
check_inner-returns-in-Object t c =
    subst (λ k. Gives (λ _. tt) c.check_object.result (refusal (inner_flaws (known_of c.args.around.now) k (view c.args.value.now)))) (sym c.in-At.is)
    (subst (λ d. Gives (λ _. tt) c.check_object.result (refusal (inner_flaws (known_of c.args.around.now) (At c.in-At.place) d)))
    (sym (ap view c.in-Object.is ∙ view-Object c.in-Object.members)) c.check_object.ensures)
