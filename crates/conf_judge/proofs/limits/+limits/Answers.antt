use Rattle.std.proofs.Common.{sym, ap, ◌∙◌, subst}
use Rattle.serde_json.specs.View.{view, members_view}
use Rattle.serde_json.proofs.Views.{view-Array, view-Object}
use Rattle.conf_tree.specs.Reading.{Gives}
use Rattle.conf_tree.specs.Walk.{refusal}
use Rattle.conf_table.specs.declared.row.Content.TheVariants.{At}
use Rattle.conf_judge.proofs.FirstFlaw.{told_later}
use Rattle.conf_judge.specs.Limits.{within_limit, inner_limits, member_limits}
use Rattle.conf_judge.proofs.limits.+limits.Goals as goal

pub check_content-returns-in-Array : goal.check_content-returns-in-Array
check_content-returns-in-Array t c =
    subst (Gives (λ _. tt) c.check_items.result)
    (sym (told_later _ _ (ap within_limit (sym c.fits.ensures) ∙ c.in_ok-check_limit.ensures) ∙ ap (λ k. refusal (inner_limits k (view c.args.value.now))) c.in-At.is
    ∙ ap (λ d. refusal (inner_limits (At c.in-At.place) d)) (ap view c.in-Array.is ∙ view-Array c.in-Array.items)))
    c.check_items.ensures

pub check_content-returns-in-Object : goal.check_content-returns-in-Object
check_content-returns-in-Object t c =
    subst (Gives (λ _. tt) c.check_members.result)
    (sym (told_later _ _ (ap within_limit (sym c.fits.ensures) ∙ c.in_ok-check_limit.ensures) ∙ ap (λ k. refusal (inner_limits k (view c.args.value.now))) c.in-At.is
    ∙ ap (λ d. refusal (inner_limits (At c.in-At.place) d)) (ap view c.in-Object.is ∙ view-Object c.in-Object.members)
    ∙ ap (λ p. refusal (member_limits p (members_view c.in-Object.members.entries))) (sym c.place_of_properties.ensures)))
    c.check_members.ensures
