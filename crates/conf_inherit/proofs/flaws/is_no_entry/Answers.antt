use Rattle.std.proofs.{Common.{◌≡◌, List, [], ◌∷◌, length, nat_eq, refl, sym, ap, ◌∙◌, arith}, lemmas.Bool.Decides.nat_tests}
use Rattle.std.specs.Prelude.{not}
use Rattle.serde_json.specs.{Data.object, View.{view, members_view}}
use Rattle.serde_json.proofs.Views.{Entry, view-Object}
use Rattle.conf_inherit.specs.Flaws.{is_no_entry}
use Rattle.conf_inherit.proofs.flaws.is_no_entry.Goals as goal

single_or_not : (es : List Entry) → not (nat_eq (length es) 1) ≡ is_no_entry (object (members_view es))
single_or_not [] = refl
single_or_not (e ∷ []) = refl
single_or_not (e ∷ f ∷ es) = grind (arith, nat_tests)

pub returns-in-Object : goal.returns-in-Object
returns-in-Object c = ap (λ n. not (nat_eq n 1)) c.len.ensures.len ∙ single_or_not c.in-Object.members.entries ∙ ap is_no_entry (sym (ap view c.in-Object.is ∙ view-Object c.in-Object.members))
