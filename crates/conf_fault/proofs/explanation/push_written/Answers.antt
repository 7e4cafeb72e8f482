use Rattle.std.proofs.Common.{inr, refl, string_bytes, subst, sym}
use Rattle.conf_fault.specs.Explanation.{IsClosedUp, IsWritten}
use Rattle.conf_fault.specs.Shown.{cut}
use Rattle.conf_fault.proofs.WantedLemmas.{adds_same}
use Rattle.conf_fault.proofs.WrittenLemmas.{of_some}
use Rattle.conf_fault.proofs.explanation.push_written.Goals as goal

pub returns-in-Some : goal.returns-in-Some
returns-in-Some c =
    let text = c.args.source.text.now in
    let at = c.args.at in
    let closed : IsClosedUp text at (string_bytes c.in-Some.value) = of_some (λ words. IsClosedUp text at (string_bytes words)) _ _ c.in-Some.is c.in_ok-value.ensures in
    let shown = subst (IsClosedUp text at) (sym c.as_str.ensures.value) closed in
    adds_same c.push_cut.result (IsWritten text at) _ _ (cut c.as_str.result.now) (inr (c.as_str.result.now, shown, refl)) c.push_cut.ensures
