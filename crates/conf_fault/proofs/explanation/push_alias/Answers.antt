use Rattle.std.proofs.Common.{inr, refl, ◌++◌, append_assoc, string_bytes, subst, sym}
use Rattle.std.specs.Prelude.{codes}
use Rattle.conf_fault.specs.Shown.{cut}
use Rattle.conf_fault.specs.Explanation.{IsAliasWords}
use Rattle.conf_fault.specs.Found.{StandsIn}
use Rattle.conf_fault.proofs.Adding.{added, behind}
use Rattle.conf_fault.proofs.WrittenLemmas.{of_some}
use Rattle.conf_fault.proofs.explanation.push_alias.Goals as goal

pub returns : goal.returns
returns c =
    let text = c.args.source.text.now in
    let stands = of_some (λ word. StandsIn text (string_bytes word)) _ _ c.in-Some-2.is c.in_ok-name.ensures in
    let opening = codes "in the alias `" in
    let name = cut c.as_str.result.now in
    added (IsAliasWords text) _ _ (opening ++ name) _ _ (codes "`: ") _ (behind _ _ _ opening name c.in_ok-push_str.ensures.bytes c.in_ok-push_cut.ensures) c.push_str-2.ensures.bytes
    (append_assoc opening name (codes "`: ")) (inr (c.as_str.result.now, subst (StandsIn text) (sym c.as_str.ensures.value) stands, refl))
