use Rattle.std.proofs.Common.{◌∙◌, ℕ, List, ap, subst}
use Rattle.conf_tree.specs.Walk.{Reads}
use Rattle.conf_fault.specs.Written.{closed_up}
use Rattle.conf_fault.proofs.WrittenLemmas.{read_value}
use Rattle.conf_fault.proofs.source.Source.written.Goals as goal

pub returns-in_ok-closed_up-in-Ok : goal.returns-in_ok-closed_up-in-Ok
returns-in_ok-closed_up-in-Ok c =
    let bytes = c.value_at-value.ensures in
    let read = read_value c.value_at-value.result.text.now c.in_ok-tree.field-0 c.is_none.result c.is_none.ensures c.if-is_none.false c.in_ok-tree.ensures in
    (bytes.0, read.0, subst (λ (text : List ℕ). Reads text read.0) bytes.1 read.1, bytes.2, c.in_ok-closed_up-in-Ok.ensures ∙ ap closed_up (c.in-Ok.ensures.cases.0 ∙ bytes.1))
