use Rattle.std.proofs.Common.{◌∙◌, [], List, ℕ, ap, append-nil, refl, string_bytes, subst, sym}
use Rattle.std.specs.Prelude.{OnOk}
use Rattle.std.specs.Option.{option_copied}
use Rattle.conf_tree.specs.declared.step.Step.{Step}
use Rattle.conf_fault.specs.Explanation.{Adds}
use Rattle.conf_fault.specs.Found.{end_of}
use Rattle.conf_fault.specs.Wanted.{IsTold, IsToldOfKind, named_text}
use Rattle.conf_fault.proofs.Adding.{added}
use Rattle.conf_fault.proofs.WantedLemmas.{adds_by_kind, told_text}
use Rattle.conf_fault.proofs.by_kind.push_told.Goals as goal

pub returns-in-Some : goal.returns-in-Some
returns-in-Some c =
    let fault = c.args.fault.now in
    let end = end_of c.args.found.now in
    let text = c.args.found.now.source.text.now in
    added (IsTold text fault end) c.push_str.result _ [] _ _ c.in-Some.words.now _ (sym (append-nil (string_bytes c.args.said.now))) c.push_str.ensures.bytes refl
    (told_text text fault end _ (ap (λ (n : List ℕ). named_text fault.kind n end.content) (sym c.requires) ∙ sym c.words_here.ensures ∙ ap option_copied c.in-Some.is))

pub returns-in-None : goal.returns-in-None
returns-in-None c =
    let fault = c.args.fault.now in
    let end = end_of c.args.found.now in
    let text = c.args.found.now.source.text.now in
    adds_by_kind c.push_told_of_kind.result text fault end _ _
    (ap (λ (n : List ℕ). named_text fault.kind n end.content) (sym c.requires) ∙ sym c.words_here.ensures ∙ ap option_copied c.in-None.is)
    (subst (λ (path : List Step). OnOk c.push_told_of_kind.result (Adds (IsToldOfKind text fault.kind path end) (string_bytes c.args.said.now) (string_bytes c.push_told_of_kind.new.said))) c.as_slice.ensures c.push_told_of_kind.ensures)
