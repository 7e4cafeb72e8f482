use Rattle.std.proofs.Common.{◌∙◌, ◌++◌, ap, refl, string_bytes}
use Rattle.std.proofs.lemmas.Result.{on_ok_weaker}
use Rattle.conf_fault.specs.Explanation.{Adds}
use Rattle.conf_fault.specs.Found.{end_of}
use Rattle.conf_fault.specs.Wanted.{IsHint, end_name}
use Rattle.conf_fault.proofs.Adding.{behind}
use Rattle.conf_fault.proofs.by_kind.push_wanted.Goals as goal

pub push_told-requires : goal.push_told-requires
push_told-requires c = c.end_name-name.ensures ∙ ap end_name c.as_slice.ensures

pub push_hint-requires : goal.push_hint-requires
push_hint-requires c = c.end_name-name.ensures ∙ ap end_name c.as_slice.ensures

pub returns : goal.returns
returns c =
    let fault = c.args.fault.now in
    let told = c.in_ok-push_told.ensures in
    on_ok_weaker c.push_hint.result
    (λ (hint : Adds (IsHint fault.kind fault.path) (string_bytes c.push_told.new.said) (string_bytes c.push_hint.new.said)).
    (told.0 ++ hint.0, (end_of c.args.found.now, told.0, hint.0, c.requires, told.1, hint.1, refl), behind _ _ _ told.0 hint.0 told.2 hint.2))
    c.push_hint.ensures
