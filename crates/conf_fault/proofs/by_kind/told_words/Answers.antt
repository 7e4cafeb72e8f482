use Rattle.std.proofs.Common.{◌∙◌, ◌++◌, ap, subst, sym}
use Rattle.conf_fault.specs.Wanted.{IsToldAndHinted}
use Rattle.conf_fault.proofs.by_kind.told_words.Goals as goal

pub returns : goal.returns
returns c =
    let told = c.in_ok-push_wanted.ensures in
    subst (IsToldAndHinted c.args.found.now.source.text.now c.args.fault.now) (sym (told.2 ∙ ap (λ was. was ++ told.0) c.new-words.ensures.bytes)) told.1
