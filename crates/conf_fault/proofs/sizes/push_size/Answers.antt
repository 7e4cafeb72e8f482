use Rattle.std.proofs.Common.{◌∙◌, sym}
use Rattle.conf_fault.proofs.Adding.{appended}
use Rattle.conf_fault.proofs.WantedLemmas.{size_of_others}
use Rattle.conf_fault.proofs.sizes.push_size.Goals as goal

pub returns-in_ok-format-in_default : goal.returns-in_ok-format-in_default
returns-in_ok-format-in_default c =
    appended _ _ _ _ _ c.push_str-in_default.ensures.bytes
    (c.as_str-in_default.ensures.value ∙ c.in_ok-format-in_default.ensures.ok
    ∙ sym (size_of_others c.args.place c.in_default.not-MemberType c.in_default.not-DynamicElementType c.in_default.not-IdentifierFeature c.in_default.not-Mappings c.in_default.not-Ranges))
