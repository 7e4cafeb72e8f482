use Rattle.std.proofs.Common.{◌∙◌, ◌++◌, [], append-nil, decimal, inl, inr, refl, string_bytes, sym}
use Rattle.std.specs.Prelude.{codes}
use Rattle.std.proofs.lemmas.Result.{on_ok_weaker}
use Rattle.conf_fault.specs.Explanation.{Adds}
use Rattle.conf_fault.specs.Wanted.{IsClashHint, IsNameHint}
use Rattle.conf_fault.proofs.Adding.{added}
use Rattle.conf_fault.proofs.hints.push_name_hint.Goals as goal

pub returns-in_default : goal.returns-in_default
returns-in_default c =
    on_ok_weaker c.push_clash_hint.result
    (λ (hint : Adds (IsClashHint c.args.name.now) (string_bytes c.args.said.now) (string_bytes c.push_clash_hint.new.said)). (hint.0, inr hint.1, hint.2)) c.push_clash_hint.ensures

pub returns : goal.returns
returns c =
    added (IsNameHint c.args.name.now) c.push_str.result _ [] _ _ _ (codes "; entry " ++ (decimal c.in-Some.index ++ codes " has it")) (sym (append-nil (string_bytes c.args.said.now))) c.push_str.ensures.bytes
    (c.as_str.ensures.value ∙ c.in_ok-format.ensures.ok) (inl (c.in-Some.index, refl))
