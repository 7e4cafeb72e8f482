use Rattle.std.proofs.Common.{inr, string_bytes}
use Rattle.std.proofs.lemmas.Result.{on_ok_weaker}
use Rattle.conf_fault.specs.Explanation.{Adds}
use Rattle.conf_fault.specs.Wanted.{IsInheritHint}
use Rattle.conf_fault.proofs.hints.push_missing_hint.Goals as goal

pub returns-in_default : goal.returns-in_default
returns-in_default c =
    on_ok_weaker c.push_inherit_hint.result
    (λ (hint : Adds (IsInheritHint c.args.name.now) (string_bytes c.args.said.now) (string_bytes c.push_inherit_hint.new.said)). (hint.0, inr (inr (inr (inr (inr hint.1)))), hint.2))
    c.push_inherit_hint.ensures
