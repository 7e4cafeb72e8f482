use Rattle.std.proofs.Common.{inr, string_bytes}
use Rattle.std.proofs.lemmas.Result.{on_ok_weaker}
use Rattle.conf_fault.specs.Explanation.{Adds, IsNamedValue}
use Rattle.conf_fault.proofs.explanation.push_value.Goals as goal

pub returns-in-Some : goal.returns-in-Some
returns-in-Some c =
    let text = c.args.found.now.source.text.now in
    on_ok_weaker c.push_named.result
    (λ (named : Adds (IsNamedValue text c.args.at) (string_bytes c.args.said.now) (string_bytes c.push_named.new.said)). (named.0, inr (inr named.1), named.2)) c.push_named.ensures
