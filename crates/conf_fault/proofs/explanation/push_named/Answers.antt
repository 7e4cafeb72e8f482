use Rattle.std.proofs.Common.{◌++◌, refl, string_bytes}
use Rattle.std.specs.Prelude.{codes}
use Rattle.std.proofs.lemmas.Result.{on_ok_weaker}
use Rattle.conf_fault.specs.Explanation.{Adds, IsWritten}
use Rattle.conf_fault.proofs.Adding.{behind}
use Rattle.conf_fault.proofs.explanation.push_named.Goals as goal

pub returns : goal.returns
returns c =
    let name = c.in_ok-push_written.ensures in
    let joined = codes ", which is " in
    on_ok_weaker c.push_written-2.result
    (λ (value : Adds (IsWritten c.args.source.text.now c.args.at) (string_bytes c.push_str.new.self) (string_bytes c.push_written-2.new.said)).
    (name.0 ++ joined ++ value.0, (c.args.at, name.0, value.0, name.1, value.1, refl), behind _ _ _ (name.0 ++ joined) value.0 (behind _ _ _ name.0 joined name.2 c.in_ok-push_str.ensures.bytes) value.2))
    c.push_written-2.ensures
