use Rattle.std.proofs.Common.{inr}
use Rattle.std.proofs.lemmas.Result.{IfOk-weaker}
use Rattle.serde_json.specs.View.{view}
use Rattle.trace_commands.proofs.script_lines.said_of_text.Goals as goal

pub returns-in-Ok : goal.returns-in-Ok
returns-in-Ok c =
    IfOk-weaker c.said_of_fault.result _ _ (λ said says. inr (view c.in-Ok.script, c.in-Ok.ensures.ok, says c.args.text.now c.in-Ok.ensures.ok c.requires)) c.said_of_fault.ensures
