use Rattle.std.proofs.Common.{ℕ, List, subst, sym}
use Rattle.std.proofs.lemmas.Result.{IfOk-weaker}
use Rattle.trace_commands.specs.ScriptLines.{SaysWhere}
use Rattle.trace_commands.proofs.script_lines.script_line.Goals as goal

pub returns : goal.returns
returns c =
    let says = subst (λ (w : List ℕ). SaysWhere c.args.config.now c.args.text.now c.args.fault.now w) (sym c.as_str.ensures.value) c.in_ok-said.ensures in
    IfOk-weaker c.fault_line.result _ _ (λ line is. (c.as_str.result.now, says, is)) c.fault_line.ensures
