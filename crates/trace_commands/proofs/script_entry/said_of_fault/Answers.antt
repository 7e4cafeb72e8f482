use Rattle.std.proofs.Common.{ℕ, List, subst, sym}
use Rattle.std.proofs.lemmas.Result.{IfOk-weaker}
use Rattle.trace_commands.specs.ScriptLines.{TellsKind}
use Rattle.trace_commands.proofs.script_entry.said_of_fault.Goals as goal

pub returns : goal.returns
returns c = IfOk-weaker c.placed.result _ _ (λ said is text reads first. (
  c.in_ok-list.list,
  c.as_str.result.now,
  c.in_ok-list.ensures.lies text c.args.fault.now reads first,
  subst (λ (w : List ℕ). TellsKind c.args.fault.now.kind w) (sym c.as_str.ensures.value) c.in_ok-push_wrong.ensures,
  is,
)) c.placed.ensures
