use Rattle.std.proofs.Common.{ℕ, List, subst, sym}
use Rattle.trace_commands.specs.Checking.{IsExplainedIn}
use Rattle.trace_commands.proofs.CheckingLaws.{refused_text, unsaid}
use Rattle.trace_commands.proofs.judged.judge.Goals as goal

pub returns-in_ok-line-in-Err : goal.returns-in_ok-line-in-Err
returns-in_ok-line-in-Err c =
    let innocent = unsaid c.is_memory.result c.if-is_memory.false c.is_memory.ensures.1 in
    let text = c.args.text.now in
    let fault = c.in-Err.fault in
    record {
      fault = fault;
      refused = refused_text text c.args.number fault innocent c.in-Err.ensures.refused c.in-Err.ensures.only;
      nothing = c.refusal.ensures.output;
      explained = subst (λ (l : List ℕ). IsExplainedIn c.args.path.now text fault l) (sym c.refusal.ensures.errors) c.in_ok-line-in-Err.ensures;
      failed = c.refusal.ensures.status;
    }
