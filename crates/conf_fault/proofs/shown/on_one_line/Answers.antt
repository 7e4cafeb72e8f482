use Rattle.std.proofs.Common.{subst, sym}
use Rattle.std.proofs.lemmas.Result.{IfOk-weaker}
use Rattle.conf_fault.specs.Shown.{IsOneLine}
use Rattle.conf_tree.proofs.OneLineLemmas.{one_line_shown}
use Rattle.conf_fault.proofs.shown.on_one_line.Goals as goal

pub returns : goal.returns
returns c = record {
  bytes = c.format.ensures.ok;
  one_line = IfOk-weaker c.format.result _ _ (λ line is. subst IsOneLine (sym is) (one_line_shown c.args.text.now c.utf8.text)) c.format.ensures.ok;
}
