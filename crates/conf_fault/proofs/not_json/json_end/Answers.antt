use Rattle.std.proofs.lemmas.Result.{IfOk-weaker}
use Rattle.conf_fault.proofs.StopLemmas.{stop_further}
use Rattle.conf_fault.proofs.not_json.json_end.Goals as goal

pub returns : goal.returns
returns c = IfOk-weaker c.longest_front.result _ _ (stop_further c.match-from_utf8.readable c.args.text.now) c.longest_front.ensures
