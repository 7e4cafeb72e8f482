use Rattle.std.proofs.Common.{◌∙◌, sym}
use Rattle.conf_fault.proofs.StopLemmas.{too_large}
use Rattle.conf_fault.proofs.json_front.number_end.Goals as goal

pub returns-in-Some-2 : goal.returns-in-Some-2
returns-in-Some-2 c =
    too_large c.args.text.now c.args.from c.in_ok-end.end c.saturating_sub.result c.in-Some.number c.in_ok-end.ensures.digit c.saturating_sub.ensures c.in-Some.ensures (sym c.is_finite.ensures.value ∙ c.if-is_finite.false)
