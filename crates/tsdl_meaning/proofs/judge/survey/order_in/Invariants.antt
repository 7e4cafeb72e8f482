use Rattle.std.proofs.Common.{◌≡◌, drop}
use Rattle.tsdl_meaning.proofs.TextWords.{orders_in}
use Rattle.tsdl_meaning.proofs.judge.survey.order_in.Given as goal

abbrev pub invariant-loop-item : goal.invariant-loop-item
invariant-loop-item l = orders_in (drop l.item-index l.items) ≡ orders_in l.items
