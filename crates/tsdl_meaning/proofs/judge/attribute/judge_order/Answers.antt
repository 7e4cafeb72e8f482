use Rattle.tsdl_meaning.proofs.Misfits.{order_unread}
use Rattle.tsdl_meaning.proofs.judge.attribute.judge_order.Goals as goal

pub returns-in_default-clause-fault : goal.returns-in_default-clause-fault
returns-in_default-clause-fault c = order_unread c.args.value.now c.args.at c.unread_order.result c.unread_order.ensures
