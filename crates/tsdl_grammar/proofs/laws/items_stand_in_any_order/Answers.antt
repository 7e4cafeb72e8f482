use Rattle.tsdl_grammar.proofs.ItemOrder.{items_reordered}
use Rattle.tsdl_grammar.proofs.laws.items_stand_in_any_order.Goals as goal

pub returns : goal.returns
returns c = items_reordered
