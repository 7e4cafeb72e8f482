use Rattle.tsdl_grammar.proofs.BlockOrder.{blocks_reordered}
use Rattle.tsdl_grammar.proofs.laws.blocks_stand_in_any_order.Goals as goal

pub returns : goal.returns
returns c = blocks_reordered
