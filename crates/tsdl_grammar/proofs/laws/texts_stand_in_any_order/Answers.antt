use Rattle.tsdl_grammar.proofs.TextOrder.{of_blocks, of_items, of_fields}
use Rattle.tsdl_grammar.proofs.laws.texts_stand_in_any_order.Goals as goal

pub returns-clause-blocks : goal.returns-clause-blocks
returns-clause-blocks c = of_blocks

pub returns-clause-items : goal.returns-clause-items
returns-clause-items c = of_items

pub returns-clause-fields : goal.returns-clause-fields
returns-clause-fields c = of_fields
