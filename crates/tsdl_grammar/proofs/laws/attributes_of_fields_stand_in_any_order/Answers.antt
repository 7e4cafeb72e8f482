use Rattle.tsdl_grammar.proofs.FieldOrder.{integer_stays, string_stays, fields_reordered}
use Rattle.tsdl_grammar.proofs.laws.attributes_of_fields_stand_in_any_order.Goals as goal

pub returns-clause-integers : goal.returns-clause-integers
returns-clause-integers c = integer_stays

pub returns-clause-strings : goal.returns-clause-strings
returns-clause-strings c = string_stays

pub returns-clause-texts : goal.returns-clause-texts
returns-clause-texts c = fields_reordered
