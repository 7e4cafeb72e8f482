use Rattle.conf_table.proofs.RowLaws.{rows_stand_once}
use Rattle.conf_table.proofs.laws.one_row_a_name.Goals as goal

pub returns : goal.returns
returns c = rows_stand_once
