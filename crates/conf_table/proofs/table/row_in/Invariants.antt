use Rattle.std.proofs.Common.{◌≡◌, map, drop}
use Rattle.conf_table.specs.Table.{row_in, told_of}
use Rattle.conf_table.proofs.table.row_in.Given as goal

abbrev pub invariant-loop-row : goal.invariant-loop-row
invariant-loop-row l = row_in l.name (map told_of l.rows)
    ≡ row_in l.name (map told_of (drop l.row-index l.rows))
