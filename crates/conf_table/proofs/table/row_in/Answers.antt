use Rattle.std.proofs.Common.{sym, ◌∙◌}
use Rattle.conf_table.proofs.RowLaws.{row_here, row_behind}
use Rattle.conf_table.proofs.table.row_in.Goals as goal

pub returns-then-eq : goal.returns-then-eq
returns-then-eq c = row_here c.args.name.now c.args.rows.now c.loop-row.row-index _ _ c.loop-row-test.true c.loop-row.invariant (sym c.eq.ensures ∙ c.if-eq.true)

pub loop-row-preserved : goal.loop-row-preserved
loop-row-preserved c = row_behind c.args.name.now c.args.rows.now c.loop-row.row-index _ _ c.loop-row-test.true c.loop-row.invariant (sym c.eq.ensures ∙ c.if-eq.false)
