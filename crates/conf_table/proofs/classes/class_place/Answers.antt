use Rattle.std.proofs.Common.{sym, ◌∙◌}
use Rattle.conf_table.proofs.RowLaws.{class_here, class_behind}
use Rattle.conf_table.proofs.classes.class_place.Goals as goal

pub returns-then-eq : goal.returns-then-eq
returns-then-eq c = class_here c.args.word.now c.class_words-class-items.result.now c.loop-class.class-index _ _ c.loop-class-test.true c.loop-class.invariant (sym c.eq.ensures ∙ c.if-eq.true)

pub loop-class-preserved : goal.loop-class-preserved
loop-class-preserved c = class_behind c.args.word.now c.class_words-class-items.result.now c.loop-class.class-index _ _ c.loop-class-test.true c.loop-class.invariant (sym c.eq.ensures ∙ c.if-eq.false)
