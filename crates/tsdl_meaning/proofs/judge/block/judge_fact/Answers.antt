use Rattle.std.proofs.Common.{◌≡◌, false, arith}
use Rattle.tsdl_grammar.specs.declared.tree.Fact.TheVariants as facts
use Rattle.tsdl_meaning.proofs.Misfits.{misfits}
use Rattle.tsdl_meaning.proofs.TextWords.{fact_meaning, is_some, number_toks}
use Rattle.tsdl_meaning.proofs.judge.block.judge_fact.Goals as goal

pub returns-in-Number-clause-fault : goal.returns-in-Number-clause-fault
returns-in-Number-clause-fault c =
    let n = c.in-Number.number in
    let none : is_some (fact_meaning (facts.Number n)) ≡ false = grind (arith, c.whole.ensures, c.is_none.ensures, c.if-is_none.true) in
    rw c.in-Number.is (misfits (is_some (fact_meaning (facts.Number n))) false c.args.at (number_toks n) c.misfit_number.result none c.misfit_number.ensures)
