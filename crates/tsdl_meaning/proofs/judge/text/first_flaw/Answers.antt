use Rattle.tsdl_meaning.proofs.TextWords.{LacksSizes, text_toks}
use Rattle.tsdl_meaning.proofs.JudgedLedgers.{text_stop, never_sizes}
use Rattle.tsdl_meaning.proofs.judge.text.first_flaw.Goals as goal

pub returns-in-Err-clause-stops : goal.returns-in-Err-clause-stops
returns-in-Err-clause-stops c = text_stop (text_toks c.args.blocks.now) c.in-Err.stop c.in-Err.ensures.fault

pub returns-in-Err-clause-sizes : goal.returns-in-Err-clause-sizes
returns-in-Err-clause-sizes c = λ surveys none bound. never_sizes (text_toks c.args.blocks.now) c.in-Err.stop (LacksSizes c.args.blocks.now) c.in-Err.ensures.fault bound
