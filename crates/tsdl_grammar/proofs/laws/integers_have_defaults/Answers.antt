use Rattle.std.proofs.Common.{sym}
use Rattle.std.proofs.lemmas.Option.{same_Some}
use Rattle.tsdl_grammar.proofs.MeaningParts.{says_integer}
use Rattle.tsdl_grammar.proofs.laws.integers_have_defaults.Goals as goal

pub returns-clause-align : goal.returns-clause-align
returns-clause-align c = λ known attrs t e h. sym (same_Some _ _ (rw h at (says_integer known attrs t e).align))

pub returns-clause-signed : goal.returns-clause-signed
returns-clause-signed c = λ known attrs t e h. sym (same_Some _ _ (rw h at (says_integer known attrs t e).signed))

pub returns-clause-base : goal.returns-clause-base
returns-clause-base c = λ known attrs t e h. sym (same_Some _ _ (rw h at (says_integer known attrs t e).base))

pub returns-clause-clock : goal.returns-clause-clock
returns-clause-clock c = λ known attrs t e h. sym (same_Some _ _ (rw h at (says_integer known attrs t e).clock))
