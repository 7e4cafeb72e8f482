use Rattle.std.proofs.Common.{◌-◌, List, length}
use Rattle.tsdl_grammar.specs.declared.token.Token.{Token}
use Rattle.tsdl_grammar.proofs.Splits.{Progress}
use Rattle.tsdl_grammar.proofs.tokenizer.check_tokens.Given as goal

abbrev pub invariant-loop-at : goal.invariant-loop-at
invariant-loop-at l = (found : List Token) × Progress l.text l.at found

abbrev pub decreases-loop-at : goal.decreases-loop-at
decreases-loop-at l = length l.text - l.at
