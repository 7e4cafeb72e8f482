use Rattle.std.proofs.Common.{◌-◌, length}
use Rattle.tsdl_grammar.proofs.Splits.{Progress}
use Rattle.tsdl_grammar.proofs.tokenizer.tokens.Given as goal

abbrev pub invariant-loop-cut : goal.invariant-loop-cut
invariant-loop-cut l = Progress l.text l.at l.found.items

abbrev pub decreases-loop-cut : goal.decreases-loop-cut
decreases-loop-cut l = length l.text - l.at
