use Rattle.std.proofs.Common.{◌-◌, length}
use Rattle.tsdl_grammar.proofs.TokenStarts.{Passed}
use Rattle.tsdl_grammar.proofs.tokenizer.token_start.Given as goal

abbrev pub invariant-loop-cut : goal.invariant-loop-cut
invariant-loop-cut l = Passed l.text l.at l.before l.index

abbrev pub decreases-loop-cut : goal.decreases-loop-cut
decreases-loop-cut l = length l.text - l.at
