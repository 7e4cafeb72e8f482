use Rattle.tsdl_grammar.proofs.Splits.{same_tokens}
use Rattle.tsdl_grammar.proofs.laws.tokens_are_unique.Goals as goal

pub returns : goal.returns
returns c = same_tokens
