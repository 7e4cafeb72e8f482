use Rattle.tsdl_grammar.proofs.MeaningParts.{says_integer}
use Rattle.tsdl_grammar.proofs.laws.integers_say_their_parts.Goals as goal

pub returns : goal.returns
returns c = says_integer
