use Rattle.tsdl_grammar.proofs.MeaningParts.{says_structure}
use Rattle.tsdl_grammar.proofs.laws.structures_say_their_parts.Goals as goal

pub returns : goal.returns
returns c = says_structure
