use Rattle.tsdl_grammar.proofs.BlockParts.{says_stream}
use Rattle.tsdl_grammar.proofs.laws.streams_say_their_parts.Goals as goal

pub returns : goal.returns
returns c = says_stream
