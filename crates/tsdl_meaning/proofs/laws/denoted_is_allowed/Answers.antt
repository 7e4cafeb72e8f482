use Rattle.tsdl_meaning.proofs.AllowedText.{denoted}
use Rattle.tsdl_meaning.proofs.laws.denoted_is_allowed.Goals as goal

pub returns : goal.returns
returns c = denoted
