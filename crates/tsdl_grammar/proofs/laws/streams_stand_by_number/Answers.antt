use Rattle.tsdl_grammar.proofs.MeaningParts.{says_metadata}
use Rattle.tsdl_grammar.proofs.StreamParts.{streams_stand_by_number}
use Rattle.tsdl_grammar.proofs.laws.streams_stand_by_number.Goals as goal

pub returns-clause-streams : goal.returns-clause-streams
returns-clause-streams c = λ bs m e. (streams_stand_by_number _ bs m.streams (says_metadata bs m e).streams).0

pub returns-clause-events : goal.returns-clause-events
returns-clause-events c = λ bs m e. (streams_stand_by_number _ bs m.streams (says_metadata bs m e).streams).1
