use Rattle.tsdl_reader.proofs.Reading.{one_metadata}
use Rattle.tsdl_reader.proofs.laws.denoted_is_unique.Goals as goal

pub returns : goal.returns
returns c = λ text m n a b. one_metadata c.tokens_are_unique.ensures text a.2.0 a.1 m n (record { magic = a.0; split = a.2.1; atoms = a.2.2 }) (a.3, a.4) b
