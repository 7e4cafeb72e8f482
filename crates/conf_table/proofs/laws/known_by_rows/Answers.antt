use Rattle.conf_table.proofs.RowLaws.{known_named, named_known}
use Rattle.conf_table.proofs.laws.known_by_rows.Goals as goal

pub returns : goal.returns
returns c = λ place k object. (known_named place k object, named_known place k object)
