use Rattle.std.proofs.Common.{slice_get}
use Rattle.tsdl_grammar.specs.Fronts.{atoms_in}
use Rattle.tsdl_reader.proofs.Places.{placed, misses_none}
use Rattle.tsdl_reader.proofs.unexpected.unexpected.Goals as goal

pub returns-in-Ok-clause-fault : goal.returns-in-Ok-clause-fault
returns-in-Ok-clause-fault c = placed (atoms_in c.args.text.now) c.args.at c.in-Ok.flaw c.requires c.in-Ok.ensures

pub returns-in-Ok-clause-sizes : goal.returns-in-Ok-clause-sizes
returns-in-Ok-clause-sizes c = misses_none (slice_get (atoms_in c.args.text.now) c.args.at) c.in-Ok.flaw c.in-Ok.ensures
