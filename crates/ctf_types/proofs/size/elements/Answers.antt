use Rattle.std.proofs.Common.{sym, ◌∙◌}
use Rattle.data_types.specs.Datum.{data_in-items_of}
use Rattle.ctf_types.proofs.size.elements.Goals as goal

pub returns-in-List : goal.returns-in-List
returns-in-List c = rw c.in-List.is (c.as_slice.ensures ∙ sym (data_in-items_of c.in-List.values))
