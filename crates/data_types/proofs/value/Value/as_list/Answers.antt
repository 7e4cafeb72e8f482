use Rattle.std.proofs.Common.{Some, ap, sym}
use Rattle.data_types.specs.Datum.{data_in-items_of}
use Rattle.data_types.proofs.value.Value.as_list.Goals as goal

pub returns-in-List : goal.returns-in-List
returns-in-List c = rw c.in-List.is (ap Some (sym (data_in-items_of c.in-List.values)))
