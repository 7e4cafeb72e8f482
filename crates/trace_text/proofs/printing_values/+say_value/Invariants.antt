use Rattle.std.proofs.Common.{◌+◌, ◌*◌, take, map}
use Rattle.ctf_types.specs.Datum.{depth, depth_of}
use Rattle.ctf_types.specs.FieldTypes.{chain_of}
use Rattle.ctf_types.specs.Values.{datum_of}
use Rattle.trace_text.specs.PrintedPages.{Says}
use Rattle.trace_text.specs.PrintedTexts.{listed}
use Rattle.trace_text.specs.PrintedValues.{value_text}
use Rattle.trace_text.proofs.printing_values.+say_value.Given as goal

abbrev pub decreases-say_value : goal.decreases-say_value
decreases-say_value g l = 3 * depth (datum_of l.value.now)

abbrev pub decreases-say_list : goal.decreases-say_list
decreases-say_list g l = 3 * depth_of l.values.now + 2

abbrev pub decreases-say_elements : goal.decreases-say_elements
decreases-say_elements g l = 3 * depth_of l.values.now + 1

abbrev pub invariant-say_elements-loop-index : goal.invariant-say_elements-loop-index
invariant-say_elements-loop-index g l = Says (g.W.Write.contents l.initial.writer) l.initial.page (g.W.Write.contents l.writer) l.page (listed (take l.index (map (value_text (chain_of l.leaf).leaf) l.values)))
