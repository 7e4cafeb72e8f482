use Rattle.std.proofs.Common.{take}
use Rattle.trace_text.specs.PrintedPages.{Says}
use Rattle.trace_text.specs.PrintedTexts.{listed}
use Rattle.trace_text.specs.PrintedValues.{member_texts}
use Rattle.trace_text.proofs.printing_values.say_members.Given as goal

abbrev pub invariant-loop-index : goal.invariant-loop-index
invariant-loop-index g l = Says (g.W.Write.contents l.initial.writer) l.initial.page (g.W.Write.contents l.writer) l.page (listed (take l.index (member_texts l.members l.values)))
