use Rattle.std.proofs.Common.{◌∙◌, ap, sym}
use Rattle.trace_text.specs.PrintedTrace.{lines}
use Rattle.trace_text.proofs.printing_law.one_printed_trace.Goals as goal

pub returns-clause-one : goal.returns-clause-one
returns-clause-one c = λ m streams text other p q.
    p.lines_are ∙ ap (lines m streams) (c.one_merged_order.ensures.one streams p.order q.order p.merged q.merged) ∙ sym q.lines_are
