use Rattle.std.proofs.Common.{◌≡◌, length}
use Rattle.trace_text.specs.PrintedNumbers.{label_in}
use Rattle.trace_text.proofs.printing_numbers.label_in.Given as goal

abbrev pub invariant-loop-rest : goal.invariant-loop-rest
invariant-loop-rest l = label_in l.rest l.n ≡ label_in l.mappings l.n

abbrev pub decreases-loop-rest : goal.decreases-loop-rest
decreases-loop-rest l = length l.rest
