use Rattle.std.proofs.Common.{◌≡◌, take}
use Rattle.data_types.proofs.value.+copy.Given as goal

abbrev pub invariant-Values::copy-loop-value : goal.invariant-Values::copy-loop-value
invariant-Values::copy-loop-value l = l.copied.items ≡ take l.value-index l.value-items
