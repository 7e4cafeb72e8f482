use Rattle.std.proofs.Common.{arith}
use Rattle.tsdl_meaning.proofs.ElementCounts.{first_at_most}
use Rattle.tsdl_meaning.proofs.array.+arrays_of.Goals as goal

pub overflow_cast-result : goal.overflow_cast-result
overflow_cast-result t c = omega (arith, first_at_most c.args.lengths.now, c.requires)
