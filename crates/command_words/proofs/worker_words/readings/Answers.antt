use Rattle.std.proofs.Common.{refl, arith}
use Rattle.command_words.proofs.worker_words.readings.Goals as goal

pub out_of_range-requires : goal.out_of_range-requires
out_of_range-requires c = (6, omega arith, refl)
