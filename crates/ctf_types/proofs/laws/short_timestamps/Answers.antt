use Rattle.ctf_types.proofs.ClockValues.{next_within, next_one, within_of_next}
use Rattle.ctf_types.proofs.laws.short_timestamps.Goals as goal

pub returns : goal.returns
returns c = record { told = next_within; one = next_one; within = within_of_next }
