use Rattle.trace_commands.proofs.WorkerLaws.{few_readings}
use Rattle.trace_commands.proofs.shared_clock.has_room.Goals as goal

pub readings_of_all-requires : goal.readings_of_all-requires
readings_of_all-requires c = few_readings c.args.script.now c.in-Some.quota.readings c.requires c.in-Some.quota.few
