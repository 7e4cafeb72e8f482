use Rattle.std.proofs.Common.{ap}
use Rattle.std.specs.Fmt.{decimal}
use Rattle.trace_text.proofs.Saying.{more, said}
use Rattle.trace_text.proofs.printing_streams.say_place.Goals as goal

pub returns : goal.returns
returns g c = more (more (more c.say.ensures c.say-2.ensures) (said (decimal c.args.place) (ap decimal c.from.ensures) c.say_count.ensures)) c.say-3.ensures
