use Rattle.std.proofs.Common.{ap}
use Rattle.std.specs.Fmt.{decimal}
use Rattle.trace_text.proofs.Saying.{more, said}
use Rattle.trace_text.proofs.printing_streams.say_line.Goals as goal

pub returns : goal.returns
returns g c =
    let packets = said (decimal c.args.counts.packets) (ap decimal c.from.ensures) c.say_count.ensures in
    more (more (more (more (more (more (more (more (more (more (more (more c.say.ensures c.say_name.ensures) c.say-2.ensures) packets) c.say-3.ensures) c.say_count-2.ensures) c.say-4.ensures) c.say_optional_count.ensures) c.say-5.ensures) c.say_optional_count-2.ensures) c.say-6.ensures) c.say_end.ensures) c.say-7.ensures
