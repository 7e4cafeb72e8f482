use Rattle.std.proofs.Common.{ap}
use Rattle.ctf_types.specs.Values.{datum_of}
use Rattle.trace_text.specs.PrintedValues.{value_text}
use Rattle.trace_text.proofs.Saying.{more, said}
use Rattle.trace_text.proofs.printing_values.say_member.Goals as goal

pub returns : goal.returns
returns g c =
    more (more c.say.ensures c.say-2.ensures)
    (said _ (ap (λ leaf. value_text leaf (datum_of c.args.value.now)) c.leaf_of.ensures) c.say_value.ensures)
