use Rattle.trace_text.proofs.Saying.{more}
use Rattle.trace_text.proofs.printing_numbers.say_in_parentheses.Goals as goal

pub returns : goal.returns
returns g c = more (more c.say.ensures c.say_name.ensures) c.say-2.ensures
