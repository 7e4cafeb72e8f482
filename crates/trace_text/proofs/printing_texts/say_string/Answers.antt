use Rattle.trace_text.proofs.Saying.{more}
use Rattle.trace_text.proofs.printing_texts.say_string.Goals as goal

pub returns : goal.returns
returns g c = more (more c.say.ensures c.say_text.ensures) c.say-2.ensures
