use Rattle.std.proofs.Common.{[], ◌∷◌}
use Rattle.trace_text.proofs.Saying.{more, said}
use Rattle.trace_text.proofs.printing_texts.say_escape.Goals as goal

pub returns : goal.returns
returns g c = said _ (λ i. 92 ∷ 120 ∷ c.digit.ensures i ∷ c.digit-2.ensures i ∷ []) (more c.say.ensures c.say_bytes.ensures)
