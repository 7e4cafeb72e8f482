use Rattle.std.proofs.Common.{refl}
use Rattle.tsdl_meaning.proofs.judge.value.misfit.Goals as goal

pub returns : goal.returns
returns c = record { stops = λ front behind misfit. c.expected.ensures front behind (misfit refl) }
