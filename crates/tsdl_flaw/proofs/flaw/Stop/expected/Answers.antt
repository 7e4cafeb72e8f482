use Rattle.tsdl_flaw.proofs.flaw.Stop.expected.Goals as goal

pub returns : goal.returns
returns g c = λ front behind misfit. c.at.ensures front behind misfit
