use Rattle.tsdl_meaning.proofs.judge.value.unfit.Goals as goal

pub returns-in-Name : goal.returns-in-Name
returns-in-Name c = record { stops = λ front behind misfit. rw c.in-Name.is (c.unsupported.ensures front behind) }
