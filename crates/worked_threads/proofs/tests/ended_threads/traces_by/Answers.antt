use Rattle.worked_threads.proofs.tests.ended_threads.traces_by.Goals as goal

pub returns : goal.returns
returns g c e ends open_still = c.ended-end.ensures e (c.traces_in_turn-as_wanted.ensures e (c.in-Ok.ensures e ends)) open_still
