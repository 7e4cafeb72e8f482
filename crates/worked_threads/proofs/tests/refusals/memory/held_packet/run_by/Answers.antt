-- A new ring's two ends are of one ring, which is not settled.
use Rattle.worked_threads.proofs.tests.refusals.memory.held_packet.run_by.Goals as goal

pub gathers-answer-requires-clause-ends : goal.gathers-answer-requires-clause-ends
gathers-answer-requires-clause-ends g c = c.in-Ok-begun.ensures c.in-Ok.ring_end c.in-Ok.ensures.unused.0

pub gathers-answer-requires-clause-open : goal.gathers-answer-requires-clause-open
gathers-answer-requires-clause-open g c = c.in-Ok.ensures.unused.4
