use Rattle.conf_inherit.proofs.RoundLemmas.{circle_refused}
use Rattle.conf_inherit.proofs.law.circle_is_refused.Goals as goal

pub returns : goal.returns
returns c = λ t r k apart walk h. circle_refused t r k apart walk h
