use Rattle.conf_inherit.proofs.RefusalLemmas.{refusal_holds}
use Rattle.conf_inherit.proofs.law.refusal_holds.Goals as goal

pub returns : goal.returns
returns c = λ t flaw apart h. refusal_holds t flaw apart h
