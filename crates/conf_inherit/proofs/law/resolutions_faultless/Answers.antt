use Rattle.conf_inherit.proofs.RefusalLemmas.{refusal_excluded}
use Rattle.conf_inherit.proofs.law.resolutions_faultless.Goals as goal

pub returns : goal.returns
returns c = λ text t r flaw tree h. refusal_excluded text t r tree h flaw
