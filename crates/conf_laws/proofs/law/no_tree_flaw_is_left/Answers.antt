use Rattle.conf_laws.proofs.TreeFlawLaws.{no_tree_flaw}
use Rattle.conf_laws.proofs.law.no_tree_flaw_is_left.Goals as goal

pub returns : goal.returns
returns c = λ d flaw. no_tree_flaw d flaw
