use Rattle.conf_check.proofs.ConfigurationLaws.{configuration_refused}
use Rattle.conf_check.proofs.laws.configurations_refused.Goals as goal

pub returns : goal.returns
returns c = configuration_refused
