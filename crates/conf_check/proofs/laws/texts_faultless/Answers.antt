use Rattle.conf_check.proofs.ConfigurationLaws.{text_excluded}
use Rattle.conf_check.proofs.laws.texts_faultless.Goals as goal

pub returns : goal.returns
returns c = λ text number x t r. text_excluded text number x t r
