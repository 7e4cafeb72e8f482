use Rattle.std.proofs.Common.{length}
use Rattle.conf_inherit.proofs.resolution.+way.Given as goal

abbrev pub decreases-replace_object : goal.decreases-replace_object
decreases-replace_object l = length l.way.now
