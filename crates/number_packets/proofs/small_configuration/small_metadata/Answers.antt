use Rattle.std.proofs.Common.{rules}
use Rattle.number_packets.proofs.SmallConfigurationLaws.{allowed_metadata}
use Rattle.number_packets.proofs.small_configuration.small_metadata.Goals as goal

pub returns-clause-allowed : goal.returns-clause-allowed
returns-clause-allowed c = allowed_metadata _ (search rules)
