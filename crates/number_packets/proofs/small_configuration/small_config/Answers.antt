use Rattle.std.proofs.Common.{rules}
use Rattle.number_packets.proofs.SmallConfigurationLaws.{config_is, allowed_config, metadata_of-config}
use Rattle.number_packets.proofs.small_configuration.small_config.Goals as goal

pub returns-clause-allowed : goal.returns-clause-allowed
returns-clause-allowed c = allowed_config _ (config_is _ _ _ _ (search rules) (search rules) (search rules) (search rules))

pub returns-clause-has_metadata : goal.returns-clause-has_metadata
returns-clause-has_metadata c = metadata_of-config _ (config_is _ _ _ _ (search rules) (search rules) (search rules) (search rules))
