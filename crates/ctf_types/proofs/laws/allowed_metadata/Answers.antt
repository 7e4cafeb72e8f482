use Rattle.ctf_types.proofs.AllowedMetadata.{metadata_is_allowed}
use Rattle.ctf_types.proofs.laws.allowed_metadata.Goals as goal

pub returns : goal.returns
returns c = record { allowed = metadata_is_allowed }
