use Rattle.ctf_types.proofs.Locality.{lie_of_clean}
use Rattle.ctf_types.proofs.StreamFiles.{packets_of_front}
use Rattle.ctf_types.proofs.Unique.{packets_one}
use Rattle.ctf_types.proofs.laws.one_packet_list.Goals as goal

pub returns : goal.returns
returns c = record { unique = packets_one; of_a_front = packets_of_front; also_clean = lie_of_clean }
