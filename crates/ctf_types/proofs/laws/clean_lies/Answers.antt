use Rattle.ctf_types.specs.Bits.{AreZero}
use Rattle.ctf_types.proofs.FrontsOfFiles.{stream_of_clean}
use Rattle.ctf_types.proofs.Locality.{struct_lies_any, packet_lies_any}
use Rattle.ctf_types.proofs.laws.clean_lies.Goals as goal

pub returns : goal.returns
returns c = record {
  of_a_structure = λ o b s p vs x. struct_lies_any o b (AreZero b) s p vs x;
  of_a_packet = λ m b size k x. packet_lies_any m.order b (AreZero b) m size k x;
  of_a_stream = stream_of_clean;
}
