use Rattle.ctf_types.proofs.Locality.{struct_lies_same, struct_lies_clean_same, packet_lies_same}
use Rattle.ctf_types.proofs.laws.own_bits_alone.Goals as goal

pub returns : goal.returns
returns c = record {
  of_a_structure = λ o b d s p vs h x. struct_lies_same o b d s p vs (record { same = h }) x;
  of_a_clean_structure = λ o b d s p vs h x. struct_lies_clean_same o b d s p vs (record { same = h }) x;
  of_a_packet = λ m b d size k h x. packet_lies_same m.order b d m size k (record { same = h }) x;
}
