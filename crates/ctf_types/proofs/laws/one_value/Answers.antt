use Rattle.data_types.specs.FieldTypes.{chain_of}
use Rattle.ctf_types.specs.Layout.{AnyBits}
use Rattle.ctf_types.proofs.Unique.{field_one, struct_one, packet_one}
use Rattle.ctf_types.proofs.laws.one_value.Goals as goal

pub returns : goal.returns
returns c = record {
  of_a_field = λ o b t p v w x y. field_one o b AnyBits AnyBits (chain_of t).leaf (chain_of t).lengths p v w x y;
  of_a_structure = λ o b s p vs ws x y. struct_one o b AnyBits AnyBits s p vs ws x y;
  of_a_packet = λ m b size size' k k' x y. packet_one m.order b AnyBits AnyBits m size size' k k' x y;
}
