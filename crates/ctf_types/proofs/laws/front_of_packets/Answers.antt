use Rattle.ctf_types.specs.Bits.{AreZero}
use Rattle.ctf_types.specs.Layout.{AnyBits}
use Rattle.ctf_types.specs.Packets.{PacketLies}
use Rattle.ctf_types.proofs.FrontsOfFiles.{packets_split, stream_split}
use Rattle.ctf_types.proofs.StreamOrder.{ClocksNeverFall-front, OfOneStream-front}
use Rattle.ctf_types.proofs.laws.front_of_packets.Goals as goal

pub returns : goal.returns
returns c = record {
  of_a_run = λ m bytes ks ls rest x. packets_split (λ b size k. PacketLies m.order b AnyBits m size k) m.order bytes ks ls rest x;
  of_a_clean_run = λ m bytes ks ls rest x. packets_split (λ b size k. PacketLies m.order b (AreZero b) m size k) m.order bytes ks ls rest x;
  of_one_stream = OfOneStream-front;
  of_clocks = ClocksNeverFall-front;
  of_a_stream = stream_split;
}
