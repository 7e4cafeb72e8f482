use Rattle.ctf_types.specs.Bits.{AreZero}
use Rattle.ctf_types.specs.Layout.{AnyBits}
use Rattle.ctf_types.specs.Packets.{PacketLies}
use Rattle.ctf_types.proofs.Joined.{packets_join}
use Rattle.ctf_types.proofs.StreamFiles.{lying_is_own, lying_clean_is_own, files_join, pieces_lie}
use Rattle.ctf_types.proofs.laws.joined_packets.Goals as goal

pub returns : goal.returns
returns c = record {
  runs = λ m bytes ks middle ls rest x y. packets_join (λ b size k. PacketLies m.order b AnyBits m size k) m.order bytes ks middle ls rest x y;
  clean_runs = λ m bytes ks middle ls rest x y. packets_join (λ b size k. PacketLies m.order b (AreZero b) m size k) m.order bytes ks middle ls rest x y;
  files = λ m bytes more ks ls rest x y. files_join (λ b size k. PacketLies m.order b AnyBits m size k) (lying_is_own m) m.order bytes more ks ls rest x y;
  clean_files = λ m bytes more ks ls rest x y. files_join (λ b size k. PacketLies m.order b (AreZero b) m size k) (lying_clean_is_own m) m.order bytes more ks ls rest x y;
  pieces = λ m pieces ks h. pieces_lie (λ b size k. PacketLies m.order b AnyBits m size k) (lying_is_own m) m.order pieces ks h;
  clean_pieces = λ m pieces ks h. pieces_lie (λ b size k. PacketLies m.order b (AreZero b) m size k) (lying_clean_is_own m) m.order pieces ks h;
}
