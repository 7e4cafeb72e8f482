use Rattle.std.proofs.Common.{◌++◌, ℕ, List, ap, subst, ◌∙◌}
use Rattle.std.specs.List.{concat, flat_map}
use Rattle.packet_writer.specs.declared.packet.Packet.{Packet}
use Rattle.packet_reader.specs.StreamReading.{Reads}
use Rattle.number_packets.specs.FirstPath.{AreBytes, pieces_of, values_in}
use Rattle.number_packets.specs.Printed.{packet_line, values_line}
use Rattle.number_packets.specs.SmallConfiguration.{small_metadata}
use Rattle.number_packets.proofs.FirstPathLaws.{traced}
use Rattle.number_packets.proofs.numbers.traced_text.Goals as goal

pub returns : goal.returns
returns c =
    let packets = c.in_ok-packets.packets.items in
    let read = c.in_ok-read.read in
    traced c.args.values.now _ (pieces_of packets) read.packets read.end c.in_ok-packets.ensures
    (subst (λ (ps : List Packet). AreBytes (concat (pieces_of ps))) c.as_slice.ensures.value c.in_ok-read.ensures.bytes)
    (subst (λ (ps : List Packet). Reads small_metadata (concat (pieces_of ps)) read.packets read.end) c.as_slice.ensures.value c.in_ok-read.ensures.reads)
    (c.in_ok-print_values.ensures
    ∙ ap (λ (l : List ℕ). l ++ values_line c.as_slice-4.result.now)
    (c.in_ok-print_packets.ensures ∙ ap (λ (l : List ℕ). l ++ flat_map packet_line (pieces_of c.as_slice-3.result.now)) c.new-text.ensures.bytes)
    ∙ ap (λ (ps : List Packet). flat_map packet_line (pieces_of ps) ++ values_line c.as_slice-4.result.now) c.as_slice-3.ensures.value
    ∙ ap (λ (vs : List ℕ). flat_map packet_line (pieces_of packets) ++ values_line vs)
    (c.as_slice-4.ensures.value ∙ c.in_ok-found.ensures ∙ ap values_in c.as_slice-2.ensures))
