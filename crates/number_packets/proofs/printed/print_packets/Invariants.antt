use Rattle.std.proofs.Common.{◌≡◌, ◌++◌, take, string_bytes}
use Rattle.std.specs.List.{flat_map}
use Rattle.number_packets.specs.FirstPath.{pieces_of}
use Rattle.number_packets.specs.Printed.{packet_line}
use Rattle.number_packets.proofs.printed.print_packets.Given as goal

abbrev pub invariant-loop-packet : goal.invariant-loop-packet
invariant-loop-packet l = string_bytes l.output ≡ string_bytes l.fn.output ++ flat_map packet_line (pieces_of (take l.packet-index l.packets))
