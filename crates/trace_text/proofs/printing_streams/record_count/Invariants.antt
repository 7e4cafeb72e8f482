use Rattle.std.proofs.Common.{◌≡◌, ◌*◌, ◌^◌, ◌≤◌, take}
use Rattle.trace_text.specs.PrintedStreams.{record_count}
use Rattle.trace_text.proofs.printing_streams.record_count.Given as goal

abbrev pub invariant-loop-packet : goal.invariant-loop-packet
invariant-loop-packet l = (l.count ≡ record_count (take l.packet-index l.packets)) × (l.count ≤ 2 ^ 64 * l.packet-index)
