use Rattle.std.proofs.Common.{◌≡◌, drop}
use Rattle.conf_check.specs.StreamRules.{each, record_has_bits, header_has_bits}
use Rattle.conf_check.proofs.stream_rule.records_have_bits.Given as goal

abbrev pub invariant-loop-event : goal.invariant-loop-event
invariant-loop-event l = each (record_has_bits (header_has_bits l.stream)) l.stream.events ≡ each (record_has_bits (header_has_bits l.stream)) (drop l.event-index l.stream.events)
