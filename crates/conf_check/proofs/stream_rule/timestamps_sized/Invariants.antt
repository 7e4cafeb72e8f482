use Rattle.std.proofs.Common.{◌≡◌, drop}
use Rattle.conf_tree.specs.declared.fault_kind.FaultKind.TheVariants.{TimestampSize}
use Rattle.conf_check.specs.StreamRules.{each, timestamp_is, timestamps, is_sized}
use Rattle.conf_check.proofs.stream_rule.timestamps_sized.Given as goal

abbrev pub invariant-loop-timestamp : goal.invariant-loop-timestamp
invariant-loop-timestamp l = each (timestamp_is (is_sized l.stream) TimestampSize) timestamps ≡ each (timestamp_is (is_sized l.stream) TimestampSize) (drop l.timestamp-index timestamps)
