use Rattle.std.proofs.Common.{◌≡◌, drop}
use Rattle.conf_tree.specs.declared.fault_kind.FaultKind.TheVariants.{NoClock}
use Rattle.conf_check.specs.StreamRules.{each, timestamp_is, timestamps, is_clocked}
use Rattle.conf_check.proofs.stream_rule.clocks_are_there.Given as goal

abbrev pub invariant-loop-timestamp : goal.invariant-loop-timestamp
invariant-loop-timestamp l = each (timestamp_is (is_clocked l.stream) NoClock) timestamps ≡ each (timestamp_is (is_clocked l.stream) NoClock) (drop l.timestamp-index timestamps)
