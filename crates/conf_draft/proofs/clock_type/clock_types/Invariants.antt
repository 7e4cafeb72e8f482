use Rattle.std.proofs.Common.{◌≡◌, ◌++◌}
use Rattle.serde_json.specs.View.{members_view}
use Rattle.conf_draft.specs.Clocks.{clocks_in, clock_types}
use Rattle.conf_draft.proofs.clock_type.clock_types.Given as goal

abbrev pub invariant-loop-name : goal.invariant-loop-name
invariant-loop-name l = l.clocks ++ clocks_in (members_view l.name-iterator) ≡ clock_types (members_view l.trace_type.entries)
