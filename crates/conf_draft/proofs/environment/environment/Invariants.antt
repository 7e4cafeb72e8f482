use Rattle.std.proofs.Common.{◌≡◌, ◌++◌}
use Rattle.serde_json.specs.View.{members_view}
use Rattle.conf_draft.specs.Environments.{entries_in, environment}
use Rattle.conf_draft.proofs.environment.environment.Given as goal

abbrev pub invariant-loop-name : goal.invariant-loop-name
invariant-loop-name l = l.entries ++ entries_in (members_view l.name-iterator) ≡ environment (members_view l.trace.entries)
