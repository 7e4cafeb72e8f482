use Rattle.std.proofs.Common.{◌≡◌}
use Rattle.serde_json.specs.View.{members_view}
use Rattle.conf_draft.specs.Events.{event_type, event_types}
use Rattle.conf_draft.specs.Lookups.{said_behind}
use Rattle.conf_draft.proofs.event_type.event_types.Given as goal

abbrev pub invariant-loop-name : goal.invariant-loop-name
invariant-loop-name l =
    said_behind (event_type (members_view l.levels.entries)) l.events (members_view l.name-iterator)
    ≡ event_types (members_view l.levels.entries) (members_view l.stream_type.entries)
