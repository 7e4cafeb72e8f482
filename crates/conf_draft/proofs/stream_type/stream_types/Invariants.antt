use Rattle.std.proofs.Common.{◌≡◌}
use Rattle.serde_json.specs.View.{members_view}
use Rattle.conf_draft.specs.Streams.{stream_type, stream_types}
use Rattle.conf_draft.specs.Lookups.{said_behind}
use Rattle.conf_draft.proofs.stream_type.stream_types.Given as goal

abbrev pub invariant-loop-name : goal.invariant-loop-name
invariant-loop-name l =
    said_behind (stream_type (members_view l.levels.entries)) l.streams (members_view l.name-iterator)
    ≡ stream_types (members_view l.trace_type.entries)
