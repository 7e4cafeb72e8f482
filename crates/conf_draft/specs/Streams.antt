-- Data stream types (barectf 3.1, "Data stream type object"), in byte order of their names. None where a part of one is none.
use Rattle.std.specs.Prelude.{ℕ, List, [], Option, Some, None, codes}
use Rattle.serde_json.specs.Data.{Members}
use Rattle.ctf_types.specs.declared.ContextFeatures.{ContextFeatures}
use Rattle.ctf_types.specs.declared.EventFeatures.{EventFeatures}
use Rattle.ctf_types.specs.declared.EventType.{EventType}
use Rattle.ctf_types.specs.declared.StreamType.{StreamType}
use Rattle.ctf_types.specs.declared.StructType.{StructType}
use Rattle.conf_draft.specs.Events.{event_types}
use Rattle.conf_draft.specs.Features.{context, event_header}
use Rattle.conf_draft.specs.Lookups.{word, properties, said_behind}
use Rattle.conf_draft.specs.Structures.{structure, extra_members}

abbrev pub stream_with : List ℕ → Option (List ℕ) → Option ContextFeatures → Option StructType → Option EventFeatures → Option StructType → Option (List EventType) → Option StreamType
stream_with name clock (Some context) (Some extras) (Some event_header) (Some common) (Some events) =
    Some (record { name = name; default_clock = clock; context = context; extras = extras; event_header = event_header; common = common; events = events })
stream_with _ _ _ _ _ _ _ = None

abbrev pub clock_of : Members → Option (List ℕ)
clock_of ms = word (codes "$default-clock-type-name") ms

-- what the features of this name are
abbrev pub feature_group : List ℕ → Members → Members
feature_group name ms = properties name (properties (codes "$features") ms)

-- `levels` are the log level aliases of the trace type
unfoldable pub stream_type : Members → List ℕ → Members → Option StreamType
stream_type levels name ms =
    stream_with name (clock_of ms) (context (clock_of ms) (feature_group (codes "packet") ms)) (extra_members (codes "packet-context-field-type-extra-members") ms)
    (event_header (clock_of ms) (feature_group (codes "event-record") ms)) (structure (codes "event-record-common-context-field-type") ms) (event_types levels ms)

unfoldable pub stream_types : Members → Option (List StreamType)
stream_types ms = said_behind (stream_type (properties (codes "$log-level-aliases") ms)) [] (properties (codes "data-stream-types") ms)
