-- Event record types (barectf 3.1, "Event record type object"), in byte order of their names. None where a structure of one is
-- none.
use Rattle.std.specs.Prelude.{ℕ, List, [], Option, Some, None, option_and_then, codes}
use Rattle.serde_json.specs.Data.{Data, string, Members}
use Rattle.serde_json.specs.Find.{get_member}
use Rattle.ctf_types.specs.declared.EventType.{EventType}
use Rattle.ctf_types.specs.declared.StructType.{StructType}
use Rattle.conf_tree.specs.Reading.{optional}
use Rattle.conf_values.specs.Scalar.{as_natural}
use Rattle.conf_draft.specs.Lookups.{properties, said_behind}
use Rattle.conf_draft.specs.Structures.{structure}

-- a number, or the name of an alias of one
abbrev pub level_of : Members → Option Data → Option ℕ
level_of levels (Some (string name)) = option_and_then as_natural (get_member name levels)
level_of levels value = option_and_then as_natural value

abbrev pub event_with : List ℕ → Option ℕ → Option StructType → Option StructType → Option EventType
event_with name level (Some specific) (Some payload) = Some (record { name = name; log_level = level; specific = specific; payload = payload })
event_with name level _ _ = None

-- `levels` are the log level aliases of the trace type
unfoldable pub event_type : Members → List ℕ → Members → Option EventType
event_type levels name ms =
    event_with name (level_of levels (optional (codes "log-level") ms)) (structure (codes "specific-context-field-type") ms) (structure (codes "payload-field-type") ms)

unfoldable pub event_types : Members → Members → Option (List EventType)
event_types levels ms = said_behind (event_type levels) [] (properties (codes "event-record-types") ms)
