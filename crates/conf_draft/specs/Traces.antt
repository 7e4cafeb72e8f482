-- What a resolved configuration says: the trace, its type, and the configuration around them (barectf 3.1, "Configuration
-- object", "Trace object", "Trace type object"). None where a part of it is none.
use Rattle.std.specs.Prelude.{◌&&◌, ℕ, Bool, false, not, List, Option, Some, None, is_some, option_and_then, unwrap_or, codes, if◌then◌else◌}
use Rattle.std.specs.Option.{option_map_or}
use Rattle.std.specs.Str.{bytes_eq}
use Rattle.serde_json.specs.Data.{Data, object, Members}
use Rattle.ctf_types.specs.declared.ByteOrder.{ByteOrder}
use Rattle.ctf_types.specs.declared.ByteOrder.TheVariants.{Little}
use Rattle.ctf_types.specs.declared.EnvironmentEntry.{EnvironmentEntry}
use Rattle.ctf_types.specs.declared.HeaderFeatures.{HeaderFeatures}
use Rattle.ctf_types.specs.declared.StreamType.{StreamType}
use Rattle.conf_values.specs.Words.{word_in, order_words}
use Rattle.conf_draft.specs.declared.draft.Draft.{Draft}
use Rattle.conf_draft.specs.Clocks.{clock_types}
use Rattle.conf_draft.specs.Environments.{environment}
use Rattle.conf_draft.specs.Features.{header}
use Rattle.conf_draft.specs.Lookups.{word, identifier, properties, object as object_at}
use Rattle.conf_draft.specs.Streams.{stream_types}

unfoldable pub order : List ℕ → Members → Option ByteOrder
order name ms = option_and_then (word_in order_words) (word name ms)

-- the byte order of the trace is the one that is given, of whichever name
unfoldable pub trace_order : Members → ByteOrder
trace_order ms = unwrap_or (order (codes "trace-byte-order") ms) (unwrap_or (order (codes "native-byte-order") ms) Little)

unfoldable pub has_two_orders : Members → Bool
has_two_orders ms = is_some (order (codes "native-byte-order") ms) && is_some (order (codes "trace-byte-order") ms)

-- an identifier is asked for that is handed in
unfoldable pub asks_number : Members → Bool
asks_number ms = option_map_or (λ w. bytes_eq w (codes "auto")) (word (codes "uuid") ms) false

-- the identifier of the trace: the one that is handed in where it is asked for
abbrev pub identifier_of : Option (List ℕ) → Members → Option (List ℕ)
identifier_of number ms = if asks_number ms then number else identifier (codes "uuid") ms

abbrev pub draft_with : Option (List ℕ) → List EnvironmentEntry → Members → Option HeaderFeatures → Option (List StreamType) → Option Draft
draft_with number entries ms (Some header) (Some streams) = Some (record {
  config = record { order = trace_order ms; uuid = identifier_of number ms; environment = entries; clocks = clock_types ms; header = header; streams = streams };
  lacks_number = not (is_some number) && asks_number ms;
  two_orders = has_two_orders ms;
})
draft_with number entries ms _ _ = None

-- `number` is the identifier that is handed in
unfoldable pub draft_of_type : Option (List ℕ) → List EnvironmentEntry → Members → Option Draft
draft_of_type number entries ms = draft_with number entries ms (header (is_some (word (codes "uuid") ms)) (properties (codes "$features") ms)) (stream_types ms)

unfoldable pub draft_of_trace : Option (List ℕ) → Members → Option Draft
draft_of_trace number ms = option_and_then (draft_of_type number (environment ms)) (object_at (codes "type") ms)

unfoldable pub draft_of_root : Option (List ℕ) → Members → Option Draft
draft_of_root number ms = option_and_then (draft_of_trace number) (object_at (codes "trace") ms)

abbrev pub draft_of : Option (List ℕ) → Data → Option Draft
draft_of number (object ms) = draft_of_root number ms
draft_of number _ = None
