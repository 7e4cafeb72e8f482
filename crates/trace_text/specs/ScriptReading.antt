-- How a script is read, one property after the other: the value read, or the kind of the first refusal. `Gives` ties what a function answers to its reading.
use Rattle.std.specs.Prelude.{◌≡◌, ◌⊎◌, ℕ, suc, List, [], ◌∷◌, ◌++◌, Bool, true, false, Option, None, Some, Result, Ok, Err, codes, ⊤}
use Rattle.serde_json.specs.Data.{Data, Items, no_items, item, Members}
use Rattle.serde_json.specs.Find.{as_object}
use Rattle.ctf_types.specs.declared.Config.{Config}
use Rattle.ctf_types.specs.declared.EventType.{EventType}
use Rattle.ctf_types.specs.declared.StreamType.{StreamType}
use Rattle.trace_stack.specs.declared.event.Act.{Act}
use Rattle.trace_stack.specs.declared.event.Act.TheVariants.{Trace}
use Rattle.trace_stack.specs.declared.event.Event.{Event}
use Rattle.trace_text.specs.declared.script.Script.{Script}
use Rattle.trace_text.specs.declared.script.ScriptStream.{ScriptStream}
use Rattle.trace_text.specs.declared.script_fault.ScriptFault.{ScriptFault}
use Rattle.trace_text.specs.declared.script_fault.ScriptFaultKind.{ScriptFaultKind}
use Rattle.trace_text.specs.declared.script_fault.ScriptFaultKind.TheVariants.{Shape, NoSuchStream, NoSuchEvent, BadValue, OutOfMemory}
use Rattle.trace_text.specs.declared.script_object.ScriptObject.TheVariants.{Stream, Tracing}
use Rattle.trace_text.specs.ScriptEntries.{has_only, text_in, list_in, readings_of, type_named, script_stream_named, event_named, doing_in}
use Rattle.trace_text.specs.Script.{lists_in}
use Rattle.trace_text.specs.ScriptValues.{members_values}

-- a function answers its reading, or memory ran out
abbrev pub Gives : {A B : Type 0} → (A → B) → Result A ScriptFaultKind → Result B ScriptFaultKind → Type 0
Gives view (Ok x) read = read ≡ Ok (view x)
Gives view (Err kind) read = (kind ≡ OutOfMemory) ⊎ (read ≡ Err kind)

infixl 10 ◌>>=◌
abbrev pub ◌>>=◌ : {A B E : Type 0} → Result A E → (A → Result B E) → Result B E
Ok x >>= next = next x
Err kind >>= next = Err kind

-- what is there, or else a fault of this kind
abbrev pub wanted : {A : Type 0} → ScriptFaultKind → Option A → Result A ScriptFaultKind
wanted kind None = Err kind
wanted kind (Some x) = Ok x

abbrev pub holds : ScriptFaultKind → Bool → Result ⊤ ScriptFaultKind
holds kind true = Ok tt
holds kind false = Err kind

-- ---- an object's properties as a stream or an event

unfoldable pub stream_made : StreamType → List ℕ → List ℕ → List ℕ → Items → Result ScriptStream ScriptFaultKind
stream_made type name type_name clock extras =
    wanted BadValue (members_values type.extras.members extras)
    >>= (λ values. Ok (record { name = name; type_name = type_name; clock = clock; extras = values }))

unfoldable pub stream_reading : Config → Members → Result ScriptStream ScriptFaultKind
stream_reading c ms = do
  _ ← holds Shape (has_only Stream ms)
  name ← wanted Shape (text_in (codes "name") ms)
  type_name ← wanted Shape (text_in (codes "type") ms)
  extras ← wanted Shape (list_in (codes "extras") ms)
  readings ← wanted Shape (list_in (codes "clock") ms)
  clock ← wanted Shape (readings_of readings)
  type ← wanted NoSuchStream (type_named c type_name)
  stream_made type name type_name clock extras

unfoldable pub doing_reading : List ScriptStream → Act → List ℕ → Result Event ScriptFaultKind
doing_reading ss act name =
    wanted NoSuchStream (script_stream_named name 0 ss) >>= (λ stream. Ok (record { stream = stream.0; act = act }))

unfoldable pub tracing_made : ℕ → StreamType → ℕ × EventType → Items → Items → Items → Result Event ScriptFaultKind
tracing_made stream type event common specific payload = do
  common ← wanted BadValue (members_values type.common.members common)
  specific ← wanted BadValue (members_values event.1.specific.members specific)
  payload ← wanted BadValue (members_values event.1.payload.members payload)
  Ok (record { stream = stream; act = Trace event.0 (record { common = common; specific = specific; payload = payload }) })

unfoldable pub tracing_reading : Config → List ScriptStream → Members → Result Event ScriptFaultKind
tracing_reading c ss ms = do
  _ ← holds Shape (has_only Tracing ms)
  name ← wanted Shape (text_in (codes "trace") ms)
  event_name ← wanted Shape (text_in (codes "event") ms)
  common ← wanted Shape (list_in (codes "common") ms)
  specific ← wanted Shape (list_in (codes "specific") ms)
  payload ← wanted Shape (list_in (codes "payload") ms)
  stream ← wanted NoSuchStream (script_stream_named name 0 ss)
  type ← wanted NoSuchStream (type_named c stream.1.type_name)
  event ← wanted NoSuchEvent (event_named event_name 0 type.events)
  tracing_made stream.0 type event common specific payload

abbrev pub act_of_event : Config → List ScriptStream → Members → Option (Act × List ℕ) → Result Event ScriptFaultKind
act_of_event c ss ms None = tracing_reading c ss ms
act_of_event c ss ms (Some doing) = doing_reading ss doing.0 doing.1

abbrev pub event_reading : Config → List ScriptStream → Members → Result Event ScriptFaultKind
event_reading c ss ms = act_of_event c ss ms (doing_in ms)

-- an entry is an object
abbrev pub entry_reading : {A : Type 0} → (Members → Result A ScriptFaultKind) → Data → Result A ScriptFaultKind
entry_reading reads d = wanted Shape (as_object d) >>= reads

-- ---- a script

-- the fault of an entry. Want of memory is no entry's
abbrev pub of_entry : ℕ → ScriptFaultKind → ScriptFault
of_entry at OutOfMemory = record { at = 0; kind = OutOfMemory }
of_entry at kind = record { at = at; kind = kind }

abbrev pub IsMemory : ScriptFault → Type 0
IsMemory fault = fault ≡ of_entry 0 OutOfMemory

abbrev pub GivesAll : {A B : Type 0} → (A → B) → Result A ScriptFault → Result B ScriptFault → Type 0
GivesAll view (Ok x) read = read ≡ Ok (view x)
GivesAll view (Err fault) read = IsMemory fault ⊎ (read ≡ Err fault)

abbrev pub at_entry : {A : Type 0} → ℕ → Result A ScriptFaultKind → Result A ScriptFault
at_entry i (Ok x) = Ok x
at_entry i (Err kind) = Err (record { at = i; kind = kind })

-- what the entries are read as, behind what those before them were, the first of them of index i
abbrev pub entries_from : {A : Type 0} → (Data → Result A ScriptFaultKind) → List A → ℕ → Items → Result (List A) ScriptFault
entries_from reads before i no_items = Ok before
entries_from reads before i (item d ds) = at_entry i (reads d) >>= (λ x. entries_from reads (before ++ x ∷ []) (suc i) ds)

unfoldable pub script_reading : Config → Data → Result Script ScriptFault
script_reading c d = do
  lists ← at_entry 0 (wanted Shape (lists_in d))
  streams ← entries_from (entry_reading (stream_reading c)) [] 0 lists.0
  events ← entries_from (entry_reading (event_reading c streams)) [] 0 lists.1
  Ok (record { streams = streams; events = events })
