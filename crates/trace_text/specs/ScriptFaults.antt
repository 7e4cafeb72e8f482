-- What is wrong with a text that is no script: a fault that lies in no entry, or else that of the first entry that has one, streams before events. Each kind
-- has its tests, and of the kinds whose tests an entry does not pass, the one that stands first is its fault.
use Rattle.std.specs.Prelude.{◌≡◌, ◌⊎◌, ℕ, suc, List, [], ◌∷◌, Bool, Option, None, Some, is_some, option_map, option_and_then, codes, if◌then◌else◌}
use Rattle.serde_json.specs.Data.{Data, Items, no_items, item, Members}
use Rattle.serde_json.specs.Find.{as_object}
use Rattle.ctf_types.specs.declared.Config.{Config}
use Rattle.ctf_types.specs.declared.EventType.{EventType}
use Rattle.ctf_types.specs.declared.StreamType.{StreamType}
use Rattle.ctf_types.specs.Datum.{Datum}
use Rattle.ctf_types.specs.declared.MemberType.{MemberType}
use Rattle.trace_stack.specs.declared.event.Act.{Act}
use Rattle.conf_tree.specs.Walk.{Reads}
use Rattle.trace_text.specs.declared.script.ScriptStream.{ScriptStream}
use Rattle.trace_text.specs.declared.script_fault.ScriptFault.{ScriptFault}
use Rattle.trace_text.specs.declared.script_fault.ScriptFaultKind.{ScriptFaultKind}
use Rattle.trace_text.specs.declared.script_fault.ScriptFaultKind.TheVariants.{NotJson, Shape, NoSuchStream, NoSuchEvent, BadValue}
use Rattle.trace_text.specs.declared.script_lists.FaultyList.{FaultyList}
use Rattle.trace_text.specs.declared.script_lists.FaultyList.TheVariants.{Neither, Streams, Events}
use Rattle.trace_text.specs.declared.script_object.ScriptObject.TheVariants.{Stream, Tracing}
use Rattle.trace_text.specs.Script.{SayAll, lists_in}
use Rattle.trace_text.specs.ScriptEntries.{has_only, text_in, list_in, readings_of, type_named, script_stream_named, event_named, doing_in, SaysStream}
use Rattle.trace_text.specs.ScriptValues.{members_values}

-- the kind of the first test that is not passed
unfoldable pub lowest : List (Bool × ScriptFaultKind) → Option ScriptFaultKind
lowest [] = None
lowest (test ∷ tests) = if test.0 then lowest tests else Some test.1

-- the values of the members of a structure, if it is there, in a list of a property
abbrev pub values_in : Option (List (List ℕ × MemberType)) → List ℕ → Members → Option (List Datum)
values_in None name ms = None
values_in (Some members) name ms = option_and_then (members_values members) (list_in name ms)

-- ---- an entry of the list of streams

-- the type that it names
abbrev pub stream_type_in : Config → Members → Option StreamType
stream_type_in c ms = option_and_then (type_named c) (text_in (codes "type") ms)

abbrev pub stream_tests : Config → Members → List (Bool × ScriptFaultKind)
stream_tests c ms =
    (has_only Stream ms, Shape)
    ∷ (is_some (text_in (codes "name") ms), Shape)
    ∷ (is_some (text_in (codes "type") ms), Shape)
    ∷ (is_some (list_in (codes "extras") ms), Shape)
    ∷ (is_some (list_in (codes "clock") ms), Shape)
    ∷ (is_some (option_and_then readings_of (list_in (codes "clock") ms)), Shape)
    ∷ (is_some (stream_type_in c ms), NoSuchStream)
    ∷ (is_some (values_in (option_map (λ (t : StreamType). t.extras.members) (stream_type_in c ms)) (codes "extras") ms), BadValue)
    ∷ []

-- the tests of an object; no other value is an entry
abbrev pub object_fault : (Members → List (Bool × ScriptFaultKind)) → Option Members → Option ScriptFaultKind
object_fault tests None = Some Shape
object_fault tests (Some ms) = lowest (tests ms)

abbrev pub stream_fault : Config → Data → Option ScriptFaultKind
stream_fault c d = object_fault (stream_tests c) (as_object d)

-- ---- an entry of the list of events

-- the stream that it names, and its type
abbrev pub stream_in : List ScriptStream → Members → Option (ℕ × ScriptStream)
stream_in ss ms = option_and_then (λ name. script_stream_named name 0 ss) (text_in (codes "trace") ms)

abbrev pub type_in : Config → List ScriptStream → Members → Option StreamType
type_in c ss ms = option_and_then (λ s. type_named c s.1.type_name) (stream_in ss ms)

-- the event record type of this stream type that it names
abbrev pub event_in : Option StreamType → Members → Option (ℕ × EventType)
event_in None ms = None
event_in (Some t) ms = option_and_then (λ name. event_named name 0 t.events) (text_in (codes "event") ms)

abbrev pub tracing_tests : Config → List ScriptStream → Members → List (Bool × ScriptFaultKind)
tracing_tests c ss ms =
    (has_only Tracing ms, Shape)
    ∷ (is_some (text_in (codes "trace") ms), Shape)
    ∷ (is_some (text_in (codes "event") ms), Shape)
    ∷ (is_some (list_in (codes "common") ms), Shape)
    ∷ (is_some (list_in (codes "specific") ms), Shape)
    ∷ (is_some (list_in (codes "payload") ms), Shape)
    ∷ (is_some (stream_in ss ms), NoSuchStream)
    ∷ (is_some (type_in c ss ms), NoSuchStream)
    ∷ (is_some (event_in (type_in c ss ms) ms), NoSuchEvent)
    ∷ (is_some (values_in (option_map (λ (t : StreamType). t.common.members) (type_in c ss ms)) (codes "common") ms), BadValue)
    ∷ (is_some (values_in (option_map (λ (e : ℕ × EventType). e.1.specific.members) (event_in (type_in c ss ms) ms)) (codes "specific") ms), BadValue)
    ∷ (is_some (values_in (option_map (λ (e : ℕ × EventType). e.1.payload.members) (event_in (type_in c ss ms) ms)) (codes "payload") ms), BadValue)
    ∷ []

-- an object whose only property is an act's word needs the stream alone
abbrev pub tests_of_event : Config → List ScriptStream → Members → Option (Act × List ℕ) → List (Bool × ScriptFaultKind)
tests_of_event c ss ms None = tracing_tests c ss ms
tests_of_event c ss ms (Some doing) = (is_some (script_stream_named doing.1 0 ss), NoSuchStream) ∷ []

abbrev pub event_tests : Config → List ScriptStream → Members → List (Bool × ScriptFaultKind)
event_tests c ss ms = tests_of_event c ss ms (doing_in ms)

abbrev pub event_fault : Config → List ScriptStream → Data → Option ScriptFaultKind
event_fault c ss d = object_fault (event_tests c ss) (as_object d)

-- ---- a script

abbrev pub entry_fault : ℕ → Option ScriptFaultKind → Option ScriptFault → Option ScriptFault
entry_fault i None later = later
entry_fault i (Some kind) later = Some (record { at = i; kind = kind })

-- the fault of the first entry that has one, the entries counted from i
abbrev pub first_fault : (Data → Option ScriptFaultKind) → ℕ → Items → Option ScriptFault
first_fault F i no_items = None
first_fault F i (item d ds) = entry_fault i (F d) (first_fault F (suc i) ds)

-- the first fault of a value lies in its form; else in the first entry of a stream that has one; else, where all streams are said, in that of an event
abbrev pub LiesIn : Config → Data → FaultyList → ScriptFault → Type 0
LiesIn c d Neither fault = (lists_in d ≡ None) × (fault ≡ record { at = 0; kind = Shape })
LiesIn c d Streams fault = (streams events : Items) × (lists_in d ≡ Some (streams, events)) × (first_fault (stream_fault c) 0 streams ≡ Some fault)
LiesIn c d Events fault =
    (streams events : Items) × (ss : List ScriptStream) × (lists_in d ≡ Some (streams, events)) × SayAll (SaysStream c) streams ss × (first_fault (event_fault c ss) 0 events ≡ Some fault)

abbrev pub IsScriptFault : Config → Data → ScriptFault → Type 0
IsScriptFault c d fault = LiesIn c d Neither fault ⊎ (LiesIn c d Streams fault ⊎ LiesIn c d Events fault)

-- the first fault of a text
abbrev pub IsFirstFault : Config → List ℕ → ScriptFault → Type 0
IsFirstFault c text fault =
    (((d : Data) → ¬ Reads text d) × (fault ≡ record { at = 0; kind = NotJson })) ⊎ ((d : Data) × Reads text d × IsScriptFault c d fault)
