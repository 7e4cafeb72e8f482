-- The entries of a script: what an entry of its list of streams says of a stream, and an entry of its list of events of an event. An optional property that
-- is null is as if it were not there.
use Rattle.std.specs.Prelude.{◌≡◌, ◌⊎◌, ℕ, ◌+◌, ◌&&◌, nat_le, List, [], ◌∷◌, ◌++◌, Bool, true, false, Option, None, Some, option_and_then, codes, if◌then◌else◌}
use Rattle.std.specs.Str.{bytes_eq}
use Rattle.serde_json.specs.Data.{Data, object, Items, no_items, item, Members, no_members, member}
use Rattle.serde_json.specs.Find.{get_member, as_number, as_str, as_array, as_u64}
use Rattle.ctf_types.specs.declared.Args.{Args}
use Rattle.ctf_types.specs.declared.Config.{Config}
use Rattle.ctf_types.specs.declared.EventType.{EventType}
use Rattle.ctf_types.specs.declared.StreamType.{StreamType}
use Rattle.conf_tree.specs.Reading.{optional}
use Rattle.trace_stack.specs.declared.event.Act.{Act}
use Rattle.trace_stack.specs.declared.event.Act.TheVariants.{Trace, OpenPacket, ClosePacket, Collect, Enable}
use Rattle.trace_stack.specs.declared.event.Event.{Event}
use Rattle.trace_text.specs.declared.script.ScriptStream.{ScriptStream}
use Rattle.trace_text.specs.declared.script_object.ScriptObject.{ScriptObject}
use Rattle.trace_text.specs.declared.script_object.ScriptObject.TheVariants.{Stream, Tracing}
use Rattle.trace_text.specs.ScriptObjects.{has_property}
use Rattle.trace_text.specs.ScriptValues.{members_values}

-- ---- properties

-- an object has no property that such an object cannot have
abbrev pub has_only : ScriptObject → Members → Bool
has_only kind no_members = true
has_only kind (member k d ms) = has_property kind k && has_only kind ms

abbrev pub text_in : List ℕ → Members → Option (List ℕ)
text_in name ms = option_and_then as_str (get_member name ms)

abbrev pub given_list : Option Data → Option Items
given_list None = Some no_items
given_list (Some d) = as_array d

-- the list that an optional property is; none is a list of nothing
abbrev pub list_in : List ℕ → Members → Option Items
list_in name ms = given_list (optional name ms)

abbrev pub needed_list : List ℕ → Members → Option Items
needed_list name ms = option_and_then as_array (get_member name ms)

-- ---- readings of a clock

abbrev pub natural : Data → Option ℕ
natural d = option_and_then as_u64 (as_number d)

-- whole numbers that do not fall, the first of them not below a floor, behind those before them
abbrev pub readings_from : ℕ → List ℕ → Items → Option (List ℕ)
readings_from floor before no_items = Some before
readings_from floor before (item d ds) =
    option_and_then (λ n. if nat_le floor n then readings_from n (before ++ n ∷ []) ds else None) (natural d)

abbrev pub readings_of : Items → Option (List ℕ)
readings_of ds = readings_from 0 [] ds

-- ---- a stream

-- the first stream type of a name
abbrev pub first_named : List ℕ → List StreamType → Option StreamType
first_named name [] = None
first_named name (t ∷ ts) = if bytes_eq t.name name then Some t else first_named name ts

-- the type of the configuration that a stream's is
abbrev pub type_named : Config → List ℕ → Option StreamType
type_named c name = first_named name c.streams

-- an entry of the list of streams says a stream
pub record SaysStream (c : Config) (d : Data) (s : ScriptStream) : Type 0 where
  pub properties : Members
  pub an_object : d ≡ object properties
  pub no_others : has_only Stream properties ≡ true
  pub name : text_in (codes "name") properties ≡ Some s.name
  pub type_name : text_in (codes "type") properties ≡ Some s.type_name
  pub clock : option_and_then readings_of (list_in (codes "clock") properties) ≡ Some s.clock
  pub items : Items
  pub listed : list_in (codes "extras") properties ≡ Some items
  pub type : StreamType
  pub there : type_named c s.type_name ≡ Some type
  pub extras : members_values type.extras.members items ≡ Some s.extras

-- ---- an event

-- the first stream of a name, and its number, counted from n
abbrev pub script_stream_named : List ℕ → ℕ → List ScriptStream → Option (ℕ × ScriptStream)
script_stream_named name n [] = None
script_stream_named name n (s ∷ ss) = if bytes_eq s.name name then Some (n, s) else script_stream_named name (n + 1) ss

-- the first event record type of a name, and its number, counted from n
abbrev pub event_named : List ℕ → ℕ → List EventType → Option (ℕ × EventType)
event_named name n [] = None
event_named name n (e ∷ es) = if bytes_eq e.name name then Some (n, e) else event_named name (n + 1) es

-- the act that a word alone stands for
unfoldable pub act_named : List ℕ → Option Act
act_named k =
    if bytes_eq k (codes "open") then Some OpenPacket
    else (if bytes_eq k (codes "close") then Some ClosePacket
    else (if bytes_eq k (codes "collect") then Some Collect
    else (if bytes_eq k (codes "enable") then Some (Enable true)
    else (if bytes_eq k (codes "disable") then Some (Enable false) else None))))

abbrev pub both : {A B : Type 0} → Option A → Option B → Option (A × B)
both None o = None
both (Some x) None = None
both (Some x) (Some y) = Some (x, y)

-- the act of an object whose only property is the act's word, and the stream's name that it is
abbrev pub doing_in : Members → Option (Act × List ℕ)
doing_in no_members = None
doing_in (member k d no_members) = both (act_named k) (as_str d)
doing_in (member k d (member l e ms)) = None

-- such an object says that a stream does this
pub record SaysDoing (ss : List ScriptStream) (properties : Members) (e : Event) : Type 0 where
  pub name : List ℕ
  pub doing : doing_in properties ≡ Some (e.act, name)
  pub stream : ScriptStream
  pub there : script_stream_named name 0 ss ≡ Some (e.stream, stream)

-- an object says that a stream traces an event record
pub record SaysTracing (c : Config) (ss : List ScriptStream) (properties : Members) (e : Event) : Type 0 where
  pub no_doing : doing_in properties ≡ None
  pub no_others : has_only Tracing properties ≡ true
  pub name : List ℕ
  pub named : text_in (codes "trace") properties ≡ Some name
  pub event_name : List ℕ
  pub event_is_named : text_in (codes "event") properties ≡ Some event_name
  pub common : Items
  pub common_listed : list_in (codes "common") properties ≡ Some common
  pub specific : Items
  pub specific_listed : list_in (codes "specific") properties ≡ Some specific
  pub payload : Items
  pub payload_listed : list_in (codes "payload") properties ≡ Some payload
  pub stream : ScriptStream
  pub stream_there : script_stream_named name 0 ss ≡ Some (e.stream, stream)
  pub type : StreamType
  pub type_there : type_named c stream.type_name ≡ Some type
  pub number : ℕ
  pub event : EventType
  pub event_there : event_named event_name 0 type.events ≡ Some (number, event)
  pub args : Args
  pub common_values : members_values type.common.members common ≡ Some args.common
  pub specific_values : members_values event.specific.members specific ≡ Some args.specific
  pub payload_values : members_values event.payload.members payload ≡ Some args.payload
  pub act : e.act ≡ Trace number args

-- an entry of the list of events says an event of these streams
pub record SaysEvent (c : Config) (ss : List ScriptStream) (d : Data) (e : Event) : Type 0 where
  pub properties : Members
  pub an_object : d ≡ object properties
  pub said : SaysDoing ss properties e ⊎ SaysTracing c ss properties e
