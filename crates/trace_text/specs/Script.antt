-- What a text says as a script of a configuration: JSON, an object with a list of streams and a list of events and nothing beside them, whose entries say the
-- streams and the events in their order.
use Rattle.std.specs.Prelude.{◌≡◌, List, [], ◌∷◌, ℕ, Bool, true, false, Option, None, Some, codes}
use Rattle.serde_json.specs.Data.{Data, Items, no_items, item, Members}
use Rattle.serde_json.specs.Find.{as_object}
use Rattle.ctf_types.specs.declared.Config.{Config}
use Rattle.conf_tree.specs.Walk.{Reads}
use Rattle.trace_text.specs.declared.script.Script.{Script}
use Rattle.trace_text.specs.declared.script_object.ScriptObject.TheVariants.{Whole}
use Rattle.trace_text.specs.ScriptEntries.{has_only, needed_list, SaysStream, SaysEvent}

-- the entries say these, one each, in their order
abbrev pub SayAll : {A : Type 0} → (Data → A → Type 0) → Items → List A → Type 0
SayAll S no_items [] = Unit {0}
SayAll S no_items (x ∷ xs) = ⊥
SayAll S (item d ds) [] = ⊥
SayAll S (item d ds) (x ∷ xs) = S d x × SayAll S ds xs

abbrev pub both_lists : Bool → Option Items → Option Items → Option (Items × Items)
both_lists false streams events = None
both_lists true None events = None
both_lists true (Some streams) None = None
both_lists true (Some streams) (Some events) = Some (streams, events)

-- the lists of streams and of events of a value that has the form of a script, whatever their entries are
abbrev pub lists_of : Option Members → Option (Items × Items)
lists_of None = None
lists_of (Some ms) = both_lists (has_only Whole ms) (needed_list (codes "streams") ms) (needed_list (codes "events") ms)

abbrev pub lists_in : Data → Option (Items × Items)
lists_in d = lists_of (as_object d)

pub record SaysScript (c : Config) (d : Data) (s : Script) : Type 0 where
  pub stream_entries : Items
  pub event_entries : Items
  pub form : lists_in d ≡ Some (stream_entries, event_entries)
  pub streams : SayAll (SaysStream c) stream_entries s.streams
  pub events : SayAll (SaysEvent c s.streams) event_entries s.events

-- the text is the UTF-8 of a JSON value that says the script
pub record IsScriptOf (c : Config) (text : List ℕ) (s : Script) : Type 0 where
  pub value : Data
  pub read : Reads text value
  pub says : SaysScript c value s
