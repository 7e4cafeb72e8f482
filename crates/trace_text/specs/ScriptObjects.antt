-- The objects of a script, and the properties that each can have.
use Rattle.std.specs.Prelude.{ℕ, List, [], ◌∷◌, Bool, codes}
use Rattle.std.specs.List.{list_any}
use Rattle.std.specs.Str.{bytes_eq}
use Rattle.std.specs.Borrow.{Bor}
use Rattle.trace_text.specs.declared.script_object.ScriptObject.{ScriptObject}
use Rattle.trace_text.specs.declared.script_object.ScriptObject.TheVariants.{Whole, Stream, Tracing, Doing}
use Rattle.trace_text.specs.declared.script_object.Presence.{Presence}
use Rattle.trace_text.specs.declared.script_object.Presence.TheVariants.{Needed, Optional, Alone}
use Rattle.trace_text.specs.declared.script_object.PropertyKind.{PropertyKind}
use Rattle.trace_text.specs.declared.script_object.PropertyKind.TheVariants.{Text, Readings, Values, Entries}

-- a property: its name, whether it has to be there, and what it is
abbrev pub Property : Type 0
Property = List ℕ × Presence × PropertyKind

-- what a row of the code tells
abbrev pub told_of : Bor (List ℕ) × Presence × PropertyKind → Property
told_of row = (row.0.now, row.1, row.2)

-- the properties that an object can have
unfoldable pub properties_of : ScriptObject → List Property
properties_of Whole = (codes "streams", Needed, Entries) ∷ (codes "events", Needed, Entries) ∷ []
properties_of Stream = (codes "name", Needed, Text) ∷ (codes "type", Needed, Text) ∷ (codes "clock", Optional, Readings) ∷ (codes "extras", Optional, Values) ∷ []
properties_of Tracing =
    (codes "trace", Needed, Text) ∷ (codes "event", Needed, Text)
    ∷ (codes "common", Optional, Values) ∷ (codes "specific", Optional, Values) ∷ (codes "payload", Optional, Values) ∷ []
properties_of Doing =
    (codes "open", Alone, Text) ∷ (codes "close", Alone, Text) ∷ (codes "collect", Alone, Text) ∷ (codes "enable", Alone, Text) ∷ (codes "disable", Alone, Text) ∷ []

-- one of these properties has the name
abbrev pub is_among : List ℕ → List Property → Bool
is_among name properties = list_any (λ p. bytes_eq name p.0) properties

-- an object can have a property of the name
abbrev pub has_property : ScriptObject → List ℕ → Bool
has_property object name = is_among name (properties_of object)
