-- The numbers of the streams, and the events by the number of their stream.
use Rattle.std.specs.Prelude.{◌≡◌, ℕ, ◌==◌, if◌then◌else◌, List, [], ◌∷◌, ◌++◌, Option, Some, None}
use Rattle.std.specs.Global.{Vec}
use Rattle.std.specs.Ordering.{nat_cmp}
use Rattle.std.specs.List.{list_any}
use Rattle.std.specs.BTreeMap.{BTreeMap, get}
use Rattle.std.specs.BTreeSet.{BTreeSet, contains}
use Rattle.ctf_types.specs.declared.Event.{Event}
use Rattle.ctf_types.specs.declared.Stream.{Stream}
use Rattle.tsdl_grammar.specs.Steps.{◌>>=◌, by_number}

-- the set has the numbers of these streams and no other
abbrev pub HasNumbers : List Stream → BTreeSet ℕ → Type 0
HasNumbers streams numbers = (id : ℕ) → contains nat_cmp numbers id ≡ list_any (λ s. s.id == id) streams

abbrev pub events_in : Option (Vec Event) → List Event
events_in None = []
events_in (Some group) = group.items

-- the events of the stream of this number, none where the map has no group for it
abbrev pub group_of : BTreeMap ℕ (Vec Event) → ℕ → List Event
group_of groups id = events_in (get nat_cmp groups id)

-- one more event behind those of its stream
abbrev pub AddsEvent : BTreeMap ℕ (Vec Event) → ℕ × Event → BTreeMap ℕ (Vec Event) → Type 0
AddsEvent old e new = (id : ℕ) → group_of new id ≡ (if e.0 == id then group_of old id ++ e.1 ∷ [] else group_of old id)

-- the groups of all other streams stay
abbrev pub OthersStay : ℕ → BTreeMap ℕ (Vec Event) → BTreeMap ℕ (Vec Event) → Type 0
OthersStay id old new = (other : ℕ) → (other ≡ id → ⊥) → group_of new other ≡ group_of old other

-- a stream with these events, by number
abbrev pub with_own : List Event → Stream → Option Stream
with_own own s = by_number (λ e. e.id) own >>= λ es. Some (record s { events = es })

-- a stream with the events of its group
abbrev pub with_group : BTreeMap ℕ (Vec Event) → Stream → Option Stream
with_group groups s = with_own (group_of groups s.id) s
