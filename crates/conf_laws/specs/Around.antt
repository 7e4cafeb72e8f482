-- What a value of a configuration stands in: the objects and the lists around it, with what stands before it in each of them, and
-- what these say of it. Nothing is around a whole configuration.
use Rattle.std.specs.Prelude.{◌≡◌, ◌⊎◌, ◌≤◌, ◌<◌, ℕ, Bool, true, false, List, [], ◌∷◌, Contains, Option, Some, None, codes}
use Rattle.serde_json.specs.Data.{Data, boolean, object, Items, Members, no_members, member}
use Rattle.serde_json.specs.Find.{get_member, get_item}
use Rattle.ctf_types.specs.Packets.{own_names}
use Rattle.ctf_types.specs.Shown.{length_name}
use Rattle.conf_tree.specs.Reading.{optional}
use Rattle.conf_tree.specs.Walk.{HasMember}
use Rattle.conf_table.specs.declared.place.Place.{Place}
use Rattle.conf_table.specs.declared.place.Place.TheVariants as places
use Rattle.conf_table.specs.Classes.{class_of}
use Rattle.conf_values.specs.Scalar.{as_natural}
use Rattle.conf_judge.specs.Known.{members_or_none}

-- ---- what stands before a member

-- all members are those before, the nearest first, and then the rest
pub data Parts (all : Members) : Members → Members → Type 0 where
  at_the_first : Parts all no_members all
  behind : (before : Members) (k : List ℕ) (d : Data) (rest : Members) → Parts all before (member k d rest) → Parts all (member k d before) rest

-- the object has this member, and these stand before it
abbrev pub HasBehind : Members → List ℕ → Data → Members → Type 0
HasBehind before k d all = (rest : Members) × Parts all before (member k d rest)

-- ---- what a value stands in

-- an object with the properties of a place, its members, and those before the value, the nearest first; or a list at a place, its items,
-- and the index of the value
pub data Holder : Type 0 where
  member_of : Place → Members → Members → Holder
  item_of : Place → Items → ℕ → Holder

-- all that a value stands in, the nearest first
abbrev pub Around : Type 0
Around = List Holder

-- ---- what they say

-- the log level aliases of the trace type
abbrev pub levels_around : Around → Members
levels_around [] = no_members
levels_around (member_of places.TraceType ms before ∷ around) = members_or_none (optional (codes "$log-level-aliases") ms)
levels_around (_ ∷ around) = levels_around around

-- a data stream type that says of itself that it is the default
abbrev pub SaysDefault : Data → Type 0
SaysDefault d = (ms : Members) × (d ≡ object ms) × (optional (codes "$is-default") ms ≡ Some (boolean true))

abbrev pub HasDefault : Members → Type 0
HasDefault ms = (k : List ℕ) × (d : Data) × HasMember k d ms × SaysDefault d

-- a data stream type before this one is the default
abbrev pub IsBehindDefault : Around → Type 0
IsBehindDefault [] = ⊥
IsBehindDefault (member_of places.StreamTypes ms before ∷ around) = HasDefault before ⊎ IsBehindDefault around
IsBehindDefault (_ ∷ around) = IsBehindDefault around

-- the enumeration around a value: whether its numbers have a sign, and its properties
abbrev pub enumeration_around : Around → Option (Bool × Members)
enumeration_around [] = None
enumeration_around (member_of places.UnsignedEnumeration ms before ∷ around) = Some (false, ms)
enumeration_around (member_of places.SignedEnumeration ms before ∷ around) = Some (true, ms)
enumeration_around (_ ∷ around) = enumeration_around around

-- the object has this number, from 0 to 2^64 - 1, under this name
abbrev pub HasNumber : List ℕ → Members → ℕ → Type 0
HasNumber name ms n = (d : Data) × (get_member name ms ≡ Some d) × (as_natural d ≡ Some n)

-- the enumeration around a value has so many bits, 64 at most
abbrev pub HasBits : Around → Bool → ℕ → Type 0
HasBits around signed n = (ms : Members) × (enumeration_around around ≡ Some (signed, ms)) × HasNumber (codes "size") ms n × (1 ≤ n) × (n ≤ 64)

-- ---- the names that members take

-- the member of this value is a dynamic array
abbrev pub IsDynamic : Data → Type 0
IsDynamic d = (ms type : Members) × (d ≡ object ms) × (get_member (codes "field-type") ms ≡ Some (object type)) × (class_of type ≡ Some places.DynamicArray)

-- the entry takes the name: it is its member's, or that of the length of a dynamic array
abbrev pub TakesName : Data → List ℕ → Type 0
TakesName entry name = (ms : Members) × (k : List ℕ) × (d : Data) × (entry ≡ object ms) × HasMember k d ms × ((name ≡ k) ⊎ (IsDynamic d × (name ≡ length_name k)))

-- a packet context has members of its own
abbrev pub IsBeside : Place → List ℕ → Type 0
IsBeside places.ExtraMembers name = Contains own_names name
IsBeside _ name = ⊥

-- the name is taken beside the list around a value, or by an entry of it before this one
abbrev pub IsTaken : Around → List ℕ → Type 0
IsTaken [] name = ⊥
IsTaken (item_of place ds i ∷ around) name = IsBeside place name ⊎ ((j : ℕ) × (entry : Data) × (j < i) × (get_item j ds ≡ Some entry) × TakesName entry name)
IsTaken (member_of place ms before ∷ around) name = IsTaken around name
