-- What a property is that is left out, as the table says: a number, a flag, an alignment or a base; and whether a feature is on
-- then (barectf 3.1, the pages below "Configuration object").
use Rattle.std.specs.Prelude.{ℕ, ◌%◌, ◌==◌, Bool, false, List, Option, Some, None, is_some, unwrap_or, if◌then◌else◌, ⊤}
use Rattle.serde_json.specs.Data.{Members}
use Rattle.ctf_types.specs.declared.Base.{Base}
use Rattle.ctf_types.specs.declared.Base.TheVariants.{Dec}
use Rattle.conf_table.specs.declared.place.Place.{Place}
use Rattle.conf_table.specs.declared.place.Place.TheVariants as places
use Rattle.conf_table.specs.declared.row.Presence.{Presence}
use Rattle.conf_table.specs.declared.row.Presence.TheVariants.{Number, Flag, Decimal, ByteAlignment, WithIdentifier, WithClock}
use Rattle.conf_table.specs.Table.{presence_under}
use Rattle.conf_draft.specs.declared.defaults.Given.{Given}
use Rattle.conf_draft.specs.Alignments.{alignment}
use Rattle.conf_draft.specs.Lookups.{natural, flag}

-- ---- numbers and flags

abbrev pub number_told : Option Presence → ℕ
number_told (Some (Number n)) = n
number_told _ = 0

-- the number that a property of an object at this place is, where it is left out; 0 where its row tells of none
abbrev pub default_number : Place → List ℕ → ℕ
default_number place name = number_told (presence_under place name)

abbrev pub number_or_default : Place → List ℕ → Members → ℕ
number_or_default place name ms = unwrap_or (natural name ms) (default_number place name)

-- an alignment in bits
abbrev pub alignment_or_default : Place → List ℕ → Members → ℕ
alignment_or_default place name ms = unwrap_or (alignment name ms) (default_number place name)

abbrev pub flag_told : Option Presence → Bool
flag_told (Some (Flag on)) = on
flag_told _ = false

-- the flag that it is then
abbrev pub default_flag : Place → List ℕ → Bool
default_flag place name = flag_told (presence_under place name)

abbrev pub flag_or_default : Place → List ℕ → Members → Bool
flag_or_default place name ms = unwrap_or (flag name ms) (default_flag place name)

-- ---- features

-- in a trace type, which may have an identifier
abbrev pub of_trace : Bool → Given
of_trace has_uuid = record { uuid = has_uuid; clock = false }

-- in a data stream type, which may have a default clock
abbrev pub of_stream : Option (List ℕ) → Given
of_stream clock = record { uuid = false; clock = is_some clock }

abbrev pub is_on_by : Given → Option Presence → Bool
is_on_by given (Some (Flag on)) = on
is_on_by given (Some WithIdentifier) = given.uuid
is_on_by given (Some WithClock) = given.clock
is_on_by given _ = false

-- a feature of an object at this place is on where it is left out
abbrev pub is_on : Place → List ℕ → Given → Bool
is_on place name given = is_on_by given (presence_under place name)

-- ---- integers

-- a place whose object is an integer, or an enumeration, which has one
abbrev pub IsIntegerPlace : Place → Type 0
IsIntegerPlace places.UnsignedInteger = ⊤
IsIntegerPlace places.SignedInteger = ⊤
IsIntegerPlace places.UnsignedEnumeration = ⊤
IsIntegerPlace places.SignedEnumeration = ⊤
IsIntegerPlace _ = ⊥

-- the alignment of an integer of this size that has none of its own, where its row tells of one
abbrev pub alignment_told : ℕ → Option Presence → Option ℕ
alignment_told size (Some ByteAlignment) = Some (if size % 8 == 0 then 8 else 1)
alignment_told size (Some (Number n)) = Some n
alignment_told size _ = None

-- the base in which an integer is shown that has none of its own
abbrev pub base_told : Option Presence → Option Base
base_told (Some Decimal) = Some Dec
base_told _ = None
