-- What the rest of a configuration says that a value is judged by (barectf 3.1, "Trace type object", "Data stream type object",
-- "Enumeration field type objects", "Structure field type member object").
use Rattle.std.specs.Prelude.{◌||◌, Bool, true, false, Option, Some, option_map, unwrap_or, codes}
use Rattle.serde_json.specs.Data.{Data, boolean, object, Members, no_members}
use Rattle.serde_json.specs.View.{members_view}
use Rattle.conf_tree.specs.Reading.{optional}
use Rattle.conf_table.specs.declared.place.Place.{Place}
use Rattle.conf_table.specs.declared.place.Place.TheVariants as places
use Rattle.conf_judge.specs.declared.around.Around.{Around}
use Rattle.conf_judge.specs.declared.numbers.Span.{Span}
use Rattle.conf_judge.specs.Numbers.{all_numbers, numbers_in}

pub record Known : Type 0 where
  -- the log level aliases of the trace type
  pub levels : Members
  -- a data stream type before this one is the default
  pub has_default : Bool
  -- the numbers that the enumeration's integer can hold
  pub numbers : Span
  -- the names that the members before this one have
  pub taken : Members

abbrev pub known_of : Around → Known
known_of a = record { levels = unwrap_or (option_map (λ m. members_view m.now.entries) a.levels) no_members; has_default = a.has_default; numbers = a.numbers; taken = members_view a.taken.now.entries }

-- nothing is known around a whole configuration
abbrev pub nothing : Known
nothing = record { levels = no_members; has_default = false; numbers = all_numbers; taken = no_members }

-- the properties of an object, or none
abbrev pub members_or_none : Option Data → Members
members_or_none (Some (object ms)) = ms
members_or_none _ = no_members

abbrev pub is_true : Option Data → Bool
is_true (Some (boolean b)) = b
is_true _ = false

-- a data stream type that says that it is the default
abbrev pub says_default : Data → Bool
says_default (object ms) = is_true (optional (codes "$is-default") ms)
says_default _ = false

-- what is known around the properties of an object at this place
unfoldable pub inside : Place → Members → Known → Known
inside places.TraceType ms k = record { levels = members_or_none (optional (codes "$log-level-aliases") ms); has_default = k.has_default; numbers = k.numbers; taken = k.taken }
inside places.UnsignedEnumeration ms k = record { levels = k.levels; has_default = k.has_default; numbers = numbers_in false ms; taken = k.taken }
inside places.SignedEnumeration ms k = record { levels = k.levels; has_default = k.has_default; numbers = numbers_in true ms; taken = k.taken }
inside _ ms k = k

-- what is known around the entry behind this one of a map
unfoldable pub behind : Place → Data → Known → Known
behind places.StreamTypes d k = record { levels = k.levels; has_default = k.has_default || says_default d; numbers = k.numbers; taken = k.taken }
behind _ d k = k

-- around a member, where these names are taken
abbrev pub with_taken : Members → Known → Known
with_taken taken k = record { levels = k.levels; has_default = k.has_default; numbers = k.numbers; taken = taken }
