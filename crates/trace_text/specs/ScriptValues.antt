-- The values of a script as the values of fields. A whole number is signed or unsigned as its field is; where no integer and no enumeration stands, it is
-- signed only if it is negative. A text is its bytes in UTF-8, and a list the values of its elements. Nothing else is a value: no fraction, flag, null or
-- object, and no number that 64 bits of its field's sign do not hold.
use Rattle.std.specs.Prelude.{◌≡◌, ◌<◌, List, [], ◌∷◌, ◌++◌, Bool, true, false, Option, Some, None, option_map, option_and_then, is_some, ℕ, suc, slice_get}
use Rattle.std.specs.Option.{option_map_or}
use Rattle.serde_json.specs.Data.{Num, unsigned, negative, float, Data, null, boolean, number, string, array, object, Items, no_items, item}
use Rattle.serde_json.specs.Find.{as_i64}
use Rattle.serde_json.specs.View.{view}
use Rattle.serde_json.specs.declared.value.Value.{Value}
use Rattle.ctf_types.specs.declared.MemberType.{MemberType}
use Rattle.ctf_types.specs.declared.MemberType.TheVariants.{Plain, Dyn}
use Rattle.ctf_types.specs.Chain.{Chain, Leaf, Number, Labelled, ByteString}
use Rattle.ctf_types.specs.Datum.{Datum, Unsigned, Signed, Text, Many, items_of}
use Rattle.ctf_types.specs.FieldTypes.{chain_of}

-- ---- what stands where a value is: a field of a type, or none

-- whether the numbers of a field are signed, where it has numbers
abbrev pub leaf_sign : Leaf → Option Bool
leaf_sign (Number t) = Some t.signed
leaf_sign (Labelled t) = Some t.int.signed
leaf_sign ByteString = None

abbrev pub chain_sign : List ℕ → Leaf → Option Bool
chain_sign [] leaf = leaf_sign leaf
chain_sign (n ∷ ns) leaf = None

abbrev pub sign_at : Option Chain → Option Bool
sign_at None = None
sign_at (Some c) = chain_sign c.lengths c.leaf

abbrev pub chain_element : List ℕ → Leaf → Option Chain
chain_element [] leaf = None
chain_element (n ∷ ns) leaf = Some (record { lengths = ns; leaf = leaf })

-- what stands where an element of a list is
abbrev pub element_at : Option Chain → Option Chain
element_at None = None
element_at (Some c) = chain_element c.lengths c.leaf

-- ---- values

-- a whole number where numbers are signed, or unsigned, or where none stands
abbrev pub number_value : Option Bool → Num → Option Datum
number_value (Some true) n = option_map Signed (as_i64 n)
number_value (Some false) (unsigned n) = Some (Unsigned n)
number_value (Some false) (negative z) = None
number_value (Some false) (float x) = None
number_value None (unsigned n) = Some (Unsigned n)
number_value None (negative z) = Some (Signed z)
number_value None (float x) = None

abbrev pub many : List Datum → Datum
many vs = Many (items_of vs)

abbrev mutual
  pub value_of : Option Chain → Data → Option Datum
  value_of t null = None
  value_of t (boolean b) = None
  value_of t (number n) = number_value (sign_at t) n
  value_of t (string s) = Some (Text s)
  value_of t (array ds) = option_map many (elements_of (element_at t) [] ds)
  value_of t (object ms) = None

  -- the values of a list's elements, behind the values before them: each element is a value
  pub elements_of : Option Chain → List Datum → Items → Option (List Datum)
  elements_of t before no_items = Some before
  elements_of t before (item d ds) = option_and_then (λ v. elements_of t (before ++ v ∷ []) ds) (value_of t d)

-- where a dynamic array stands, a list has values of its elements' type
abbrev pub dynamic_value : Chain → Data → Option Datum
dynamic_value c null = None
dynamic_value c (boolean b) = None
dynamic_value c (number n) = number_value None n
dynamic_value c (string s) = Some (Text s)
dynamic_value c (array ds) = option_map many (elements_of (Some c) [] ds)
dynamic_value c (object ms) = None

abbrev pub member_value : MemberType → Data → Option Datum
member_value (Plain t) d = value_of (Some (chain_of t)) d
member_value (Dyn t l) d = dynamic_value (chain_of t) d

-- what stands at a member's place, or behind all members, where no integer does
abbrev pub value_at : Option (List ℕ × MemberType) → Data → Option Datum
value_at None d = value_of None d
value_at (Some m) d = member_value m.1 d

-- the values of a structure's members from the i-th on, in their order, behind the values before them
abbrev pub values_from : List (List ℕ × MemberType) → ℕ → List Datum → Items → Option (List Datum)
values_from ms i before no_items = Some before
values_from ms i before (item d ds) = option_and_then (λ v. values_from ms (suc i) (before ++ v ∷ []) ds) (value_at (slice_get ms i) d)

abbrev pub members_values : List (List ℕ × MemberType) → Items → Option (List Datum)
members_values ms ds = values_from ms 0 [] ds

-- whether each item of a list is a value, and where the first one is that is none
abbrev pub is_value_at : List (List ℕ × MemberType) → List Value → ℕ → Bool
is_value_at ms items i = option_map_or (λ d. is_some (value_at (slice_get ms i) (view d))) (slice_get items i) true

-- the first item of a list that is no value of the member where it stands; none where each is one
abbrev pub IsFirstBad : List (List ℕ × MemberType) → List Value → Option ℕ → Type 0
IsFirstBad ms items None = (i : ℕ) → is_value_at ms items i ≡ true
IsFirstBad ms items (Some n) = (is_value_at ms items n ≡ false) × ((i : ℕ) → i < n → is_value_at ms items i ≡ true)
