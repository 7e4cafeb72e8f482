-- How a value by itself is not what its row asks for, and the flaw that tells of it: it is of another kind, or it is outside of what
-- is allowed (barectf 3.1, "Configuration object" and the pages below it). What it holds has flaws of its own.
use Rattle.std.specs.Prelude.{◌≡◌, ◌≢◌, ◌^◌, ℕ, ℤ, pos, negsuc, ◌<ℤ◌, Bool, true, false, List, map, Contains, Some, None, IsSome, codes}
use Rattle.serde_json.specs.Data.{Data, Num, Items, no_items, item, Members, no_members}
use Rattle.serde_json.specs.Events.{items_len, members_len}
use Rattle.serde_json.specs.Find.{get_member, as_object, as_array, as_str, as_bool, as_number, as_integer}
use Rattle.ctf_types.specs.AllowedConfig.{lowest, highest}
use Rattle.ctf_types.specs.Shown.{length_name}
use Rattle.conf_tree.specs.declared.fault_kind.FaultKind.TheVariants.{WrongKind, OutOfRange, NameClash, NoSuchAlias}
use Rattle.conf_tree.specs.Flaw.{Flaw, index, here, within}
use Rattle.conf_table.specs.declared.place.Place.{Place}
use Rattle.conf_table.specs.declared.place.Place.TheVariants as places
use Rattle.conf_table.specs.declared.row.Content.{Content}
use Rattle.conf_table.specs.declared.row.Content.TheVariants as contents
use Rattle.conf_table.specs.declared.row.Entries.{Entries}
use Rattle.conf_table.specs.declared.row.Keys.{Keys}
use Rattle.conf_table.specs.declared.row.Keys.TheVariants as keys
use Rattle.conf_table.specs.Classes.{class_words}
use Rattle.conf_table.specs.Table.{entries_of}
use Rattle.conf_table.specs.Words.{words_of}
use Rattle.conf_values.specs.LeafFlaws.{IsNoObject, IsNoList, IsNoText, IsNoFlag, IsNoWhole, IsNoConfigText, IsNoUuid, IsNoWordOf, IsControl, IsNoName, IsNoPlainName}
use Rattle.conf_laws.specs.Around.{Around, levels_around, IsBehindDefault, HasBits, IsDynamic, IsTaken}

-- ---- numbers

abbrev pub IsPowerOfTwo : ℤ → Type 0
IsPowerOfTwo z = (k : ℕ) × (z ≡ pos (2 ^ k))

-- no power of two of 64 bits
pub data IsNoPowerOfTwo (d : Data) : Flaw → Type 0 where
  no_number : {flaw : Flaw} → IsNoWhole (pos 1) (pos 18446744073709551615) d flaw → IsNoPowerOfTwo d flaw
  no_power : (m : Num) (z : ℤ) → as_number d ≡ Some m → as_integer m ≡ Some z → ¬ IsPowerOfTwo z → IsNoPowerOfTwo d (here OutOfRange)

-- no number of a log level, nor the name of an alias of one
pub data IsNoLevel (levels : Members) (high : ℤ) (d : Data) : Flaw → Type 0 where
  no_level : {flaw : Flaw} → as_str d ≡ None → IsNoWhole (pos 0) high d flaw → IsNoLevel levels high d flaw
  no_alias : (name : List ℕ) → as_str d ≡ Some name → get_member name levels ≡ None → IsNoLevel levels high d (here NoSuchAlias)
  alias_is_no_level : {flaw : Flaw} (name : List ℕ) (a : Data) → as_str d ≡ Some name → get_member name levels ≡ Some a → IsNoWhole (pos 0) high a flaw → IsNoLevel levels high d flaw

-- neither a whole number nor a text that people read
pub data IsNoWholeOrText (low high : ℤ) (d : Data) : Flaw → Type 0 where
  no_number : {flaw : Flaw} → as_str d ≡ None → IsNoWhole low high d flaw → IsNoWholeOrText low high d flaw
  has_control : {flaw : Flaw} → IsSome (as_str d) → IsNoConfigText d flaw → IsNoWholeOrText low high d flaw

-- neither true nor false, or true a second time
pub data IsNoDefault (around : Around) (d : Data) : Flaw → Type 0 where
  no_flag : {flaw : Flaw} → IsNoFlag d flaw → IsNoDefault around d flaw
  a_second : as_bool d ≡ Some true → IsBehindDefault around → IsNoDefault around d (here OutOfRange)

-- ---- ranges

-- the value is this whole number
abbrev pub IsWhole : Data → ℤ → Type 0
IsWhole d z = (m : Num) × (as_number d ≡ Some m) × (as_integer m ≡ Some z)

-- no whole number of 64 bits, be it with a sign or without
abbrev pub IsNoEnd : Data → Flaw → Type 0
IsNoEnd d flaw = IsNoWhole (negsuc 9223372036854775807) (pos 18446744073709551615) d flaw

-- the list is these two
abbrev pub IsPair : Data → Data → Data → Type 0
IsPair d a b = as_array d ≡ Some (item a (item b no_items))

-- the value is the range from low to high, with both ends in it: a number, or a list of two
pub data IsRange (d : Data) : ℤ → ℤ → Type 0 where
  one_number : (z : ℤ) → IsWhole d z → IsRange d z z
  two_numbers : (a b : Data) (low high : ℤ) → IsPair d a b → IsWhole a low → IsWhole b high → IsRange d low high

-- no range, an empty one, or one with numbers that the enumeration's integer has not
pub data IsNoRange (around : Around) (d : Data) : Flaw → Type 0 where
  wrong_number : {flaw : Flaw} → as_array d ≡ None → IsNoEnd d flaw → IsNoRange around d flaw
  no_pair : (ds : Items) → as_array d ≡ Some ds → items_len ds ≢ 2 → IsNoRange around d (here WrongKind)
  wrong_low : (a b : Data) (flaw : Flaw) → IsPair d a b → IsNoEnd a flaw → IsNoRange around d (within (index 0) flaw)
  wrong_high : (a b : Data) (flaw : Flaw) → IsPair d a b → IsNoEnd b flaw → IsNoRange around d (within (index 1) flaw)
  low_above_high : (low high : ℤ) → IsRange d low high → high <ℤ low → IsNoRange around d (here OutOfRange)
  below_the_integer : (low high : ℤ) (signed : Bool) (n : ℕ) → IsRange d low high → HasBits around signed n → low <ℤ lowest signed n → IsNoRange around d (here OutOfRange)
  above_the_integer : (low high : ℤ) (signed : Bool) (n : ℕ) → IsRange d low high → HasBits around signed n → highest signed n <ℤ high → IsNoRange around d (here OutOfRange)

-- ---- values that hold others

-- no list of one item or more
pub data IsNoSomeList (d : Data) : Flaw → Type 0 where
  no_list : {flaw : Flaw} → IsNoList d flaw → IsNoSomeList d flaw
  has_none : as_array d ≡ Some no_items → IsNoSomeList d (here OutOfRange)

-- no object of one member or more
pub data IsNoSomeObject (d : Data) : Flaw → Type 0 where
  no_object : {flaw : Flaw} → IsNoObject d flaw → IsNoSomeObject d flaw
  has_none : as_object d ≡ Some no_members → IsNoSomeObject d (here OutOfRange)

-- no object of one property
pub data IsNoEntry (d : Data) : Flaw → Type 0 where
  no_object : {flaw : Flaw} → IsNoObject d flaw → IsNoEntry d flaw
  not_one_property : (ms : Members) → as_object d ≡ Some ms → members_len ms ≢ 1 → IsNoEntry d (here WrongKind)

-- neither on nor off, nor a type of its own
abbrev pub IsNoFeature : Data → Flaw → Type 0
IsNoFeature d flaw = (as_bool d ≡ None) × IsNoObject d flaw

-- no feature, or off: a packet cannot do without its sizes
pub data IsNoSizeFeature (d : Data) : Flaw → Type 0 where
  no_feature : {flaw : Flaw} → IsNoFeature d flaw → IsNoSizeFeature d flaw
  is_off : as_bool d ≡ Some false → IsNoSizeFeature d (here OutOfRange)

-- what stands at a place is of another kind
abbrev pub IsNoneAt : Around → Place → Data → Flaw → Type 0
IsNoneAt around places.Members d flaw = IsNoList d flaw
IsNoneAt around places.ExtraMembers d flaw = IsNoList d flaw
IsNoneAt around places.Ranges d flaw = IsNoSomeList d flaw
IsNoneAt around places.Range d flaw = IsNoRange around d flaw
IsNoneAt around places.Entry d flaw = IsNoEntry d flaw
IsNoneAt around places.Mappings d flaw = IsNoSomeObject d flaw
IsNoneAt around places.Feature d flaw = IsNoFeature d flaw
IsNoneAt around places.MagicFeature d flaw = IsNoFeature d flaw
IsNoneAt around places.IdentifierFeature d flaw = IsNoFeature d flaw
IsNoneAt around places.SizeFeature d flaw = IsNoSizeFeature d flaw
IsNoneAt around places.Scalar d flaw = ⊥
IsNoneAt around places.Ignored d flaw = ⊥
IsNoneAt around _ d flaw = IsNoObject d flaw

-- the words of the classes of field types
abbrev pub words_of_classes : List (List ℕ)
words_of_classes = map (λ c. c.word) class_words

-- the value is not what a row says that it is
abbrev pub IsNoValueOf : Around → Content → Data → Flaw → Type 0
IsNoValueOf around (contents.Whole low high) d flaw = IsNoWhole low high d flaw
IsNoValueOf around (contents.PowerOfTwo high) d flaw = IsNoPowerOfTwo d flaw
IsNoValueOf around contents.Flag d flaw = IsNoFlag d flaw
IsNoValueOf around contents.OneFlag d flaw = IsNoDefault around d flaw
IsNoValueOf around (contents.Text most) d flaw = IsNoConfigText d flaw
IsNoValueOf around contents.ClockName d flaw = IsNoText d flaw
IsNoValueOf around contents.Identifier d flaw = IsNoUuid d flaw
IsNoValueOf around contents.IdentifierOrAuto d flaw = (as_str d ≢ Some (codes "auto")) × IsNoUuid d flaw
IsNoValueOf around (contents.Word words) d flaw = IsNoWordOf (words_of words) d flaw
IsNoValueOf around contents.Class d flaw = IsNoWordOf words_of_classes d flaw
IsNoValueOf around (contents.WholeOrText low high most) d flaw = IsNoWholeOrText low high d flaw
IsNoValueOf around (contents.Level high) d flaw = IsNoLevel (levels_around around) high d flaw
IsNoValueOf around (contents.At place) d flaw = IsNoneAt around place d flaw
IsNoValueOf around contents.Anything d flaw = ⊥

-- ---- the names of entries

-- a name that a member cannot have, or that is taken: by itself, or as that of the length of a dynamic array
pub data IsNoMemberName (around : Around) (name : List ℕ) (d : Data) : Flaw → Type 0 where
  no_name : {flaw : Flaw} → IsNoPlainName name flaw → IsNoMemberName around name d flaw
  name_clash : IsTaken around name → IsNoMemberName around name d (here NameClash)
  length_clash : IsDynamic d → IsTaken around (length_name name) → IsNoMemberName around name d (here NameClash)

-- a label with a control character
pub data IsNoLabel (name : List ℕ) : Flaw → Type 0 where
  has_control : (c : ℕ) → Contains name c → IsControl c → IsNoLabel name (here OutOfRange)

-- a name that the entry of a map cannot have; only the one property of an entry of a members list is a member's name
abbrev pub IsNoKey : Around → Place → Keys → List ℕ → Data → Flaw → Type 0
IsNoKey around place keys.Name name d flaw = IsNoName name flaw
IsNoKey around places.Entry keys.PlainName name d flaw = IsNoMemberName around name d flaw
IsNoKey around place keys.PlainName name d flaw = IsNoPlainName name flaw
IsNoKey around place keys.Label name d flaw = IsNoLabel name flaw
IsNoKey around place keys.Index name d flaw = ⊥

-- a member of an object with the properties of this place is under a name that it cannot have
abbrev pub IsNoNameAt : Around → Place → List ℕ → Data → Flaw → Type 0
IsNoNameAt around place name d flaw = (entries : Entries) × (entries_of place ≡ Some entries) × IsNoKey around place entries.keys name d flaw
