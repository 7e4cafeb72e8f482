-- How a value is not what its place asks for, and the flaw of the value itself: it is of another kind, it is no whole number,
-- or it is outside what the place allows. Each case is one way in which it fails.
use Rattle.std.specs.Prelude.{◌≡◌, ◌≢◌, ◌⊎◌, ◌<◌, ℕ, ℤ, ◌<ℤ◌, Float, List, length, Contains, Some, None, false}
use Rattle.serde_json.specs.Data.{Data, Num, float}
use Rattle.serde_json.specs.Find.{as_object, as_array, as_str, as_bool, as_number, as_integer}
use Rattle.uuid.specs.Text.{parsed}
use Rattle.ctf_types.specs.Names.{is_identifier, unused_keywords, used_keywords}
use Rattle.ctf_types.specs.declared.limits.TheConstants.{MAX_NAME_BYTES}
use Rattle.conf_tree.specs.declared.fault_kind.FaultKind.TheVariants.{WrongKind, NotWhole, OutOfRange, BadName, ReservedName}
use Rattle.conf_tree.specs.Flaw.{Flaw, here}

-- ---- values of another kind

-- no object
pub data IsNoObject (d : Data) : Flaw → Type 0 where
  no_object : as_object d ≡ None → IsNoObject d (here WrongKind)

-- no list
pub data IsNoList (d : Data) : Flaw → Type 0 where
  no_list : as_array d ≡ None → IsNoList d (here WrongKind)

-- no text
pub data IsNoText (d : Data) : Flaw → Type 0 where
  no_text : as_str d ≡ None → IsNoText d (here WrongKind)

-- neither true nor false
pub data IsNoFlag (d : Data) : Flaw → Type 0 where
  no_flag : as_bool d ≡ None → IsNoFlag d (here WrongKind)

-- ---- numbers

-- no whole number from low to high
pub data IsNoWhole (low high : ℤ) (d : Data) : Flaw → Type 0 where
  no_number : as_number d ≡ None → IsNoWhole low high d (here WrongKind)
  a_fraction : (x : Float) → as_number d ≡ Some (float x) → IsNoWhole low high d (here NotWhole)
  too_small : (m : Num) (z : ℤ) → as_number d ≡ Some m → as_integer m ≡ Some z → z <ℤ low → IsNoWhole low high d (here OutOfRange)
  too_large : (m : Num) (z : ℤ) → as_number d ≡ Some m → as_integer m ≡ Some z → high <ℤ z → IsNoWhole low high d (here OutOfRange)

-- ---- texts

-- a control character, and neither newline nor tab
abbrev pub IsControl : ℕ → Type 0
IsControl c = (c < 32) × (c ≢ 10) × (c ≢ 9)

-- no text that people read
pub data IsNoConfigText (d : Data) : Flaw → Type 0 where
  no_text : as_str d ≡ None → IsNoConfigText d (here WrongKind)
  has_control : (s : List ℕ) (c : ℕ) → as_str d ≡ Some s → Contains s c → IsControl c → IsNoConfigText d (here OutOfRange)

-- no identifier of 16 bytes
pub data IsNoUuid (d : Data) : Flaw → Type 0 where
  no_text : as_str d ≡ None → IsNoUuid d (here WrongKind)
  no_uuid : (s : List ℕ) → as_str d ≡ Some s → parsed s ≡ None → IsNoUuid d (here OutOfRange)

-- none of these words
pub data IsNoWordOf (words : List (List ℕ)) (d : Data) : Flaw → Type 0 where
  no_text : as_str d ≡ None → IsNoWordOf words d (here WrongKind)
  another_word : (s : List ℕ) → as_str d ≡ Some s → ¬ Contains words s → IsNoWordOf words d (here OutOfRange)

-- ---- names

-- no identifier, or one of more than 255 bytes
pub data IsNoName (name : List ℕ) : Flaw → Type 0 where
  no_identifier : is_identifier name ≡ false → IsNoName name (here BadName)
  too_long : MAX_NAME_BYTES < length name → IsNoName name (here BadName)

-- a reserved word
abbrev pub IsReserved : List ℕ → Type 0
IsReserved name = Contains unused_keywords name ⊎ Contains used_keywords name

-- no name, or a reserved word
pub data IsNoPlainName (name : List ℕ) : Flaw → Type 0 where
  no_name : (flaw : Flaw) → IsNoName name flaw → IsNoPlainName name flaw
  a_reserved_word : IsReserved name → IsNoPlainName name (here ReservedName)
