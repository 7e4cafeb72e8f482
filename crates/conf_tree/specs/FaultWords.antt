-- A fault of a configuration in words: the steps to its place joined by `/`, and then what is wrong.
use Rattle.std.specs.Prelude.{ℕ, List, [], ◌∷◌, ◌++◌, codes, decimal}
use Rattle.std.specs.List.{flat_map}
use Rattle.conf_tree.specs.declared.fault_kind.FaultKind.{FaultKind}
use Rattle.conf_tree.specs.declared.fault_kind.FaultKind.TheVariants.{NotJson, TooDeep, WrongKind, NotWhole, Missing, Unknown, NoSuchAlias, InheritCycle, OutOfRange, BadName, ReservedName, NameClash, FieldTooSmall, ZeroSizeRecord, NoClock, NoUuid, Limit, TwoOrders, TimestampSize, OutOfMemory}
use Rattle.ctf_types.specs.declared.limits.TheConstants.{MAX_NAME_BYTES}
use Rattle.conf_tree.specs.declared.limits.TheConstants.{MAX_LEVELS}
use Rattle.conf_tree.specs.Flaw.{Flaw, Place, text_of_place}

abbrev pub kind_words : FaultKind → List ℕ
kind_words NotJson = codes "not JSON: expected one JSON value in UTF-8"
kind_words TooDeep = codes "nested too deep: expected at most " ++ decimal MAX_LEVELS ++ codes " levels of objects and lists"
kind_words WrongKind = codes "wrong kind of value: expected the kind that this place asks for"
kind_words NotWhole = codes "not a whole number: expected one of 64 bits, without fraction or exponent"
kind_words Missing = codes "property is missing: expected a value here"
kind_words Unknown = codes "unknown property: expected only the ones that this object can have"
kind_words NoSuchAlias = codes "no such alias: expected the name of an alias of this configuration"
kind_words InheritCycle = codes "alias inherits from itself: expected a chain of aliases that ends"
kind_words OutOfRange = codes "value out of range: expected one that this place allows"
kind_words BadName = codes "bad name: expected a letter or `_`, then letters, digits or `_`, " ++ decimal MAX_NAME_BYTES ++ codes " bytes at most"
kind_words ReservedName = codes "reserved word: expected a name that the metadata language does not use itself"
kind_words NameClash = codes "name is taken: expected one that nothing else in this structure has"
kind_words FieldTooSmall = codes "field is too small: expected room for the largest number that it must hold"
kind_words ZeroSizeRecord = codes "event record without bits: expected an integer, an enumeration or a string in it"
kind_words NoClock = codes "no clock: expected a default clock type that the trace type has"
kind_words NoUuid = codes "no UUID: expected one for this trace"
kind_words Limit = codes "past a limit of size: expected fewer or smaller parts"
kind_words TwoOrders = codes "two byte orders: expected only one of `trace-byte-order` and `native-byte-order`"
kind_words TimestampSize = codes "timestamp field of a wrong size: expected 64 bits, or in event records 8 to 64 where the packet has its beginning timestamp"
kind_words OutOfMemory = codes "out of memory"

abbrev pub further_place : Place → List ℕ
further_place place = codes "/" ++ text_of_place place

-- nothing where the outermost value itself is meant
abbrev pub way_words : List Place → List ℕ
way_words [] = []
way_words (place ∷ places) = text_of_place place ++ flat_map further_place places ++ codes ": "

abbrev pub flaw_words : Flaw → List ℕ
flaw_words flaw = way_words flaw.path ++ kind_words flaw.kind
