-- The explanation of a configuration's fault: where it stands in the text, the way to it, what stands there, and what was expected. Whatever it
-- shows of the configuration, it stays on one line.
use Rattle.std.specs.Prelude.{◌≡◌, ◌<◌, ◌≤◌, ◌⊎◌, List, [], ◌∷◌, ◌++◌, ℕ, IsUtf8, Option, Some, None, MatchOption, if◌then◌else◌, ◌==◌, codes, drop, encode_utf8, length, min, string_bytes, decimal, take}
use Rattle.std.specs.List.{flat_map}
use Rattle.conf_tree.specs.declared.step.Step.{Step}
use Rattle.conf_tree.specs.declared.step.Step.TheVariants.{Key, Index}
use Rattle.conf_tree.specs.declared.fault.ConfFault.{ConfFault}
use Rattle.conf_tree.specs.declared.fault_kind.FaultKind.{FaultKind}
use Rattle.conf_tree.specs.declared.fault_kind.FaultKind.TheVariants.{NotJson, TooDeep, Unknown, InheritCycle, BadName, ReservedName, NameClash, ZeroSizeRecord, TwoOrders, OutOfMemory}
use Rattle.conf_tree.specs.declared.limits.TheConstants.{MAX_LEVELS}
use Rattle.conf_fault.specs.declared.line_column.LineColumn.{LineColumn}
use Rattle.conf_fault.specs.Found.{StandsIn}
use Rattle.conf_fault.specs.LineColumn.{IsPlaceAt}
use Rattle.conf_fault.specs.declared.stop.Reason.{Reason}
use Rattle.conf_fault.specs.Shown.{cut, shown}
use Rattle.conf_fault.specs.Stop.{HasReason, reason_words}
use Rattle.conf_fault.specs.Wanted.{IsToldAndHinted}
use Rattle.conf_fault.specs.Written.{IsWhole, closed_up}
use Rattle.conf_tree.specs.Walk.{Reads}
use Rattle.serde_json.specs.Data.{Data}

-- words of this kind are added
abbrev pub Adds : (List ℕ → Type 0) → List ℕ → List ℕ → Type 0
Adds Is old new = (words : List ℕ) × Is words × (new ≡ old ++ words)

-- ---- where it stands, and the way to it

-- `line 2, column 9: `
abbrev pub place_words : LineColumn → List ℕ
place_words place = codes "line " ++ decimal place.line ++ codes ", column " ++ decimal place.column ++ codes ": "

-- a step: a name, or an index
abbrev pub step_words : Step → List ℕ
step_words (Key name) = cut (string_bytes name)
step_words (Index i) = decimal i

abbrev pub further_step : Step → List ℕ
further_step step = codes "/" ++ step_words step

-- all steps in their order, `/` between them and `: ` behind them
unfoldable pub path_words : List Step → List ℕ
path_words [] = []
path_words (step ∷ steps) = step_words step ++ flat_map further_step steps ++ codes ": "

-- the alias in which it stands, where it stands in one: a word in quotes of the text
abbrev pub IsAliasWords : List ℕ → List ℕ → Type 0
IsAliasWords text words = (words ≡ []) ⊎ ((name : List ℕ) × StandsIn text name × (words ≡ codes "in the alias `" ++ cut name ++ codes "`: "))

-- ---- what stands there

-- what is said of a name that is at fault
unfoldable pub name_words : FaultKind → Option (List ℕ)
name_words Unknown = Some (codes "unknown property")
name_words BadName = Some (codes "bad name")
name_words ReservedName = Some (codes "reserved word")
name_words NameClash = Some (codes "name is taken")
name_words _ = None

-- the bytes of a JSON value, or of a name, that begin at the place, all of them, without the white space between their parts
abbrev pub IsClosedUp : List ℕ → ℕ → List ℕ → Type 0
IsClosedUp text at words = (count : ℕ) × (value : Data) × Reads (take count (drop at text)) value × IsWhole (drop at text) count × (words ≡ closed_up (take count (drop at text)))

-- what begins at the place, cut; where no value begins by itself, that it is one
abbrev pub IsWritten : List ℕ → ℕ → List ℕ → Type 0
IsWritten text at words = (words ≡ codes "a value") ⊎ ((value : List ℕ) × IsClosedUp text at value × (words ≡ cut value))

-- the name of an alias, which begins at the place, and the value that it stands for, which stands elsewhere
abbrev pub IsNamedValue : List ℕ → ℕ → List ℕ → Type 0
IsNamedValue text at words = (other : ℕ) × (name : List ℕ) × (value : List ℕ) × IsWritten text at name × IsWritten text other value × (words ≡ name ++ codes ", which is " ++ value)

-- nothing, a value, or an alias that does not fit
abbrev pub IsValueWords : List ℕ → ℕ → List ℕ → Type 0
IsValueWords text at words = (words ≡ codes "missing") ⊎ (IsWritten text at words ⊎ IsNamedValue text at words)

abbrev pub IsStanding : FaultKind → List ℕ → ℕ → List ℕ → Type 0
IsStanding kind text at words = MatchOption (name_words kind) (IsValueWords text at words) (λ said. words ≡ said)

-- ---- what was expected

-- of the kinds that are the same everywhere and name no limit
unfoldable pub same_words : FaultKind → Option (List ℕ)
same_words InheritCycle = Some (codes "a chain of aliases that ends: this one leads into a circle")
same_words ReservedName = Some (codes "a name that the metadata language does not use itself")
same_words ZeroSizeRecord = Some (codes "an integer, an enumeration or a string in its contexts or its payload")
same_words TwoOrders = Some (codes "only one of `trace-byte-order` and `native-byte-order`")
same_words _ = None

-- of the kinds that are the same everywhere
unfoldable pub fixed_words : FaultKind → Option (List ℕ)
fixed_words TooDeep = Some (codes "at most " ++ (decimal MAX_LEVELS ++ codes " levels of objects and lists with what is inherited"))
fixed_words kind = same_words kind

-- of the other kinds what is told of them, and behind it a hint or none
abbrev pub IsWanted : List ℕ → ConfFault → List ℕ → Type 0
IsWanted text fault words = MatchOption (fixed_words fault.kind) (IsToldAndHinted text fault words) (λ said. words ≡ said)

-- ---- the whole

-- a fault that has a place in the text, at which what is shown begins
pub record IsPlaced (text : List ℕ) (fault : ConfFault) (said : List ℕ) : Type 0 where
  pub at : ℕ
  pub place : LineColumn
  pub alias : List ℕ
  pub standing : List ℕ
  pub wanted : List ℕ
  pub lies : IsPlaceAt text at place
  pub in_alias : IsAliasWords text alias
  pub stands : IsStanding fault.kind text at standing
  pub expects : IsWanted text fault wanted
  pub is : said ≡ place_words place ++ path_words fault.path ++ alias ++ standing ++ codes ": expected " ++ wanted

-- a hint where it looks like YAML
abbrev pub IsYamlHint : List ℕ → Type 0
IsYamlHint hint = (hint ≡ []) ⊎ (hint ≡ codes "; this looks like YAML, of which tools/yaml_to_json makes JSON")

-- a character, or the mark that tells the order of bytes
abbrev pub character_words : ℕ → List ℕ
character_words c = if c == 65279 then codes "a byte order mark" else codes "`" ++ encode_utf8 c ++ codes "`"

-- a character in UTF-8 with which some bytes begin
abbrev pub BeginsWith : List ℕ → ℕ → Type 0
BeginsWith bytes c = (others : List ℕ) × (bytes ≡ encode_utf8 c ++ others)

-- none with which they do: no more than 4 bytes are a character, and no first 1 to 4 of these are UTF-8
abbrev pub BeginsNone : List ℕ → Type 0
BeginsNone bytes = (count : ℕ) → 0 < count → count ≤ min (length bytes) 4 → ¬ IsUtf8 (take count bytes)

-- what stands at the front of some bytes: their end, their first character, or a byte that begins none
abbrev pub IsFoundWords : List ℕ → List ℕ → Type 0
IsFoundWords bytes words = ((bytes ≡ []) × (words ≡ codes "the end of the text"))
    ⊎ (((c : ℕ) × BeginsWith bytes c × (words ≡ character_words c)) ⊎ ((0 < length bytes) × BeginsNone bytes × (words ≡ codes "a byte that is no UTF-8")))

-- a text that is no JSON: a place in it, what stands just there, and what was expected by the reason for which the text goes on no further
pub record IsNotJson (text said : List ℕ) : Type 0 where
  pub at : ℕ
  pub place : LineColumn
  pub found : List ℕ
  pub reason : Reason
  pub hint : List ℕ
  pub lies : IsPlaceAt text at place
  pub stands : IsFoundWords (drop at text) found
  pub stops : HasReason reason text at
  pub looks : IsYamlHint hint
  pub is : said ≡ place_words place ++ codes "not JSON: found " ++ found ++ codes ": expected " ++ reason_words reason ++ hint

-- what is said of a fault of a text, by its kind
unfoldable pub IsSaidOf : FaultKind → List ℕ → ConfFault → List ℕ → Type 0
IsSaidOf NotJson text fault said = IsNotJson text said
IsSaidOf OutOfMemory text fault said = said ≡ codes "out of memory"
IsSaidOf _ text fault said = IsPlaced text fault said

-- the line that explains a fault of a text
abbrev pub IsExplanation : List ℕ → ConfFault → List ℕ → Type 0
IsExplanation text fault line = (said : List ℕ) × IsSaidOf fault.kind text fault said × (line ≡ shown said)
