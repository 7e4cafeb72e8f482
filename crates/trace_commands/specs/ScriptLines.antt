-- Where the line of a script's fault says that the fault lies.
use Rattle.std.specs.Prelude.{◌≡◌, ◌⊎◌, ℕ, List, [], ◌++◌, Some, codes, slice_get}
use Rattle.std.specs.Fmt.{decimal}
use Rattle.serde_json.specs.Data.{Data}
use Rattle.conf_fault.specs.declared.line_column.LineColumn.{LineColumn}
use Rattle.conf_fault.specs.Explanation.{place_words}
use Rattle.conf_fault.specs.LineColumn.{IsPlaceIn}
use Rattle.conf_fault.specs.Shown.{cut}
use Rattle.conf_tree.specs.Walk.{Reads}
use Rattle.ctf_types.specs.declared.Config.{Config}
use Rattle.thread_stream.specs.declared.stream_fault.StreamFault.TheVariants.{NoSuchStream, BadExtras, BufferTooSmall, SizeField, OutOfMemory}
use Rattle.trace_stack.specs.declared.adding.AddFault.{AddFault}
use Rattle.trace_stack.specs.declared.adding.AddFault.TheVariants.{Name, Stream, WrongStream}
use Rattle.trace_stack.specs.FaultWords.{add_words}
use Rattle.trace_text.specs.declared.script.Script.{Script}
use Rattle.trace_text.specs.declared.script.ScriptStream.{ScriptStream}
use Rattle.trace_text.specs.declared.script_fault.ScriptFault.{ScriptFault}
use Rattle.trace_text.specs.declared.script_fault.ScriptFaultKind.{ScriptFaultKind}
use Rattle.trace_text.specs.declared.script_fault.ScriptFaultKind.TheVariants.{Shape}
use Rattle.trace_text.specs.declared.script_lists.FaultyList.{FaultyList}
use Rattle.trace_text.specs.declared.script_lists.FaultyList.TheVariants.{Neither, Streams, Events}
use Rattle.trace_text.specs.ScriptFaults.{IsFirstFault, LiesIn}
use Rattle.trace_text.specs.ScriptFaultWords.{kind_words}
use Rattle.trace_commands.specs.FaultLines.{fault_line}

-- what is said of an entry, behind its number in its list; what lies in neither list has no number
abbrev pub of_entry : FaultyList → ℕ → List ℕ → List ℕ
of_entry Neither number said = said
of_entry Streams number said = codes "streams/" ++ (decimal number ++ (codes ": " ++ said))
of_entry Events number said = codes "events/" ++ (decimal number ++ (codes ": " ++ said))

-- the line of the script's file speaks of the stream of this number, names it and says these words of it
pub record IsStreamLine (file : List ℕ) (s : Script) (number : ℕ) (words : List ℕ) (line : List ℕ) : Type 0 where
  pub stream : ScriptStream
  pub there : slice_get s.streams number ≡ Some stream
  pub said : line ≡ fault_line file (of_entry Streams number (cut stream.name ++ codes ": " ++ words))

-- the option by which a packet has room, where it has none
abbrev pub size_hint : AddFault → List ℕ
size_hint (Name fault) = []
size_hint (Stream NoSuchStream) = []
size_hint (Stream (BadExtras fault)) = []
size_hint (Stream BufferTooSmall) = codes " (--packet makes packets larger)"
size_hint (Stream SizeField) = []
size_hint (Stream OutOfMemory) = []
size_hint WrongStream = []

-- why a stream is not begun, in words
abbrev pub begin_words : AddFault → List ℕ
begin_words fault = add_words fault ++ size_hint fault

-- ---- a text that is no script

-- the line and the column of a byte of the text, or of its end
abbrev pub IsPosition : List ℕ → List ℕ → Type 0
IsPosition text words = (place : LineColumn) × IsPlaceIn text place × (words ≡ place_words place)

-- what is wrong, behind a line and a column of the text
abbrev pub SaysPosition : List ℕ → ScriptFaultKind → List ℕ → Type 0
SaysPosition text kind said = (position : List ℕ) × IsPosition text position × (said ≡ position ++ kind_words kind)

-- what is wrong, between what stands there and the names that there are, or else the property at which an object is of another form
abbrev pub TellsKind : ScriptFaultKind → List ℕ → Type 0
TellsKind kind words = (kind ≡ Shape) ⊎ ((front behind : List ℕ) × (words ≡ front ++ codes ": " ++ kind_words kind ++ behind))

-- said of the entry in which the fault lies
abbrev pub SaysEntry : Config → Data → ScriptFault → List ℕ → Type 0
SaysEntry c d fault said = (list : FaultyList) × (words : List ℕ) × LiesIn c d list fault × TellsKind fault.kind words × (said ≡ of_entry list fault.at words)

-- of a text that is no JSON, and of a value
abbrev pub SaysWhere : Config → List ℕ → ScriptFault → List ℕ → Type 0
SaysWhere c text fault said = (((d : Data) → ¬ Reads text d) × SaysPosition text fault.kind said) ⊎ ((d : Data) × Reads text d × SaysEntry c d fault said)

abbrev pub IsScriptLine : List ℕ → Config → List ℕ → ScriptFault → List ℕ → Type 0
IsScriptLine file c text fault line = (said : List ℕ) × SaysWhere c text fault said × (line ≡ fault_line file said)

-- the text has this first fault as a script of the configuration, and the line says where
pub record IsBadScript (file : List ℕ) (c : Config) (text line : List ℕ) : Type 0 where
  pub fault : ScriptFault
  pub first : IsFirstFault c text fault
  pub lies : IsScriptLine file c text fault line
