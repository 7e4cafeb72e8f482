-- What is wrong with a script, in words.
use Rattle.std.specs.Prelude.{ℕ, List, codes}
use Rattle.trace_text.specs.declared.script_fault.ScriptFaultKind.{ScriptFaultKind}
use Rattle.trace_text.specs.declared.script_fault.ScriptFaultKind.TheVariants as kinds

abbrev pub kind_words : ScriptFaultKind → List ℕ
kind_words kinds.NotJson = codes "not JSON: expected one JSON value in UTF-8"
kind_words kinds.Shape = codes "not of a script's form: expected an object of its properties, each of its kind, and no others"
kind_words kinds.NoSuchStream = codes "no stream or data stream type has this name"
kind_words kinds.NoSuchEvent = codes "no such event record type: expected the name of one of the stream's type"
kind_words kinds.BadValue = codes "bad value: expected a whole number of its field's sign in 64 bits, a text or a list"
kind_words kinds.OutOfMemory = codes "out of memory"
