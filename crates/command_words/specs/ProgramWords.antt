-- The words that the program knows, as its parser of command lines sees them: a command of the program has a name, words that it needs in
-- their order (CONFIG, SCRIPT, DIR), and options with or without a value.
use Rattle.std.specs.Prelude.{List, [], ◌∷◌, Some, true, codes}
use Rattle.clap.specs.Words.{App, Rule, Shape, Text, new_app, new_rule, with_subcommand}
use Rattle.clap.specs.Simple.{new_shape, with_rule}
use Rattle.clap.specs.declared.builder.action.ArgAction.TheVariants.{SetTrue}
use Rattle.command_words.specs.declared.known_word.Form.{Form}
use Rattle.command_words.specs.declared.known_word.Form.TheVariants.{Defaulted, Flag, Needed, Valued}
use Rattle.command_words.specs.declared.known_word.KnownWord.{KnownWord}
use Rattle.command_words.specs.declared.program_words.KnownCommand.{KnownCommand}

-- a word that is needed at its place
abbrev pub needed : Text → Rule
needed id = record (new_rule id) { value_names = 1; required = true }

-- an option with a value, named as its long form is
abbrev pub valued : Text → Rule
valued id = record (new_rule id) { long = Some id; value_names = 1 }

-- an option without a value
abbrev pub flag : Text → Rule
flag id = record (new_rule id) { long = Some id; action = Some SetTrue }

abbrev pub config : Rule
config = needed (codes "config")

abbrev pub script : Rule
script = needed (codes "script")

abbrev pub folder : Rule
folder = needed (codes "folder")

abbrev pub packet : Rule
packet = record (valued (codes "packet")) { defaults = codes "4096" ∷ [] }

abbrev pub buffers : Rule
buffers = record (valued (codes "buffers")) { defaults = codes "4" ∷ [] }

abbrev pub uuid : Rule
uuid = valued (codes "uuid")

abbrev pub quiet : Rule
quiet = flag (codes "quiet")

abbrev pub workers : Rule
workers = flag (codes "workers")

abbrev pub quota : Rule
quota = valued (codes "quota")

abbrev pub resume : Rule
resume = flag (codes "resume")

abbrev pub shape_with : Text → List Rule → Shape
shape_with name rules = record (new_shape name) { rules = rules }

abbrev pub check : Shape
check = shape_with (codes "check") (config ∷ [])

abbrev pub metadata : Shape
metadata = shape_with (codes "metadata") (config ∷ uuid ∷ [])

abbrev pub trace : Shape
trace = shape_with (codes "trace") (config ∷ script ∷ folder ∷ packet ∷ buffers ∷ uuid ∷ quiet ∷ workers ∷ quota ∷ resume ∷ [])

abbrev pub read : Shape
read = shape_with (codes "read") (folder ∷ quiet ∷ [])

-- the program's own settings: the first word is a word of the line, a command is needed, and `--version` is there
abbrev pub own : App
own = record {
  top = record (new_shape (codes "ctftrace")) { no_binary_name = true; subcommand_required = true; has_version = true };
  subs = [];
}

abbrev pub program : App
program = with_subcommand (with_subcommand (with_subcommand (with_subcommand own check) metadata) trace) read

-- ---- tables of words and of commands

-- what a word of a table asks for
abbrev pub rule_of_form : Form → Text → Rule
rule_of_form (Needed name) id = needed id
rule_of_form (Valued name) id = valued id
rule_of_form (Defaulted name value) id = record (valued id) { defaults = value.now ∷ [] }
rule_of_form Flag id = flag id

abbrev pub rule_of_word : KnownWord → Rule
rule_of_word w = rule_of_form w.form w.id.now

abbrev pub with_words : App → List KnownWord → App
with_words a [] = a
with_words a (w ∷ ws) = with_words (with_rule a (rule_of_word w)) ws

abbrev pub shape_of_command : KnownCommand → Shape
shape_of_command c = (with_words (new_app c.name.now) c.words.now).top

abbrev pub with_commands : App → List KnownCommand → App
with_commands a [] = a
with_commands a (c ∷ cs) = with_commands (with_subcommand a (shape_of_command c)) cs
