-- The environment of a trace: names with whole numbers or texts, in byte order of the names (barectf 3.1, "Trace object").
use Rattle.std.specs.Prelude.{pos, List, [], ◌∷◌, option_and_then, unwrap_or, codes}
use Rattle.serde_json.specs.Data.{Data, string, Members, no_members, member}
use Rattle.serde_json.specs.Find.{as_number, as_i64}
use Rattle.ctf_types.specs.declared.EnvironmentEntry.{EnvironmentEntry}
use Rattle.ctf_types.specs.declared.EnvironmentValue.{EnvironmentValue}
use Rattle.ctf_types.specs.declared.EnvironmentValue.TheVariants.{Whole, Text}
use Rattle.conf_draft.specs.Lookups.{properties}

abbrev pub entry_value : Data → EnvironmentValue
entry_value (string s) = Text s
entry_value d = Whole (unwrap_or (option_and_then as_i64 (as_number d)) (pos 0))

abbrev pub entries_in : Members → List EnvironmentEntry
entries_in no_members = []
entries_in (member name d ms) = record { name = name; value = entry_value d } ∷ entries_in ms

unfoldable pub environment : Members → List EnvironmentEntry
environment ms = entries_in (properties (codes "environment") ms)
