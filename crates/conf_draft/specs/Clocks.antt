-- Clock types (barectf 3.1, "Clock type object"), in byte order of their names.
use Rattle.std.specs.Prelude.{ℕ, pos, List, [], ◌∷◌, unwrap_or, codes}
use Rattle.serde_json.specs.Data.{object, Members, no_members, member}
use Rattle.ctf_types.specs.declared.ClockType.{ClockType}
use Rattle.conf_table.specs.declared.place.Place.TheVariants as places
use Rattle.conf_draft.specs.Defaults.{default_number, number_or_default, flag_or_default}
use Rattle.conf_draft.specs.Lookups.{signed, word, identifier, properties}

unfoldable pub clock_type : List ℕ → Members → ClockType
clock_type name ms = record {
  name = name;
  uuid = identifier (codes "uuid") ms;
  description = word (codes "description") ms;
  frequency = number_or_default places.ClockType (codes "frequency") ms;
  precision = number_or_default places.ClockType (codes "precision") ms;
  offset_seconds = unwrap_or (signed (codes "seconds") (properties (codes "offset") ms)) (pos (default_number places.ClockOffset (codes "seconds")));
  offset_cycles = number_or_default places.ClockOffset (codes "cycles") (properties (codes "offset") ms);
  absolute = flag_or_default places.ClockType (codes "origin-is-unix-epoch") ms;
}

abbrev pub clocks_in : Members → List ClockType
clocks_in no_members = []
clocks_in (member name (object ms) rest) = clock_type name ms ∷ clocks_in rest
clocks_in (member name _ rest) = clocks_in rest

unfoldable pub clock_types : Members → List ClockType
clock_types ms = clocks_in (properties (codes "clock-types") ms)
