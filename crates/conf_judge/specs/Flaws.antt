-- The flaws of a resolved configuration's objects by the table of what they may hold, in the order of a walk: an object before
-- its content, what is missing before what is there, properties in byte order of their names, and lists by index. At one place
-- the kind of a value comes first, then its name, then what it holds (barectf 3.1, "Configuration object" and the pages below
-- it).
use Rattle.std.specs.Prelude.{◌&&◌, ◌||◌, ◌++◌, ℕ, suc, Bool, true, false, not, List, [], ◌∷◌, map, Option, Some, None, is_some, unwrap_or, Result, Ok, Err, codes, ⊤, if◌then◌else◌}
use Rattle.std.specs.Str.{bytes_eq}
use Rattle.serde_json.specs.Data.{Data, null, boolean, number, string, array, object, Items, no_items, item, Members, no_members, member}
use Rattle.serde_json.specs.Find.{get_member}
use Rattle.conf_tree.specs.declared.fault_kind.FaultKind.{FaultKind}
use Rattle.conf_tree.specs.declared.fault_kind.FaultKind.TheVariants.{WrongKind, Missing, OutOfRange, Unknown}
use Rattle.conf_tree.specs.Flaw.{Flaw, key, index, here, within}
use Rattle.conf_tree.specs.Reading.{◌>>=◌, at, needed, optional, text_of}
use Rattle.conf_table.specs.declared.place.Place.{Place}
use Rattle.conf_table.specs.declared.place.Place.TheVariants as places
use Rattle.conf_table.specs.declared.row.Content.{Content}
use Rattle.conf_table.specs.declared.row.Content.TheVariants as contents
use Rattle.conf_table.specs.declared.row.Presence.{Presence}
use Rattle.conf_table.specs.declared.row.Presence.TheVariants as presences
use Rattle.conf_table.specs.Classes.{class_words, class_in, admits_class}
use Rattle.conf_table.specs.Table.{Told, rows_of, content_under, presence_under}
use Rattle.conf_judge.specs.Forms.{itself_of}
use Rattle.conf_judge.specs.Known.{Known, nothing, inside, behind, with_taken}
use Rattle.conf_judge.specs.Names.{key_of, names_beside, with_names}
use Rattle.conf_judge.specs.Places.{is_position, place_of_properties, item_content, is_place, place_at}
use Rattle.conf_judge.specs.Shapes.{shape_of}

-- the flaw of a reading, if it has one
abbrev pub told_by : Result ⊤ Flaw → List Flaw
told_by (Ok x) = []
told_by (Err flaw) = flaw ∷ []

-- ---- the class of a field type

-- a field type of a class that cannot stand here; an identifier of another class is one out of range
unfoldable pub other_class : Place → FaultKind
other_class places.IdentifierFeature = OutOfRange
other_class _ = WrongKind

abbrev pub admitted : Place → Option Place → Result ⊤ Flaw
admitted place None = at (key (codes "class")) (Err (here OutOfRange))
admitted place (Some class) = if admits_class place class then Ok tt else Err (here (other_class place))

unfoldable pub class_rule : Place → Members → Result ⊤ Flaw
class_rule place ms =
    if is_position place then needed (codes "class") ms >>= (λ d. at (key (codes "class")) (text_of d) >>= (λ w. admitted place (class_in w class_words))) else Ok tt

-- ---- what is missing

abbrev pub is_needed : Presence → Bool
is_needed presences.Needed = true
is_needed _ = false

abbrev pub row_there : Members → Told → Result ⊤ Flaw
row_there ms row = if is_needed row.presence && not (is_some (get_member row.name ms)) then Err (within (key row.name) (here Missing)) else Ok tt

abbrev pub rows_there : Members → List Told → Result ⊤ Flaw
rows_there ms [] = Ok tt
rows_there ms (row ∷ rows) = row_there ms row >>= (λ _. rows_there ms rows)

-- one of the two byte orders of a trace type is there
unfoldable pub orders_there : Place → Members → Result ⊤ Flaw
orders_there places.TraceType ms =
    if is_some (optional (codes "trace-byte-order") ms) || is_some (optional (codes "native-byte-order") ms) then Ok tt else Err (within (key (codes "trace-byte-order")) (here Missing))
orders_there _ ms = Ok tt

unfoldable pub all_there : Place → Members → Result ⊤ Flaw
all_there place ms = rows_there ms (rows_of place) >>= (λ _. orders_there place ms)

-- ---- properties

-- a resolved object inherits from nothing
abbrev pub may_inherit : Place → Bool
may_inherit place = is_some (presence_under place (codes "$inherit"))

unfoldable pub resolved_content : Place → List ℕ → Option Content
resolved_content place k = if bytes_eq k (codes "$inherit") && may_inherit place then None else content_under place k

abbrev pub is_null : Data → Bool
is_null null = true
is_null _ = false

-- a null stands for no value where one may be left out
abbrev pub left_out : Option Presence → Data → Bool
left_out None d = false
left_out (Some presence) d = if is_needed presence then false else is_null d

unfoldable pub is_left_out : Place → List ℕ → Data → Bool
is_left_out place k d = left_out (presence_under place k) d

-- the flaws of a property's value, seen from the value, with those of what it holds; None is an unknown property, which may be
-- anything
abbrev pub property_flaws : Known → Place → List ℕ → Option Content → Data → List Flaw → List Flaw
property_flaws k place name None d held = here Unknown ∷ []
property_flaws k place name (Some content) d held =
    if is_left_out place name d then [] else told_by (itself_of k content d) ++ (told_by (key_of k place name d) ++ held)

-- the flaws of an object at a place, with those of its properties
abbrev pub object_flaws : Place → Members → List Flaw → List Flaw
object_flaws place ms held =
    told_by (class_rule place ms) ++ (told_by (all_there (place_of_properties place ms) ms) ++ (held ++ told_by (shape_of place ms)))

abbrev mutual
  -- the flaws of what a value holds
  pub inner_flaws : Known → Content → Data → List Flaw
  inner_flaws k content null = []
  inner_flaws k content (boolean b) = []
  inner_flaws k content (number n) = []
  inner_flaws k content (string s) = []
  inner_flaws k content (array ds) = if is_place content then item_flaws k (place_at content) (names_beside (place_at content)) 0 ds else []
  inner_flaws k content (object ms) =
      if is_place content then object_flaws (place_at content) ms (member_flaws (inside (place_of_properties (place_at content) ms) ms k) (place_of_properties (place_at content) ms) ms) else []

  -- the items from place i on, where the members before them have taken these names
  pub item_flaws : Known → Place → Members → ℕ → Items → List Flaw
  item_flaws k place taken i no_items = []
  item_flaws k place taken i (item d ds) =
      map (within (index i)) (told_by (itself_of (with_taken taken k) (item_content place) d) ++ inner_flaws (with_taken taken k) (item_content place) d)
      ++ item_flaws k place (with_names d taken) (suc i) ds

  pub member_flaws : Known → Place → Members → List Flaw
  member_flaws k place no_members = []
  member_flaws k place (member name d ms) =
      map (within (key name)) (property_flaws k place name (resolved_content place name) d (inner_flaws k (unwrap_or (resolved_content place name) contents.Anything) d))
      ++ member_flaws (behind place d k) place ms

-- the flaws of a value and all that it holds
abbrev pub content_flaws : Known → Content → Data → List Flaw
content_flaws k content d = told_by (itself_of k content d) ++ inner_flaws k content d

-- the flaws of a whole resolved configuration
abbrev pub configuration_flaws : Data → List Flaw
configuration_flaws d = content_flaws nothing (contents.At places.Root) d
