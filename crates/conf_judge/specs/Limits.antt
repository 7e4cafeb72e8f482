-- The limits of a configuration's size: how many entries its maps and lists have, how long its texts are, how large an alignment
-- is, and how static arrays nest. They are this project's own. The limits that are passed stand in the order of a walk.
use Rattle.std.specs.Prelude.{◌&&◌, ◌++◌, ◌+◌, ◌*◌, ℕ, zero, suc, nat_le, nat_eq, Bool, true, false, List, [], map, length, Option, Some, None, is_some, option_and_then, unwrap_or, Result, Ok, Err, codes, ⊤, if◌then◌else◌}
use Rattle.std.specs.Option.{option_map_or}
use Rattle.std.specs.Str.{bytes_eq}
use Rattle.serde_json.specs.Data.{Data, null, boolean, number, string, array, object, Items, no_items, item, Members, no_members, member}
use Rattle.serde_json.specs.Events.{items_len, members_len}
use Rattle.ctf_types.specs.declared.limits.TheConstants.{MAX_ARRAYS, MAX_CONFIG_RANGES, MAX_ELEMENTS, MAX_LABEL_BYTES}
use Rattle.conf_tree.specs.declared.fault_kind.FaultKind.TheVariants.{Limit}
use Rattle.conf_tree.specs.Flaw.{Flaw, key, index, here, within}
use Rattle.conf_table.specs.declared.place.Place.{Place}
use Rattle.conf_table.specs.declared.place.Place.TheVariants as places
use Rattle.conf_table.specs.declared.row.Content.{Content}
use Rattle.conf_table.specs.declared.row.Content.TheVariants as contents
use Rattle.conf_table.specs.declared.row.Entries.{Entries}
use Rattle.conf_table.specs.declared.row.Keys.{Keys}
use Rattle.conf_table.specs.declared.row.Keys.TheVariants.{Label}
use Rattle.conf_table.specs.Classes.{class_of, is_static_array}
use Rattle.conf_table.specs.Table.{entries_of, content_under}
use Rattle.conf_values.specs.Scalar.{as_natural}
use Rattle.conf_judge.specs.Flaws.{told_by}
use Rattle.conf_judge.specs.Numbers.{natural_in}
use Rattle.conf_judge.specs.Places.{place_of_properties, item_content, is_place, place_at}

-- the limit is passed where this does not hold
abbrev pub within_limit : Bool → Result ⊤ Flaw
within_limit true = Ok tt
within_limit false = Err (here Limit)

-- ---- values that hold no others

-- a text has at most so many bytes
abbrev pub bytes_fit : ℕ → Data → Bool
bytes_fit most (string s) = nat_le (length s) most
bytes_fit most _ = true

-- a number is at most so large
abbrev pub number_fits : ℕ → Option ℕ → Bool
number_fits high None = true
number_fits high (Some n) = nat_le n high

unfoldable pub power_fits : ℕ → Data → Bool
power_fits high d = number_fits high (as_natural d)

-- ---- static arrays: so many in one another, and so many elements in all, an empty one counted as one

abbrev pub times : Option ℕ → Option ℕ → Option ℕ
times (Some n) (Some m) = if nat_le (n * m) MAX_ELEMENTS then Some (n * m) else None
times _ _ = None

abbrev pub at_least_one : Option ℕ → Option ℕ
at_least_one None = Some 1
at_least_one (Some n) = Some (if nat_eq n 0 then 1 else n)

abbrev mutual
  -- the elements of a field type in which at most so many arrays nest; None past the most
  pub elements : ℕ → Data → Option ℕ
  elements levels null = Some 1
  elements levels (boolean b) = Some 1
  elements levels (number n) = Some 1
  elements levels (string s) = Some 1
  elements levels (array ds) = Some 1
  elements zero (object ms) = if option_map_or is_static_array (class_of ms) false then None else Some 1
  elements (suc levels) (object ms) = if option_map_or is_static_array (class_of ms) false then elements_in_array levels (at_least_one (natural_in (codes "length") ms)) ms else Some 1

  pub elements_in_array : ℕ → Option ℕ → Members → Option ℕ
  elements_in_array levels count no_members = count
  elements_in_array levels count (member k d ms) = if bytes_eq k (codes "element-field-type") then times count (elements levels d) else elements_in_array levels count ms

-- the positions of field types of which no array is around
unfoldable pub is_outermost : Place → Bool
is_outermost places.MemberType = true
is_outermost places.DynamicElementType = true
is_outermost places.IdentifierFeature = true
is_outermost _ = false

unfoldable pub arrays_fit : Place → Data → Bool
arrays_fit place d = if is_outermost place then is_some (elements MAX_ARRAYS d) else true

-- ---- entries

abbrev pub count_of : Data → ℕ
count_of (array ds) = items_len ds
count_of (object ms) = members_len ms
count_of _ = 0

abbrev pub at_most : Option Entries → ℕ → Bool
at_most entries n = option_map_or (nat_le n) (option_and_then (λ e. e.most) entries) true

-- the ranges of all labels
abbrev pub ranges_in : Members → ℕ
ranges_in no_members = 0
ranges_in (member k d ms) = count_of d + ranges_in ms

abbrev pub ranges_of : Data → ℕ
ranges_of (object ms) = ranges_in ms
ranges_of _ = 0

unfoldable pub ranges_fit : Place → Data → Bool
ranges_fit places.Mappings d = nat_le (ranges_of d) MAX_CONFIG_RANGES
ranges_fit _ d = true

unfoldable pub place_fits : Place → Data → Bool
place_fits place d = arrays_fit place d && (at_most (entries_of place) (count_of d) && ranges_fit place d)

-- ---- the limits that a value passes

unfoldable pub fits : Content → Data → Bool
fits (contents.Text most) d = bytes_fit most d
fits (contents.WholeOrText low high most) d = bytes_fit most d
fits (contents.PowerOfTwo high) d = power_fits high d
fits (contents.At place) d = place_fits place d
fits _ d = true

abbrev pub is_label : Keys → Bool
is_label Label = true
is_label _ = false

-- a label is a text that people read
unfoldable pub key_fits : Place → List ℕ → Bool
key_fits place k = if option_map_or (λ e. is_label e.keys) (entries_of place) false then nat_le (length k) MAX_LABEL_BYTES else true

abbrev mutual
  -- the limits that are passed by what a value holds
  pub inner_limits : Content → Data → List Flaw
  inner_limits content null = []
  inner_limits content (boolean b) = []
  inner_limits content (number n) = []
  inner_limits content (string s) = []
  inner_limits content (array ds) = if is_place content then item_limits (place_at content) 0 ds else []
  inner_limits content (object ms) = if is_place content then member_limits (place_of_properties (place_at content) ms) ms else []

  pub item_limits : Place → ℕ → Items → List Flaw
  item_limits place i no_items = []
  item_limits place i (item d ds) =
      map (within (index i)) (told_by (within_limit (fits (item_content place) d)) ++ inner_limits (item_content place) d) ++ item_limits place (suc i) ds

  pub member_limits : Place → Members → List Flaw
  member_limits place no_members = []
  member_limits place (member k d ms) =
      map (within (key k)) (told_by (within_limit (key_fits place k))
      ++ (told_by (within_limit (fits (unwrap_or (content_under place k) contents.Anything) d)) ++ inner_limits (unwrap_or (content_under place k) contents.Anything) d)) ++ member_limits place ms

-- the limits that a value and all that it holds pass
abbrev pub content_limits : Content → Data → List Flaw
content_limits content d = told_by (within_limit (fits content d)) ++ inner_limits content d

-- those of a whole resolved configuration
abbrev pub configuration_limits : Data → List Flaw
configuration_limits d = content_limits (contents.At places.Root) d
