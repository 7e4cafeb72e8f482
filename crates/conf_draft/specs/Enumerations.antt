-- What the properties of an enumeration field type say (barectf 3.1, "Enumeration field type objects"): its integer, and the
-- ranges of each label, the labels in byte order and each one's ranges as they are listed.
use Rattle.std.specs.Prelude.{ℕ, ℤ, pos, Bool, List, [], ◌∷◌, ◌++◌, Option, Some, codes, option_map, unwrap_or}
use Rattle.serde_json.specs.Data.{Data, number, array, Items, no_items, item, Members, no_members, member}
use Rattle.serde_json.specs.Find.{as_integer, get_item}
use Rattle.ctf_types.specs.declared.EnumType.{EnumType}
use Rattle.ctf_types.specs.declared.Mapping.{Mapping}
use Rattle.conf_draft.specs.Integers.{integer}
use Rattle.conf_draft.specs.Lookups.{properties}

abbrev pub whole : Option Data → ℤ
whole (Some (number n)) = unwrap_or (as_integer n) (pos 0)
whole _ = pos 0

-- a range is a number, or the lowest and the highest
abbrev pub low : Data → ℤ
low (array ds) = whole (get_item 0 ds)
low d = whole (Some d)

abbrev pub high : Data → ℤ
high (array ds) = whole (get_item 1 ds)
high d = whole (Some d)

abbrev pub ranges_in : List ℕ → Items → List Mapping
ranges_in label no_items = []
ranges_in label (item d ds) = record { label = label; low = low d; high = high d } ∷ ranges_in label ds

abbrev pub ranges_of : List ℕ → Data → List Mapping
ranges_of label (array ds) = ranges_in label ds
ranges_of label _ = []

abbrev pub labels_in : Members → List Mapping
labels_in no_members = []
labels_in (member label d ms) = ranges_of label d ++ labels_in ms

unfoldable pub enumeration : Bool → Members → Option EnumType
enumeration signed ms = option_map (λ t. record { int = t; mappings = labels_in (properties (codes "mappings") ms) }) (integer signed ms)
