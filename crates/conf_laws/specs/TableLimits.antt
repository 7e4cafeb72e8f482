-- The limits of a configuration's size that it passes: too many entries of a map or a list, too long a text, too large an
-- alignment, and static arrays that nest too deep or have too many elements.
use Rattle.std.specs.Prelude.{◌≡◌, ◌<◌, ◌*◌, ℕ, true, List, [], ◌∷◌, length, Some, codes}
use Rattle.serde_json.specs.Data.{Data, array, object, Items, Members}
use Rattle.serde_json.specs.Find.{get_member, get_item, as_str}
use Rattle.ctf_types.specs.declared.limits.TheConstants.{MAX_ARRAYS, MAX_CONFIG_RANGES, MAX_ELEMENTS, MAX_LABEL_BYTES}
use Rattle.conf_tree.specs.declared.fault_kind.FaultKind.TheVariants.{Limit}
use Rattle.conf_tree.specs.Flaw.{Flaw, key, index, here, within}
use Rattle.conf_tree.specs.Walk.{HasMember}
use Rattle.conf_table.specs.declared.place.Place.{Place}
use Rattle.conf_table.specs.declared.place.Place.TheVariants as places
use Rattle.conf_table.specs.declared.row.Content.{Content}
use Rattle.conf_table.specs.declared.row.Content.TheVariants as contents
use Rattle.conf_table.specs.declared.row.Entries.{Entries}
use Rattle.conf_table.specs.declared.row.Keys.TheVariants.{Label}
use Rattle.conf_table.specs.Classes.{class_of}
use Rattle.conf_table.specs.Table.{entries_of, content_under}
use Rattle.conf_values.specs.Scalar.{as_natural}
use Rattle.conf_judge.specs.Limits.{at_least_one, is_outermost, count_of, ranges_of}
use Rattle.conf_judge.specs.Numbers.{natural_in}
use Rattle.conf_judge.specs.Places.{place_of_properties, item_content}

-- ---- static arrays

-- a static array of so many elements, where an empty one counts as one
abbrev pub IsArray : Members → ℕ → Type 0
IsArray ms n = (class_of ms ≡ Some places.StaticArray) × (at_least_one (natural_in (codes "length") ms) ≡ Some n)

abbrev pub HasElement : Members → Data → Type 0
HasElement ms element = get_member (codes "element-field-type") ms ≡ Some element

-- static arrays of so many elements stand in one another, the outermost first
pub data Nest : Data → List ℕ → Type 0 where
  none : (d : Data) → Nest d []
  innermost : (ms : Members) (n : ℕ) → IsArray ms n → Nest (object ms) (n ∷ [])
  around_others : (ms : Members) (n : ℕ) (element : Data) (ns : List ℕ) → IsArray ms n → HasElement ms element → Nest element ns → Nest (object ms) (n ∷ ns)

abbrev pub product : List ℕ → ℕ
product [] = 1
product (n ∷ ns) = n * product ns

-- more static arrays in one another than may nest, or more elements in all than may be
pub data HasTooManyElements (d : Data) : Type 0 where
  too_deep : (ns : List ℕ) → Nest d ns → MAX_ARRAYS < length ns → HasTooManyElements d
  too_many : (ms : Members) (element : Data) (ns : List ℕ) → d ≡ object ms → HasElement ms element → Nest d ns → MAX_ELEMENTS < product ns → HasTooManyElements d

-- ---- a value by itself

-- more entries than a map or a list may have, more ranges than all labels may have, or too many elements of a field type
pub data PassesAt (place : Place) (d : Data) : Type 0 where
  too_many_entries : (entries : Entries) (most : ℕ) → entries_of place ≡ Some entries → entries.most ≡ Some most → most < count_of d → PassesAt place d
  too_many_ranges : place ≡ places.Mappings → MAX_CONFIG_RANGES < ranges_of d → PassesAt place d
  too_many_elements : is_outermost place ≡ true → HasTooManyElements d → PassesAt place d

-- a text of more bytes than this
abbrev pub IsLongText : ℕ → Data → Type 0
IsLongText most d = (s : List ℕ) × (as_str d ≡ Some s) × (most < length s)

-- a number above this
abbrev pub IsLargeNumber : ℕ → Data → Type 0
IsLargeNumber high d = (n : ℕ) × (as_natural d ≡ Some n) × (high < n)

abbrev pub PassesBy : Content → Data → Type 0
PassesBy (contents.Text most) d = IsLongText most d
PassesBy (contents.WholeOrText low high most) d = IsLongText most d
PassesBy (contents.PowerOfTwo high) d = IsLargeNumber high d
PassesBy (contents.At place) d = PassesAt place d
PassesBy _ d = ⊥

-- ---- a value and all that it holds

-- a limit that is passed by the value, or by what it holds, seen from the value
pub data PassesLimitOf : Content → Data → Flaw → Type 0 where
  too_large : {content : Content} {d : Data} → PassesBy content d → PassesLimitOf content d (here Limit)
  long_label : {place : Place} {ms : Members} (label : List ℕ) (d : Data) (entries : Entries) → HasMember label d ms → entries_of (place_of_properties place ms) ≡ Some entries → entries.keys ≡ Label → MAX_LABEL_BYTES < length label
      → PassesLimitOf (contents.At place) (object ms) (within (key label) (here Limit))
  in_property : {place : Place} {ms : Members} (name : List ℕ) (d : Data) (content : Content) (flaw : Flaw) → HasMember name d ms → content_under (place_of_properties place ms) name ≡ Some content
      → PassesLimitOf content d flaw → PassesLimitOf (contents.At place) (object ms) (within (key name) flaw)
  in_item : {place : Place} {ds : Items} (i : ℕ) (d : Data) (flaw : Flaw) → get_item i ds ≡ Some d → PassesLimitOf (item_content place) d flaw → PassesLimitOf (contents.At place) (array ds) (within (index i) flaw)
