-- Where the way along a fault's path ends, in the tree of the text and in the table. In both it starts outermost. In the tree a name leads to a member and
-- an index to an item. In the table a name leads on by its row, or as to each entry of a map, and an index as to each item of a list; at a field type its
-- class tells the rows: that which it has itself in the tree, or else, where it inherits, one whose word stands in the text.
use Rattle.std.specs.Prelude.{◌≡◌, ◌⊎◌, ℕ, List, [], ◌∷◌, Option, None, Some, Bool, true, false, not, ◌&&◌, ◌||◌, option_map, option_and_then, unwrap_or, MatchOption, take, drop, if◌then◌else◌, codes, string_bytes}
use Rattle.std.specs.Borrow.{Bor}
use Rattle.std.specs.Str.{bytes_eq}
use Rattle.serde_json.specs.Data.{Data, string}
use Rattle.serde_json.specs.Find.{as_str, at, get}
use Rattle.serde_json.specs.View.{view}
use Rattle.serde_json.specs.declared.value.Value.{Value}
use Rattle.conf_tree.specs.Walk.{Reads}
use Rattle.conf_tree.specs.declared.step.Step.{Step}
use Rattle.conf_tree.specs.declared.step.Step.TheVariants.{Key, Index}
use Rattle.conf_table.specs.declared.place.Place.{Place}
use Rattle.conf_table.specs.declared.place.Place.TheVariants as places
use Rattle.conf_table.specs.declared.row.Content.{Content}
use Rattle.conf_table.specs.declared.row.Content.TheVariants.{At}
use Rattle.conf_table.specs.Classes.{admits_class, class_in, class_named, class_words, is_class}
use Rattle.conf_table.specs.Table.{content_under, entries_of, place_in}
use Rattle.conf_fault.specs.declared.found.Found.{Found}

-- where the way ends: the value that stands there in the tree, if one does; what the table says of a value there, the position at which it stands, and what
-- holds it
pub record PathEnd : Type 0 where
  pub value : Option Data
  pub content : Option Content
  pub position : Place
  pub holder : Place

-- the data of a value that is there
abbrev pub data_of : Option (Bor Value) → Option Data
data_of value = option_map (λ v. view v.now) value

abbrev pub end_of : Found → PathEnd
end_of found = record { value = data_of found.value; content = found.content; position = found.position; holder = found.holder }

-- the outermost place, where the tree stands
abbrev pub outermost : Option Data → PathEnd
outermost tree = record { value = tree; content = Some (At places.Root); position = places.Root; holder = places.Root }

-- ---- field types

-- a word in quotes that some of these bytes are
abbrev pub StandsIn : List ℕ → List ℕ → Type 0
StandsIn text word = (at : ℕ) × (count : ℕ) × Reads (take count (drop at text)) (string word)

-- a field type of some class can stand at the position
abbrev pub is_position : Place → Bool
is_position place = admits_class place places.Structure || (admits_class place places.UnsignedInteger || admits_class place places.StaticArray)

abbrev pub is_member : Place → Bool
is_member places.Member = true
is_member _ = false

-- the place of a class, of a member, or of a field type whose class is not known
abbrev pub holds_field_type : Place → Bool
holds_field_type place = is_class place || (is_member place || is_position place)

-- what a field type holds is told by a class that it inherits: a word in quotes of the text, or where it has none the position at which it stands
abbrev pub IsInherited : List ℕ → Place → Place → Type 0
IsInherited text position holder = (holder ≡ position) ⊎ ((word : List ℕ) × StandsIn text word × (class_in word class_words ≡ Some holder))

-- the class that a value has itself
abbrev pub own_class : Option Data → Option Data
own_class value = option_and_then (get (codes "class")) value

-- the place of this class, or the position of the field type where it is the word of none
abbrev pub place_of_class : Place → Data → Place
place_of_class position class = unwrap_or (class_named (as_str class)) position

-- what holds the properties or the items of the value at a position, as far as the value itself tells: the position, or at that of a field type the place of
-- the class that the field type has itself
unfoldable pub holder_there : Option Data → Place → Option Place
holder_there value position = if is_position position then option_map (place_of_class position) (own_class value) else Some position

-- the same, where a field type without a class inherits one
abbrev pub IsHolder : List ℕ → Option Data → Place → Place → Type 0
IsHolder text value position holder = MatchOption (holder_there value position) (IsInherited text position holder) (λ place. holder ≡ place)

-- what a property is in a field type of whatever class that may be laid over another: members, and what leads into the field type of an element
unfoldable pub laid_content : Place → List ℕ → Bool → Option Content
laid_content holder name leads_on = if not (holds_field_type holder) then None
    else (if bytes_eq name (codes "members") then content_under places.Structure name
    else (if bytes_eq name (codes "element-field-type") && leads_on then content_under places.StaticArray name else None))

-- ---- the way

-- the value one step into another: a member, or an item
abbrev pub value_behind : Step → Data → Option Data
value_behind (Key name) value = get (string_bytes name) value
value_behind (Index i) value = at i value

abbrev pub position_of : Option Content → Place
position_of None = places.Ignored
position_of (Some content) = place_in content

abbrev pub told_or_laid : Option Content → Option Content → Option Content
told_or_laid None laid = laid
told_or_laid (Some content) laid = Some content

-- what the table says of the value one step into what holds it, where the way leads on behind it or not
abbrev pub content_behind : Place → Step → Bool → Option Content
content_behind holder (Key name) leads_on = told_or_laid (content_under holder (string_bytes name)) (laid_content holder (string_bytes name) leads_on)
content_behind holder (Index i) leads_on = option_map (λ e. e.content) (entries_of holder)

-- one step further
pub record IsNext (text : List ℕ) (step : Step) (leads_on : Bool) (from next : PathEnd) : Type 0 where
  pub value : next.value ≡ option_and_then (value_behind step) from.value
  pub position : next.position ≡ position_of from.content
  pub holder : IsHolder text from.value next.position next.holder
  pub content : next.content ≡ content_behind next.holder step leads_on

abbrev pub leads_on : List Step → Bool
leads_on [] = false
leads_on (step ∷ steps) = true

-- all steps, in their order
abbrev pub Leads : List ℕ → PathEnd → List Step → PathEnd → Type 0
Leads text from [] end = end ≡ from
Leads text from (step ∷ steps) end = (next : PathEnd) × IsNext text step (leads_on steps) from next × Leads text next steps end
