-- The table of a configuration: the rows of each object, what each map and each list holds, and where a property leads. A
-- property that is in none of the rows of its object is unknown.
use Rattle.std.specs.Prelude.{◌≡◌, ◌≢◌, ◌⊎◌, ◌&&◌, ℕ, List, [], ◌∷◌, map, Option, Some, None, option_map, Bool, true, false, not, if◌then◌else◌}
use Rattle.std.specs.List.{list_any}
use Rattle.std.specs.Str.{bytes_eq}
use Rattle.std.specs.Borrow.{Bor}
use Rattle.conf_table.specs.declared.place.Place.{Place}
use Rattle.conf_table.specs.declared.place.Place.TheVariants as places
use Rattle.conf_table.specs.declared.row.Presence.{Presence}
use Rattle.conf_table.specs.declared.row.Presence.TheVariants.{UntilResolved}
use Rattle.conf_table.specs.declared.row.Content.{Content}
use Rattle.conf_table.specs.declared.row.Content.TheVariants.{At, Anything}
use Rattle.conf_table.specs.declared.row.Keys.{Keys}
use Rattle.conf_table.specs.declared.row.Keys.TheVariants.{Index}
use Rattle.conf_table.specs.declared.row.Entries.{Entries}
use Rattle.conf_table.specs.declared.objects.TheConstants as objects
use Rattle.conf_table.specs.declared.field_types.TheConstants as fields
use Rattle.conf_table.specs.declared.maps.TheConstants as maps

-- a row: a property's name, whether it has to be there, and what its value is
pub record Told : Type 0 where
  pub name : List ℕ
  pub presence : Presence
  pub content : Content

abbrev pub told : List ℕ → Presence → Content → Told
told name presence content = record { name = name; presence = presence; content = content }

-- what a row of the code tells
abbrev pub told_of : Bor (List ℕ) × Presence × Content → Told
told_of r = told r.0.now r.1 r.2

-- ---- objects

-- the rows of an object; no other place has any
unfoldable pub rows_of : Place → List Told
rows_of places.Root = map (λ r. told r.0.now r.1 r.2) objects.ROOT
rows_of places.Trace = map (λ r. told r.0.now r.1 r.2) objects.TRACE
rows_of places.TraceType = map (λ r. told r.0.now r.1 r.2) objects.TRACE_TYPE
rows_of places.TraceFeatures = map (λ r. told r.0.now r.1 r.2) objects.TRACE_FEATURES
rows_of places.ClockType = map (λ r. told r.0.now r.1 r.2) objects.CLOCK_TYPE
rows_of places.ClockOffset = map (λ r. told r.0.now r.1 r.2) objects.CLOCK_OFFSET
rows_of places.StreamType = map (λ r. told r.0.now r.1 r.2) objects.STREAM_TYPE
rows_of places.StreamFeatures = map (λ r. told r.0.now r.1 r.2) objects.STREAM_FEATURES
rows_of places.PacketFeatures = map (λ r. told r.0.now r.1 r.2) objects.PACKET_FEATURES
rows_of places.EventRecordFeatures = map (λ r. told r.0.now r.1 r.2) objects.EVENT_RECORD_FEATURES
rows_of places.EventType = map (λ r. told r.0.now r.1 r.2) objects.EVENT_TYPE
rows_of places.Member = map (λ r. told r.0.now r.1 r.2) fields.MEMBER
rows_of places.FieldType = map (λ r. told r.0.now r.1 r.2) fields.FIELD_TYPE
rows_of places.StructureType = map (λ r. told r.0.now r.1 r.2) fields.FIELD_TYPE
rows_of places.MemberType = map (λ r. told r.0.now r.1 r.2) fields.FIELD_TYPE
rows_of places.ElementType = map (λ r. told r.0.now r.1 r.2) fields.FIELD_TYPE
rows_of places.DynamicElementType = map (λ r. told r.0.now r.1 r.2) fields.FIELD_TYPE
rows_of places.Feature = map (λ r. told r.0.now r.1 r.2) fields.FIELD_TYPE
rows_of places.SizeFeature = map (λ r. told r.0.now r.1 r.2) fields.FIELD_TYPE
rows_of places.MagicFeature = map (λ r. told r.0.now r.1 r.2) fields.FIELD_TYPE
rows_of places.IdentifierFeature = map (λ r. told r.0.now r.1 r.2) fields.FIELD_TYPE
rows_of places.UnsignedInteger = map (λ r. told r.0.now r.1 r.2) fields.INTEGER
rows_of places.SignedInteger = map (λ r. told r.0.now r.1 r.2) fields.INTEGER
rows_of places.UnsignedEnumeration = map (λ r. told r.0.now r.1 r.2) fields.ENUMERATION
rows_of places.SignedEnumeration = map (λ r. told r.0.now r.1 r.2) fields.ENUMERATION
rows_of places.Str = map (λ r. told r.0.now r.1 r.2) fields.STR
rows_of places.StaticArray = map (λ r. told r.0.now r.1 r.2) fields.STATIC_ARRAY
rows_of places.DynamicArray = map (λ r. told r.0.now r.1 r.2) fields.DYNAMIC_ARRAY
rows_of places.Structure = map (λ r. told r.0.now r.1 r.2) fields.STRUCTURE
rows_of _ = []

-- the row of a name
abbrev pub row_in : List ℕ → List Told → Option Told
row_in k [] = None
row_in k (r ∷ rs) = if bytes_eq r.name k then Some r else row_in k rs

-- a property that a resolved configuration can still have
abbrev pub stays : Presence → Bool
stays UntilResolved = false
stays _ = true

abbrev pub is_told_to_stay : Option Told → Bool
is_told_to_stay None = false
is_told_to_stay (Some r) = stays r.presence

-- an object of a resolved configuration can have a property of this name: a row has it, and not only until it is resolved
unfoldable pub has_property : Place → List ℕ → Bool
has_property place k = is_told_to_stay (row_in k (rows_of place))

-- ---- maps and lists

-- what a map or a list holds; no other place holds entries
unfoldable pub entries_of : Place → Option Entries
entries_of places.Environment = Some maps.ENVIRONMENT
entries_of places.FieldTypeAliases = Some maps.FIELD_TYPE_ALIASES
entries_of places.LogLevelAliases = Some maps.LOG_LEVEL_ALIASES
entries_of places.ClockTypes = Some maps.CLOCK_TYPES
entries_of places.StreamTypes = Some maps.STREAM_TYPES
entries_of places.EventTypes = Some maps.EVENT_TYPES
entries_of places.Entry = Some maps.ENTRY
entries_of places.Mappings = Some maps.MAPPINGS
entries_of places.ExtraMembers = Some maps.EXTRA_MEMBERS
entries_of places.Members = Some maps.MEMBERS
entries_of places.Ranges = Some maps.RANGES
entries_of places.Range = Some maps.RANGE
entries_of _ = None

-- ---- where a property leads

-- what stands at a value: a place that holds others, a value that holds none, or one that may be anything
unfoldable pub place_in : Content → Place
place_in (At place) = place
place_in Anything = places.Ignored
place_in _ = places.Scalar

abbrev pub is_by_index : Keys → Bool
is_by_index Index = true
is_by_index _ = false

-- the entries of a map lead on under any name, the items of a list under none
abbrev pub under_entries : Entries → Option Content
under_entries entries = if is_by_index entries.keys then None else Some entries.content

-- what the property of this name is, where there is one
abbrev pub told_under : Option Entries → List Told → List ℕ → Option Content
told_under (Some entries) rows k = under_entries entries
told_under None rows k = option_map (λ r. r.content) (row_in k rows)

unfoldable pub content_under : Place → List ℕ → Option Content
content_under places.Ignored k = Some Anything
content_under place k = told_under (entries_of place) (rows_of place) k

-- the place of the property of this name; None is an unknown property
abbrev pub under_of : Place → List ℕ → Option Place
under_of place k = option_map place_in (content_under place k)

-- whether the property of this name has to be there, where a row has the name
unfoldable pub presence_under : Place → List ℕ → Option Presence
presence_under place k = option_map (λ r. r.presence) (row_in k (rows_of place))

-- ---- what the laws of the table say

-- a row has this name
abbrev pub IsNameOf : List ℕ → List Told → Type 0
IsNameOf k [] = ⊥
IsNameOf k (r ∷ rs) = (k ≡ r.name) ⊎ IsNameOf k rs

-- no name stands twice
abbrev pub stand_once : List (List ℕ) → Bool
stand_once [] = true
stand_once (k ∷ ks) = not (list_any (bytes_eq k) ks) && stand_once ks

-- a place that is an object: no map, no list, and no value that may be anything
abbrev pub IsObjectPlace : Place → Type 0
IsObjectPlace place = (entries_of place ≡ None) × (place ≢ places.Ignored)
