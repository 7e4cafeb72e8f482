-- Where names lead: what is true of each row of an object, and of what no row has, is true of the place that a name leads to.
use Rattle.std.proofs.Common.{arith, inr, inl, ◌≡◌, ◌&&◌, ℕ, Bool, true, false, cond, List, [], ◌∷◌, Option, Some, None, option_map, refl, bytes_eq, ◌||◌, true≢false, if◌then◌else◌, sym, ap, ◌∙◌}
use Rattle.std.proofs.{lemmas.Bool.{and_parts, cases_Bool}, lemmas.Slice.Eq.bytes_eq-Decides}
use Rattle.std.specs.Prelude.{codes}
use Rattle.serde_json.specs.Data.{Data, array}
use Rattle.conf_table.specs.{declared.place.Place.Place, declared.row.Entries.Entries}
use Rattle.conf_table.specs.Table.{Told, rows_of, entries_of, row_in, content_under, told_under, under_entries, place_in}
use Rattle.conf_table.specs.declared.place.Place.TheVariants as places
use Rattle.conf_inherit.specs.FieldPlaces.{inherit_name, field_type_name, field_place, field_place_or_none, place_in_type, place_under, place_of_items, names_alias, names_member_type, lists_members, lists_extra_members, is_entry}
use Rattle.conf_inherit.specs.Flaws.{is_crowded}

module _ (f : List ℕ → Place → Bool) (k : List ℕ) where
  abbrev true_along : List Told → Bool
  true_along [] = f k places.Ignored
  true_along (r ∷ rs) = f r.name (field_place (place_in r.content)) && true_along rs

  abbrev true_told : Option Entries → List Told → Bool
  true_told (Some entries) rows = f k (field_place_or_none (option_map place_in (under_entries entries)))
  true_told None rows = true_along rows

  abbrev true_in_type : Bool
  true_in_type = f k places.Members && (f k places.FieldType && f k places.Ignored)

  -- f is true of each row's name and place, and of the name where no row has it
  unfoldable pub true_under : Place → Bool
  true_under places.FieldType = true_in_type
  true_under places.Member = true_in_type
  true_under places.Ignored = f k places.Ignored
  true_under place = true_told (entries_of place) (rows_of place)

  of_rows : (rs : List Told) → true_along rs ≡ true → f k (field_place_or_none (option_map place_in (option_map (λ r. r.content) (row_in k rs)))) ≡ true
  of_rows [] h = h
  of_rows (r ∷ rs) h = let (mine, others) = and_parts (f r.name (field_place (place_in r.content))) (true_along rs) h in grind (arith, (bytes_eq-Decides r.name k).0, of_rows rs others, mine)

  of_told : (o : Option Entries) (rs : List Told) → true_told o rs ≡ true → f k (field_place_or_none (option_map place_in (told_under o rs k))) ≡ true
  of_told (Some entries) rs h = h
  of_told None rs h = of_rows rs h

  either : (b : Bool) (s t : Place) → f k s ≡ true → f k t ≡ true → f k (cond b s t) ≡ true
  either true s t h i = h
  either false s t h i = i

  of_type : true_in_type ≡ true → f k (place_in_type k) ≡ true
  unfolding place_in_type
  of_type h =
      let members = (and_parts (f k places.Members) (f k places.FieldType && f k places.Ignored) h).0 in
      let others = (and_parts (f k places.Members) (f k places.FieldType && f k places.Ignored) h).1 in
      let a_type = (and_parts (f k places.FieldType) (f k places.Ignored) others).0 in
      either (bytes_eq k (codes "members")) places.Members _ members (either (bytes_eq k field_type_name) places.FieldType _ a_type
      (either (bytes_eq k (codes "element-field-type")) places.FieldType _ a_type (either (bytes_eq k inherit_name) places.FieldType places.Ignored a_type (and_parts (f k places.FieldType) (f k places.Ignored) others).1)))

  pub under_place : (s : Place) → true_under s ≡ true → f k (place_under s k) ≡ true
  unfolding true_under place_under content_under field_place place_in
  under_place places.FieldType h = of_type h
  under_place places.Member h = of_type h
  under_place places.Ignored h = h
  under_place s h = of_told (entries_of s) (rows_of s) h

-- ---- where extra members stand

-- no way from the place leads to a list of extra members
abbrev pub leads_elsewhere : Place → Bool
leads_elsewhere places.Root = false
leads_elsewhere places.Trace = false
leads_elsewhere places.TraceType = false
leads_elsewhere places.StreamTypes = false
leads_elsewhere places.StreamType = false
leads_elsewhere places.ExtraMembers = false
leads_elsewhere _ = true

abbrev pub LeadsElsewhere : Place → Type 0
LeadsElsewhere s = leads_elsewhere s ≡ true

pub under_elsewhere : (s : Place) (k : List ℕ) → LeadsElsewhere s → LeadsElsewhere (place_under s k)
unfolding true_under entries_of rows_of place_in field_place
under_elsewhere s k h = under_place (λ n. leads_elsewhere) k s (at s h)
  where
    at : (s : Place) → LeadsElsewhere s → true_under (λ n. leads_elsewhere) k s ≡ true
    at places.Root h = absurd (true≢false (sym h))
    at places.Trace h = absurd (true≢false (sym h))
    at places.TraceType h = absurd (true≢false (sym h))
    at places.StreamTypes h = absurd (true≢false (sym h))
    at places.StreamType h = absurd (true≢false (sym h))
    at _ h = refl

pub items_elsewhere : (s : Place) → LeadsElsewhere (place_of_items s)
unfolding place_of_items
items_elsewhere places.Members = refl
items_elsewhere places.ExtraMembers = refl
items_elsewhere _ = refl

no_extras : (s : Place) → LeadsElsewhere s → lists_extra_members s ≡ false
unfolding lists_extra_members
no_extras places.ExtraMembers h = absurd (true≢false (sym h))
no_extras _ h = refl

pub not_crowded : (s : Place) (v : Data) → LeadsElsewhere s → is_crowded s v ≡ false
not_crowded s (array es) h = rw (no_extras s h) refl
not_crowded s _ h = refl

-- ---- worked rows of where each name leads: those names of the table that lead to field types, and nothing else does

-- the names that lead on from an object, and where each leads
abbrev rows : Place → List (List ℕ × Place)
rows places.Root = (codes "trace", places.Trace) ∷ []
rows places.Trace = (codes "type", places.TraceType) ∷ []
rows places.TraceType = (codes "$features", places.TraceFeatures) ∷ (codes "$field-type-aliases", places.FieldTypeAliases) ∷ (codes "data-stream-types", places.StreamTypes) ∷ []
rows places.TraceFeatures = (codes "magic-field-type", places.FieldType) ∷ (codes "uuid-field-type", places.FieldType) ∷ (codes "data-stream-type-id-field-type", places.FieldType) ∷ []
rows places.StreamType =
    (codes "$features", places.StreamFeatures) ∷ (codes "packet-context-field-type-extra-members", places.ExtraMembers)
    ∷ (codes "event-record-common-context-field-type", places.FieldType) ∷ (codes "event-record-types", places.EventTypes) ∷ []
rows places.StreamFeatures = (codes "packet", places.PacketFeatures) ∷ (codes "event-record", places.EventRecordFeatures) ∷ []
rows places.PacketFeatures =
    (codes "total-size-field-type", places.FieldType) ∷ (codes "content-size-field-type", places.FieldType) ∷ (codes "beginning-timestamp-field-type", places.FieldType)
    ∷ (codes "end-timestamp-field-type", places.FieldType) ∷ (codes "discarded-event-records-counter-snapshot-field-type", places.FieldType) ∷ (codes "sequence-number-field-type", places.FieldType) ∷ []
rows places.EventRecordFeatures = (codes "type-id-field-type", places.FieldType) ∷ (codes "timestamp-field-type", places.FieldType) ∷ []
rows places.EventType = (codes "specific-context-field-type", places.FieldType) ∷ (codes "payload-field-type", places.FieldType) ∷ []
rows places.FieldType = (codes "members", places.Members) ∷ (codes "field-type", places.FieldType) ∷ (codes "element-field-type", places.FieldType) ∷ (codes "$inherit", places.FieldType) ∷ []
rows places.Member = (codes "members", places.Members) ∷ (codes "field-type", places.FieldType) ∷ (codes "element-field-type", places.FieldType) ∷ (codes "$inherit", places.FieldType) ∷ []
rows _ = []

abbrev in_rows : List (List ℕ × Place) → List ℕ → Place
in_rows [] k = places.Ignored
in_rows (r ∷ rs) k = if bytes_eq k r.0 then r.1 else in_rows rs k

-- where a name leads: in a map any name to an entry
abbrev led : Place → List ℕ → Place
led places.FieldTypeAliases k = places.FieldType
led places.StreamTypes k = places.StreamType
led places.EventTypes k = places.EventType
led places.Entry k = places.Member
led s k = in_rows (rows s) k

abbrev is_ignored : Place → Bool
is_ignored places.Ignored = true
is_ignored _ = false

abbrev is_named : List ℕ → List (List ℕ × Place) → Bool
is_named k [] = false
is_named k (r ∷ rs) = bytes_eq k r.0 || is_named k rs

-- each of the names leads where its row says
abbrev AreLed : Place → List (List ℕ × Place) → Type 0
AreLed s [] = Unit {0}
AreLed s (r ∷ rs) = (place_under s r.0 ≡ r.1) × AreLed s rs

ignored_there : (t : Place) → (is_ignored t || false) ≡ true → t ≡ places.Ignored
ignored_there places.Ignored h = refl
ignored_there _ h = absurd (true≢false (sym h))

module _ (s : Place) (k : List ℕ) where
  along_rows : (rs : List (List ℕ × Place)) → AreLed s rs → (is_ignored (place_under s k) || is_named k rs) ≡ true → place_under s k ≡ in_rows rs k
  along_rows [] each h = ignored_there (place_under s k) h
  along_rows (r ∷ rs) each h = elim (cases_Bool (bytes_eq k r.0)) [ inl is ↦ rw is (ap (place_under s) ((bytes_eq-Decides k r.0).0 is) ∙ each.0) | inr is ↦ rw is (along_rows rs each.1 (rw is at h)) ]

  by_rows : AreLed s (rows s) → true_under (λ n t. is_ignored t || is_named n (rows s)) k s ≡ true → place_under s k ≡ in_rows (rows s) k
  by_rows each all = along_rows (rows s) each (under_place (λ n t. is_ignored t || is_named n (rows s)) k s all)

-- an object leads on to field types, and is none itself, nor an entry
unfoldable pub leads_on : Place → Bool
leads_on places.Root = true
leads_on places.Trace = true
leads_on places.TraceType = true
leads_on places.TraceFeatures = true
leads_on places.FieldTypeAliases = true
leads_on places.StreamTypes = true
leads_on places.StreamType = true
leads_on places.StreamFeatures = true
leads_on places.PacketFeatures = true
leads_on places.EventRecordFeatures = true
leads_on places.EventTypes = true
leads_on places.EventType = true
leads_on _ = false

-- a place that inheritance knows
abbrev is_known : Place → Bool
is_known s = leads_on s || (is_entry s || (names_alias s || (names_member_type s || (lists_members s || is_ignored s))))

-- from each of them every name leads where the rows say
known_led : (s : Place) (k : List ℕ) → is_known s ≡ true → place_under s k ≡ led s k
unfolding place_under place_in_type field_type_name inherit_name content_under entries_of rows_of place_in field_place true_under leads_on is_entry names_alias names_member_type lists_members
known_led places.Root k h = by_rows places.Root k (refl, tt) refl
known_led places.Trace k h = by_rows places.Trace k (refl, tt) refl
known_led places.TraceType k h = by_rows places.TraceType k (refl, (refl, (refl, tt))) refl
known_led places.TraceFeatures k h = by_rows places.TraceFeatures k (refl, (refl, (refl, tt))) refl
known_led places.FieldTypeAliases k h = refl
known_led places.StreamTypes k h = refl
known_led places.StreamType k h = by_rows places.StreamType k (refl, (refl, (refl, (refl, tt)))) refl
known_led places.StreamFeatures k h = by_rows places.StreamFeatures k (refl, (refl, tt)) refl
known_led places.PacketFeatures k h = by_rows places.PacketFeatures k (refl, (refl, (refl, (refl, (refl, (refl, tt)))))) refl
known_led places.EventRecordFeatures k h = by_rows places.EventRecordFeatures k (refl, (refl, tt)) refl
known_led places.EventTypes k h = refl
known_led places.EventType k h = by_rows places.EventType k (refl, (refl, tt)) refl
known_led places.FieldType k h = refl
known_led places.Members k h = refl
known_led places.ExtraMembers k h = refl
known_led places.Entry k h = refl
known_led places.Member k h = refl
known_led places.Ignored k h = refl
known_led _ k h = absurd (true≢false (sym h))
