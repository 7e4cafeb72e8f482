-- What an object and its properties are that have no flaw: its class may stand where it stands, a needed property is there, and each
-- property that is there is what its row asks for. And what stands at the properties of an object, as entries of a map, and as items of a
-- list, where no limit is passed and names are in order.
use Rattle.std.proofs.Common.{codes, unwrap_or, arith, ◌≡◌, ◌++◌, ℕ, Bool, true, false, List, [], ◌∷◌, map, Option, Some, None, Result, Ok, refl, sym, subst, ◌∙◌, suc, option_map, option_and_then, ap, length, Less, nat_cmp}
use Rattle.conf_laws.proofs.Readings.{at_found, optional_found, by_found}
use Rattle.conf_laws.proofs.Words.{Entries, is_by_index, and-false, wanted, entries_of, admits_class, presence_under, Told, rows_of, row_in, content_under, Place, At, Content, Needed, Presence, class_of, told_by, class_rule, all_there, resolved_content, is_left_out, left_out, is_needed, is_null, property_flaws, inner_flaws, member_flaws, content_flaws, item_flaws, rows_there, row_there, orders_there, itself_of, any_object, Known, inside, behind, with_taken, key_of, with_names, place_of_properties, item_content, is_position, shape_of, Flaw, key, within, index, optional, ◌>>=◌, needed, both_read, Data, object, Members, member, Items, item, no_members, get_member, as_object, nat_tests, bytes_eq-Decides, bytes_eq, object_at as object_in, ⊤, within_limit, fits, inner_limits, member_limits, key_fits, content_limits, item_limits, place_fits, arrays_fit, at_most, count_of, ranges_fit, AllAbove, IsInOrder, Ascends, MembersAscend, ItemsAscend, members_len, nothing, slice_cmp, IsStrictlySortedBy, AllByRecursion, properties, InByteOrder}
use Rattle.conf_laws.proofs.Words.places
use Rattle.conf_laws.proofs.Words.contents

-- ---- lists of flaws that are empty

pub told_none : (r : Result ⊤ Flaw) → told_by r ≡ [] → r ≡ Ok tt
told_none r e = grind (arith, e)

pub both_none : {A : Type 0} (xs ys : List A) → xs ++ ys ≡ [] → (xs ≡ []) × (ys ≡ [])
both_none [] ys e = (refl, e)
both_none (x ∷ xs) ys e = absurd cc

-- what is told of the first, and of the rest
pub first_none : {A B : Type 0} (f : A → B) (xs : List A) (ys : List B) → map f xs ++ ys ≡ [] → (xs ≡ []) × (ys ≡ [])
first_none f [] ys e = (refl, e)
first_none f (x ∷ xs) ys e = absurd cc

pub record ObjectSound (k : Known) (place : Place) (ms : Members) : Type 0 where
  pub class_fits : class_rule place ms ≡ Ok tt
  pub there : all_there (place_of_properties place ms) ms ≡ Ok tt
  pub members : member_flaws (inside (place_of_properties place ms) ms k) (place_of_properties place ms) ms ≡ []
  pub shape : shape_of place ms ≡ Ok tt

pub object_sound : (k : Known) (place : Place) (ms : Members) → inner_flaws k (At place) (object ms) ≡ [] → ObjectSound k place ms
object_sound k place ms e = grind (arith, both_none, told_none, e)

-- ---- a property

pub record ContentSound (k : Known) (content : Content) (d : Data) : Type 0 where
  pub itself : itself_of k content d ≡ Ok tt
  pub inner : inner_flaws k content d ≡ []

pub content_sound : (k : Known) (content : Content) (d : Data) → told_by (itself_of k content d) ++ inner_flaws k content d ≡ [] → ContentSound k content d
content_sound k content d e = grind (arith, both_none, told_none, e)

pub record PropertySound (k : Known) (place : Place) (name : List ℕ) (content : Content) (d : Data) : Type 0 where
  pub value : ContentSound k content d
  pub named : key_of k place name d ≡ Ok tt

-- the flaws of a property, seen from its value
abbrev pub flaws_at : Known → Place → List ℕ → Data → List Flaw
flaws_at k place name d = property_flaws k place name (resolved_content place name) d (inner_flaws k (unwrap_or (resolved_content place name) contents.Anything) d)

pub property_here : (k : Known) (place : Place) (name : List ℕ) (content : Content) (d : Data) → resolved_content place name ≡ Some content → is_left_out place name d ≡ false → flaws_at k place name d ≡ [] → PropertySound k place name content d
property_here k place name content d is there e = grind (arith, both_none, told_none, is, there, e)

-- the first property, and those behind it
pub first_flaws : (k : Known) (place : Place) (name : List ℕ) (d : Data) (ms : Members) → member_flaws k place (member name d ms) ≡ [] → (flaws_at k place name d ≡ []) × (member_flaws (behind place d k) place ms ≡ [])
first_flaws k place name d ms e = first_none (within (key name)) (flaws_at k place name d) _ e

-- the first item of a list, and those behind it
pub first_item : (k : Known) (place : Place) (taken : Members) (i : ℕ) (d : Data) (ds : Items) → item_flaws k place taken i (item d ds) ≡ []
    → (content_flaws (with_taken taken k) (item_content place) d ≡ []) × (item_flaws k place (with_names d taken) (suc i) ds ≡ [])
first_item k place taken i d ds e = first_none (within (index i)) (content_flaws (with_taken taken k) (item_content place) d) _ e

-- a row of the place tells of a property of this name, of which an object does not inherit
abbrev pub HasRow : Place → List ℕ → Presence → Content → Type 0
HasRow place name presence content = (row_in name (rows_of place) ≡ Some (record { name = name; presence = presence; content = content })) × (bytes_eq name (codes "$inherit") ≡ false)

-- a place with rows is no map, whose entries would say something of one another
pub row_leads : (place : Place) (name : List ℕ) (row : Told) → row_in name (rows_of place) ≡ Some row → ((d : Data) (k : Known) → behind place d k ≡ k) × (content_under place name ≡ Some row.content)
unfolding behind content_under entries_of rows_of
row_leads places.Root name row is = (λ d k. refl, ap (option_map (λ (r : Told). r.content)) is)
row_leads _ name row is = let leads = ap (option_map (λ (r : Told). r.content)) is in (λ d k. cc, cc)

pub property_sound : (k : Known) (place : Place) (name : List ℕ) {presence : Presence} (content : Content) (ms : Members) (d : Data) → HasRow place name presence content
    → member_flaws k place ms ≡ [] → get_member name ms ≡ Some d → is_left_out place name d ≡ false → PropertySound k place name content d
unfolding resolved_content
property_sound k place name content ms d row e found there =
    property_here k place name content d (rw row.1 (row_leads place name _ row.0).1) there (at_found (λ xs. member_flaws k place xs ≡ []) (λ n x. flaws_at k place n x ≡ []) each name ms d e found)
  where
    each : (n : List ℕ) (x : Data) (xs : Members) → member_flaws k place (member n x xs) ≡ [] → (flaws_at k place n x ≡ []) × (member_flaws k place xs ≡ [])
    each n x xs f = let parts = first_flaws k place n x xs f in (parts.0, subst (λ j. member_flaws j place xs ≡ []) ((row_leads place name _ row.0).0 x k) parts.1)

-- ---- a property that may be left out

pub optional_there : (name : List ℕ) (ms : Members) (d : Data) → optional name ms ≡ Some d → (get_member name ms ≡ Some d) × (is_null d ≡ false)
optional_there name ms d e = grind (arith, e)

-- a property that is there and is not null is sound at what it is
pub optional_sound : (k : Known) (place : Place) (name : List ℕ) {presence : Presence} (content : Content) (ms : Members) (d : Data) → HasRow place name presence content
    → member_flaws k place ms ≡ [] → optional name ms ≡ Some d → PropertySound k place name content d
unfolding is_left_out
optional_sound k place name content ms d row e found =
    let (there, some) = optional_there name ms d found in
    property_sound k place name content ms d row e there (by_found (λ (o : Option Presence). left_out o d ≡ false) (presence_under place name) (λ is. refl) (λ p is. grind (arith, nat_tests)))

-- ---- an object at a property

pub object_read : (d : Data) (step : Members → Result ⊤ Flaw) → (wanted (as_object d) >>= step) ≡ Ok tt → (ms : Members) × (d ≡ object ms)
object_read d step e = grind (arith, e)

-- a value at a place of objects is an object that is sound
pub object_at : (k : Known) (place : Place) (d : Data) → ContentSound k (At place) d → itself_of k (At place) d ≡ any_object d → (ms : Members) × (d ≡ object ms) × ObjectSound k place ms
unfolding any_object
object_at k place d h form =
    let (ms, is) = object_read d _ (sym form ∙ h.itself) in
    (ms, is, object_sound k place ms (subst (λ x. inner_flaws k (At place) x ≡ []) is h.inner))

-- the properties of an object whose rows are those of this place
pub record RowsSound (k : Known) (place : Place) (ms : Members) : Type 0 where
  pub there : all_there place ms ≡ Ok tt
  pub flaws : member_flaws k place ms ≡ []

pub rows_sound : (k : Known) (place rows : Place) (ms : Members) → place_of_properties place ms ≡ rows → ObjectSound k place ms → RowsSound (inside rows ms k) rows ms
rows_sound k place rows ms is h = subst (λ p. RowsSound (inside p ms k) p ms) is (record { there = h.there; flaws = h.members })

-- ---- a needed property

found_among : (name : List ℕ) (ms : Members) (rows : List Told) (row : Told) → rows_there ms rows ≡ Ok tt → row_in name rows ≡ Some row → is_needed row.presence ≡ true → (d : Data) × (get_member name ms ≡ Some d)
found_among name ms [] row e f needed = absurd cc
found_among name ms (r ∷ rows) row e f needed =
    let parts = both_read (row_there ms r) (λ _. rows_there ms rows) tt e in
    by_found (λ (o : Option Data). get_member name ms ≡ o → (d : Data) × (get_member name ms ≡ Some d)) (get_member name ms) (λ none there. absurd (grind (arith, nat_tests, bytes_eq-Decides r.name name, found_among name ms rows row parts.2, parts.1, f, needed, none))) (λ d there same. (d, same)) refl

pub needed_sound : (k : Known) (place : Place) (name : List ℕ) (content : Content) (ms : Members) → HasRow place name Needed content → RowsSound k place ms → (d : Data) × (get_member name ms ≡ Some d) × PropertySound k place name content d
unfolding all_there is_left_out presence_under
needed_sound k place name content ms row h =
    let (d, found) = found_among name ms (rows_of place) _ (both_read (rows_there ms (rows_of place)) (λ _. orders_there place ms) tt h.there).1 row.0 refl in
    (d, found, property_sound k place name content ms d row h.flaws found (ap (λ o. left_out (option_map (λ (r : Told). r.presence) o) d) row.0))

-- ---- the entries of a map

-- a place is a map, whose entries are such under any name
abbrev pub IsMapOf : Place → Content → Type 0
IsMapOf place content = (entries : Entries) × (entries_of place ≡ Some entries) × (is_by_index entries.keys ≡ false) × (entries.content ≡ content)

-- a map has no rows
pub no_rows : (place : Place) (name : List ℕ) (entries : Entries) → entries_of place ≡ Some entries → presence_under place name ≡ None
unfolding entries_of presence_under rows_of
no_rows places.Environment name entries is = refl
no_rows _ name entries is = cc

entries_lead : (place : Place) (name : List ℕ) (entries : Entries) → entries_of place ≡ Some entries → is_by_index entries.keys ≡ false → content_under place name ≡ Some entries.content
unfolding content_under entries_of rows_of
entries_lead places.Environment name entries is named = ap (option_map (λ (e : Entries). e.content)) is
entries_lead _ name entries is named = grind (arith, is, named)

pub map_leads : (place : Place) (name : List ℕ) (content : Content) → IsMapOf place content → content_under place name ≡ Some content
map_leads place name content (entries, is, named, same) = entries_lead place name entries is named ∙ ap Some same

pub first_entry : (k : Known) (place : Place) (name : List ℕ) (content : Content) (d : Data) (ms : Members) → IsMapOf place content → member_flaws k place (member name d ms) ≡ []
    → PropertySound k place name content d × (member_flaws (behind place d k) place ms ≡ [])
unfolding resolved_content is_left_out
first_entry k place name content d ms map e =
    let both = first_flaws k place name d ms e in
    let resolved : resolved_content place name ≡ Some content = rw (no_rows place (codes "$inherit") map.0 map.1, and-false (bytes_eq name (codes "$inherit"))) (map_leads place name content map) in
    (property_here k place name content d resolved (ap (λ o. left_out o d) (no_rows place name map.0 map.1)) both.0, both.1)

-- the class that a field type has where it stands
has_class : (place : Place) (ms : Members) → is_position place ≡ true → class_rule place ms ≡ Ok tt → (class : Place) × (class_of ms ≡ Some class) × (admits_class place class ≡ true)
unfolding class_rule class_of
has_class place ms position e = grind (arith, position, e)

-- ---- a field type where one may stand

pub record TypeSound (k : Known) (place : Place) (ms : Members) : Type 0 where
  pub class : Place
  pub is : class_of ms ≡ Some class
  pub may_stand : admits_class place class ≡ true
  pub rows : RowsSound (inside class ms k) class ms
  pub shape : shape_of place ms ≡ Ok tt

-- the rows of a field type are those of its class
pub class_place : (place : Place) (ms : Members) (class : Place) → is_position place ≡ true → class_of ms ≡ Some class → place_of_properties place ms ≡ class
unfolding place_of_properties
class_place place ms class position is = grind (arith, position, is)

pub type_sound : (k : Known) (place : Place) (ms : Members) → is_position place ≡ true → ObjectSound k place ms → TypeSound k place ms
type_sound k place ms position h =
    let c = has_class place ms position h.class_fits in
    record { class = c.0; is = c.1; may_stand = c.2; rows = rows_sound k place c.0 ms (class_place place ms c.0 position c.1) h; shape = h.shape }

-- a place of objects with rows of its own
abbrev pub IsObject : Place → Type 0
IsObject place = (k : Known) (d : Data) (ms : Members) → (itself_of k (At place) d ≡ any_object d) × (place_of_properties place ms ≡ place)

-- an object that is there, with its rows
pub held_at : (k : Known) (place : Place) (d : Data) → IsObject place → ContentSound k (At place) d → (ms : Members) × (d ≡ object ms) × RowsSound (inside place ms k) place ms
held_at k place d own h = let (ms, is, sound) = object_at k place d h (own k d no_members).0 in (ms, is, rows_sound k place place ms (own k d ms).1 sound)

-- a needed object is there
pub needed_object : (k : Known) (around place : Place) (name : List ℕ) (ms : Members) → HasRow around name Needed (At place) → IsObject place → RowsSound k around ms → (os : Members) × (object_in name ms ≡ Some os) × RowsSound (inside place os k) place os
unfolding object_in
needed_object k around place name ms row own h =
    let (d, there, sound) = needed_sound k around name (At place) ms row h in
    let (os, same, rows) = held_at k place d own sound.value in
    (os, ap (option_and_then as_object) (optional_found name ms (object os) (there ∙ ap Some same) refl), rows)

-- a place of objects with rows of its own, around which nothing more is known
abbrev pub IsOwn : Place → Type 0
IsOwn place = IsObject place × ((k : Known) (ms : Members) → inside place ms k ≡ k)

-- ---- no limit is passed, and names are in order

pub fits_there : (b : Bool) (xs : List Flaw) → told_by (within_limit b) ++ xs ≡ [] → (b ≡ true) × (xs ≡ [])
fits_there b xs e = grind (arith, e)

-- by a value, and by what it holds
pub record IsWithin (content : Content) (d : Data) : Type 0 where
  pub fitting : fits content d ≡ true
  pub inner : inner_limits content d ≡ []
  pub ascends : Ascends d

pub is_within : (content : Content) (d : Data) → content_limits content d ≡ [] → Ascends d → IsWithin content d
is_within content d e ascends = let both = fits_there (fits content d) _ e in record { fitting = both.0; inner = both.1; ascends = ascends }

-- by the properties of an object at this place
pub record AreWithin (place : Place) (ms : Members) : Type 0 where
  pub limits : member_limits place ms ≡ []
  pub in_order : IsInOrder ms
  pub ascend : MembersAscend ms

-- by the items of a list, from place i on
pub record AreItemsWithin (place : Place) (i : ℕ) (ds : Items) : Type 0 where
  pub limits : item_limits place i ds ≡ []
  pub ascend : ItemsAscend ds

pub object_within : (place own : Place) (ms : Members) → place_of_properties place ms ≡ own → IsWithin (At place) (object ms) → AreWithin own ms
object_within place own ms is h = record { limits = subst (λ p. member_limits p ms ≡ []) is h.inner; in_order = h.ascends.0; ascend = h.ascends.1 }

-- the limits that a property passes, seen from its value
abbrev pub limits_at : Place → List ℕ → Data → List Flaw
limits_at place name d = told_by (within_limit (key_fits place name)) ++ (told_by (within_limit (fits (unwrap_or (content_under place name) contents.Anything) d)) ++ inner_limits (unwrap_or (content_under place name) contents.Anything) d)

value_within : (place : Place) (name : List ℕ) (content : Content) (d : Data) → content_under place name ≡ Some content → limits_at place name d ≡ [] → Ascends d → IsWithin content d
value_within place name content d under e ascends =
    is_within content d (subst (λ o. content_limits (unwrap_or o contents.Anything) d ≡ []) under (fits_there (key_fits place name) _ e).1) ascends

-- the first property, and those behind it
pub first_limits : (place : Place) (name : List ℕ) (d : Data) (ms : Members) → member_limits place (member name d ms) ≡ [] → (limits_at place name d ≡ []) × (member_limits place ms ≡ [])
first_limits place name d ms l = first_none (within (key name)) (limits_at place name d) _ l

-- the first item of a list, and those behind it
pub first_item_limits : (place : Place) (i : ℕ) (d : Data) (ds : Items) → item_limits place i (item d ds) ≡ [] → (content_limits (item_content place) d ≡ []) × (item_limits place (suc i) ds ≡ [])
first_item_limits place i d ds e = first_none (within (index i)) (content_limits (item_content place) d) _ e

-- what a property is that is there
pub property_within : (place : Place) (name : List ℕ) {presence : Presence} (content : Content) → HasRow place name presence content → (ms : Members) (d : Data) → AreWithin place ms → get_member name ms ≡ Some d → IsWithin content d
property_within place name content row ms d h found =
    value_within place name content d (row_leads place name _ row.0).1 (at_found (λ xs. member_limits place xs ≡ []) (λ n x. limits_at place n x ≡ []) (first_limits place) name ms d h.limits found)
    (at_found MembersAscend (λ n x. Ascends x) (λ n x xs each. each) name ms d h.ascend found)

pub optional_within : (place : Place) (name : List ℕ) {presence : Presence} (content : Content) → HasRow place name presence content → (ms : Members) (d : Data) → AreWithin place ms → optional name ms ≡ Some d → IsWithin content d
optional_within place name content row ms d h there = property_within place name content row ms d h (optional_there name ms d there).0

-- the first entry of a map, and those behind it
pub entry_within : (place : Place) (content : Content) → IsMapOf place content → (name : List ℕ) (d : Data) (ms : Members) → AreWithin place (member name d ms) → IsWithin content d × (key_fits place name ≡ true) × AreWithin place ms
entry_within place content map name d ms h =
    let first = first_limits place name d ms h.limits in
    (value_within place name content d (map_leads place name content map) first.0 h.ascend.0, (fits_there (key_fits place name) _ first.0).0, record { limits = first.1; in_order = h.in_order.1; ascend = h.ascend.1 })

abbrev pub names_of : Members → List (List ℕ)
names_of no_members = []
names_of (member k d ms) = k ∷ names_of ms

all_above : (k : List ℕ) (ms : Members) → AllAbove k ms → AllByRecursion (λ l. slice_cmp nat_cmp k l ≡ Less) (names_of ms)
all_above k no_members h = tt
all_above k (member l d ms) h = (h.0, all_above k ms h.1)

pub sorted_names : (ms : Members) → IsInOrder ms → InByteOrder (names_of ms)
unfolding IsStrictlySortedBy
sorted_names no_members h = tt
sorted_names (member k d ms) h = (all_above k ms h.0, sorted_names ms h.1)

pub names_counted : (ms : Members) → length (names_of ms) ≡ members_len ms
names_counted no_members = refl
names_counted (member k d ms) = ap suc (names_counted ms)

-- no static arrays are too many, no more entries than the place allows, and no ranges too many
pub fitting_parts : (place : Place) (d : Data) → fits (At place) d ≡ true → (arrays_fit place d ≡ true) × (at_most (entries_of place) (count_of d) ≡ true) × (ranges_fit place d ≡ true)
unfolding fits place_fits
fitting_parts place d e = grind (arith, nat_tests, e)

none_fit : (o : Option Entries) → at_most o 0 ≡ true
none_fit o = grind (arith, nat_tests)

object_or_none : (place : Place) (d : Data) → IsObject place → IsWithin (At place) d → AreWithin place (unwrap_or (as_object d) no_members) × (at_most (entries_of place) (members_len (unwrap_or (as_object d) no_members)) ≡ true)
object_or_none place (object ms) own h = (object_within place place ms (own nothing (object ms) ms).1 h, (fitting_parts place (object ms) h.fitting).1)
object_or_none place _ own h = (record { limits = refl; in_order = tt; ascend = tt }, none_fit (entries_of place))

-- the properties of an object or the entries of a map, no more than the place allows; left out, there are none
pub all_within : (place : Place) {inner : Place} (name : List ℕ) {presence : Presence} → HasRow place name presence (At inner) → IsObject inner → (ms : Members) → AreWithin place ms
    → AreWithin inner (properties name ms) × (at_most (entries_of inner) (members_len (properties name ms)) ≡ true)
unfolding properties object_in
all_within place {inner = inner} name row own ms h =
    by_found (λ (o : Option Data). AreWithin inner (unwrap_or (option_and_then as_object o) no_members) × (at_most (entries_of inner) (members_len (unwrap_or (option_and_then as_object o) no_members)) ≡ true)) (optional name ms)
    (λ is. (record { limits = refl; in_order = tt; ascend = tt }, none_fit (entries_of inner))) (λ d is. object_or_none inner d own (optional_within place name (At inner) row ms d h is))

-- the properties of an object that has no flaw have none; left out, there are none
pub flaws_in : (k : Known) (around : Place) {inner : Place} (name : List ℕ) {presence : Presence} → HasRow around name presence (At inner) → IsOwn inner → (ms : Members) → member_flaws k around ms ≡ [] → member_flaws k inner (properties name ms) ≡ []
unfolding properties object_in
flaws_in k around {inner = inner} name row own ms f =
    by_found (λ (o : Option Data). member_flaws k inner (unwrap_or (option_and_then as_object o) no_members) ≡ []) (optional name ms) (λ is. refl) (λ d is.
    let (os, same, rows) = held_at k inner d own.0 (optional_sound k around name (At inner) ms d row f is).value in
    subst (λ x. member_flaws k inner (unwrap_or (as_object x) no_members) ≡ []) (sym same) (subst (λ j. member_flaws j inner os ≡ []) (own.1 k os) rows.flaws))
