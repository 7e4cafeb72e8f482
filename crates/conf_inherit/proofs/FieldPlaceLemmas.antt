-- Where some names lead, and what the places of a field type and of a member's value have in common.
use Rattle.std.proofs.{Common.{inr, inl, ◌≡◌, ℕ, List, Some, true, false, true≢false, refl, sym, subst, bytes_eq}, lemmas.Bool.cases_Bool}
use Rattle.std.proofs.lemmas.Slice.Eq.{bytes_eq-Decides}
use Rattle.serde_json.specs.Data.{Data, Members, no_members, member}
use Rattle.conf_table.specs.{declared.place.Place.Place, Table.{rows_of, entries_of, content_under, place_in}}
use Rattle.conf_table.specs.declared.place.Place.TheVariants as places
use Rattle.conf_inherit.specs.FieldPlaces.{field_place, place_under, place_in_type, place_of_items, names_alias, names_member_type, names_type, is_base_name, lists_members, is_entry, inherit_name, field_type_name}
use Rattle.conf_inherit.specs.{Looks.base_of, Resolution.{trace_name, type_name, aliases_name}}
use Rattle.conf_tree.specs.Walk.{HasMember}

-- ---- where some names lead

pub trace_place : place_under places.Root trace_name ≡ places.Trace
unfolding place_under content_under entries_of rows_of place_in field_place trace_name
trace_place = refl

pub trace_type_place : place_under places.Trace type_name ≡ places.TraceType
unfolding place_under content_under entries_of rows_of place_in field_place type_name
trace_type_place = refl

pub aliases_place : place_under places.TraceType aliases_name ≡ places.FieldTypeAliases
unfolding place_under content_under entries_of rows_of place_in field_place aliases_name
aliases_place = refl

pub alias_type_place : (n : List ℕ) → place_under places.FieldTypeAliases n ≡ places.FieldType
unfolding place_under content_under entries_of rows_of place_in field_place
alias_type_place n = refl

pub entry_place : (n : List ℕ) → place_under places.Entry n ≡ places.Member
unfolding place_under content_under entries_of rows_of place_in field_place
entry_place n = refl

pub ignored_under : (k : List ℕ) → place_under places.Ignored k ≡ places.Ignored
unfolding place_under content_under place_in field_place
ignored_under k = refl

pub member_type_place : place_under places.Member field_type_name ≡ places.FieldType
unfolding place_under place_in_type field_type_name
member_type_place = refl

-- ---- places by what they are

pub alias_place : (s : Place) → names_alias s ≡ true → s ≡ places.FieldType
unfolding names_alias
alias_place places.FieldType h = refl
alias_place _ h = absurd (true≢false (sym h))

pub member_value_place : (s : Place) → names_member_type s ≡ true → s ≡ places.Member
unfolding names_member_type
member_value_place places.Member h = refl
member_value_place _ h = absurd (true≢false (sym h))

pub list_place : (s : Place) → lists_members s ≡ true → place_of_items s ≡ places.Entry
unfolding lists_members place_of_items
list_place places.Members h = refl
list_place places.ExtraMembers h = refl
list_place _ h = absurd (true≢false (sym h))

pub unlisted_place : (s : Place) → lists_members s ≡ false → place_of_items s ≡ places.Ignored
unfolding lists_members place_of_items
unlisted_place places.Members h = absurd (true≢false h)
unlisted_place places.ExtraMembers h = absurd (true≢false h)
unlisted_place _ h = refl

-- an entry stands in a members list
pub entry_list : (s : Place) → is_entry (place_of_items s) ≡ true → lists_members s ≡ true
unfolding lists_members place_of_items is_entry
entry_list places.Members h = refl
entry_list places.ExtraMembers h = refl
entry_list _ h = absurd (true≢false (sym h))

pub type_is_no_base : is_base_name places.Member field_type_name ≡ false
unfolding is_base_name field_type_name inherit_name
type_is_no_base = refl

pub alias_field : names_alias places.FieldType ≡ true
unfolding names_alias
alias_field = refl

pub alias_named : names_type places.FieldType ≡ true
unfolding names_alias
alias_named = refl

-- an object inherits only where a field type stands, and the two places lead on alike
pub record SamePlace (s : Place) : Type 0 where
  pub under : (k : List ℕ) → place_under s k ≡ place_under places.FieldType k
  pub base : (k : List ℕ) → is_base_name s k ≡ is_base_name places.FieldType k

base_name_place : (s : Place) (k : List ℕ) → is_base_name s k ≡ true → SamePlace s
unfolding place_under is_base_name
base_name_place places.FieldType k h = record { under = λ q. refl; base = λ q. refl }
base_name_place places.Member k h = record { under = λ q. refl; base = λ q. refl }
base_name_place _ k h = absurd (true≢false (sym h))

base_place_at : (k : List ℕ) → bytes_eq k inherit_name ≡ true → place_in_type k ≡ places.FieldType
unfolding place_in_type inherit_name field_type_name
base_place_at k h = subst (λ x. place_in_type x ≡ places.FieldType) (sym ((bytes_eq-Decides k inherit_name).0 h)) refl

-- what an object inherits from is a field type
pub base_place : (s : Place) (k : List ℕ) → is_base_name s k ≡ true → place_under s k ≡ places.FieldType
unfolding is_base_name place_under
base_place places.FieldType k h = base_place_at k h
base_place places.Member k h = base_place_at k h
base_place _ k h = absurd (true≢false (sym h))

-- what an object inherits from is its property of that name
pub base_named : (s : Place) (ms : Members) (b : Data) → base_of s ms ≡ Some b → (k : List ℕ) × (is_base_name s k ≡ true) × HasMember k b ms
base_named s no_members b h = absurd cc
base_named s (member k d ms) b h = elim (cases_Bool (is_base_name s k)) [
  | inl is ↦ (let f : Some d ≡ Some b = rw is at h in (k, is, inl (refl, let same : b ≡ d = cc in same)))
  | inr is ↦ (let (l, named, there) = base_named s ms b (rw is at h) in (l, named, inr there))
]

pub inheriting_place : (s : Place) (ms : Members) (b : Data) → base_of s ms ≡ Some b → SamePlace s
inheriting_place s ms b h = let (k, is, there) = base_named s ms b h in base_name_place s k is
