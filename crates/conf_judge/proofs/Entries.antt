-- What the items of a list are is what the table says that the list holds.
use Rattle.std.proofs.Common.{◌≡◌, ◌≢◌, ℤ, Some, true, false, refl, sym, ap, ◌∙◌}
use Rattle.serde_json.specs.Data.{Data}
use Rattle.conf_tree.specs.Reading.{whole_of}
use Rattle.std.proofs.lemmas.Bool.{false≢true}
use Rattle.std.proofs.lemmas.Option.{same_Some}
use Rattle.conf_table.specs.declared.place.Place.{Place}
use Rattle.conf_table.specs.declared.place.Place.TheVariants as places
use Rattle.conf_table.specs.declared.row.Content.TheVariants.{Whole}
use Rattle.conf_table.specs.declared.row.Entries.{Entries}
use Rattle.conf_table.specs.Table.{entries_of, is_by_index}
use Rattle.conf_judge.specs.Numbers.{all_numbers, end_of}
use Rattle.conf_judge.specs.Places.{item_content}

content_is : (e f : Entries) → Some e ≡ Some f → e.content ≡ f.content
content_is e f same = ap (λ (x : Entries). x.content) (same_Some e f same)

-- what is held by names is no list
held_by_names : (e f : Entries) → Some e ≡ Some f → is_by_index e.keys ≡ false → is_by_index f.keys ≡ true → ⊥
held_by_names e f same names index = false≢true (sym names ∙ ap (λ (x : Entries). is_by_index x.keys) (same_Some e f same) ∙ index)

pub items_by_entries : (place : Place) (entries : Entries) → place ≢ places.Range → entries_of place ≡ Some entries → is_by_index entries.keys ≡ true → item_content place ≡ entries.content
unfolding entries_of item_content
items_by_entries places.Members e no_range is index = content_is _ e is
items_by_entries places.ExtraMembers e no_range is index = content_is _ e is
items_by_entries places.Ranges e no_range is index = content_is _ e is
items_by_entries places.Range e no_range is index = absurd (no_range refl)
items_by_entries places.Environment e no_range is index = absurd (held_by_names _ e is refl index)
items_by_entries places.FieldTypeAliases e no_range is index = absurd (held_by_names _ e is refl index)
items_by_entries places.LogLevelAliases e no_range is index = absurd (held_by_names _ e is refl index)
items_by_entries places.ClockTypes e no_range is index = absurd (held_by_names _ e is refl index)
items_by_entries places.StreamTypes e no_range is index = absurd (held_by_names _ e is refl index)
items_by_entries places.EventTypes e no_range is index = absurd (held_by_names _ e is refl index)
items_by_entries places.Entry e no_range is index = absurd (held_by_names _ e is refl index)
items_by_entries places.Mappings e no_range is index = absurd (held_by_names _ e is refl index)
items_by_entries _ e no_range is index = absurd cc

-- the numbers that the table says of an end of a range
ends_are : (entries : Entries) (low high : ℤ) → entries_of places.Range ≡ Some entries → entries.content ≡ Whole low high → Whole all_numbers.low all_numbers.high ≡ Whole low high
unfolding entries_of
ends_are e low high is whole = content_is _ e is ∙ whole

pub numbers_by_entries : (entries : Entries) (low high : ℤ) → entries_of places.Range ≡ Some entries → entries.content ≡ Whole low high → (all_numbers.low ≡ low) × (all_numbers.high ≡ high)
numbers_by_entries e low high is whole = let same = ends_are e low high is whole in (cc, cc)

pub ends_by_entries : (entries : Entries) (low high : ℤ) (d : Data) → entries_of places.Range ≡ Some entries → entries.content ≡ Whole low high → end_of d ≡ whole_of low high d
ends_by_entries e low high d is whole = let numbers = numbers_by_entries e low high is whole in ap (λ x. whole_of x all_numbers.high d) numbers.0 ∙ ap (λ x. whole_of low x d) numbers.1
