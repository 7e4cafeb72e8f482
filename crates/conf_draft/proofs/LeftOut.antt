-- What is left out is what the rows of the table say.
use Rattle.std.proofs.Common.{◌≡◌, ℕ, Some, None, true, refl, sym, ap, ◌∙◌}
use Rattle.std.specs.Prelude.{codes, option_and_then, unwrap_or}
use Rattle.serde_json.specs.Data.{Members}
use Rattle.ctf_types.specs.declared.Base.TheVariants.{Dec}
use Rattle.conf_table.specs.declared.place.Place.{Place}
use Rattle.conf_table.specs.declared.place.Place.TheVariants as places
use Rattle.conf_table.specs.Table.{presence_under, rows_of}
use Rattle.conf_values.specs.Words.{word_in, base_words}
use Rattle.conf_draft.specs.declared.defaults.Given.{Given}
use Rattle.conf_draft.specs.Alignments.{alignment}
use Rattle.conf_draft.specs.Defaults.{IsIntegerPlace, alignment_told, base_told, default_number, is_on}
use Rattle.conf_draft.specs.Integers.{align_of, base_of, default_align, size_of}
use Rattle.conf_draft.specs.Lookups.{word}

-- ---- integers and enumerations

told_alignment : (place : Place) (size : ℕ) → IsIntegerPlace place → alignment_told size (presence_under place (codes "alignment")) ≡ Some (default_align size)
unfolding presence_under rows_of
told_alignment places.UnsignedInteger size is = refl
told_alignment places.SignedInteger size is = refl
told_alignment places.UnsignedEnumeration size is = refl
told_alignment places.SignedEnumeration size is = refl
told_alignment _ size is = absurd is

pub alignment_by_row : (place : Place) (ms : Members) → IsIntegerPlace place → alignment (codes "alignment") ms ≡ None → alignment_told (size_of ms) (presence_under place (codes "alignment")) ≡ Some (align_of ms)
unfolding align_of
alignment_by_row place ms is none = told_alignment place (size_of ms) is ∙ ap (λ o. Some (unwrap_or o (default_align (size_of ms)))) (sym none)

told_base : (place : Place) → IsIntegerPlace place → base_told (presence_under place (codes "preferred-display-base")) ≡ Some Dec
unfolding presence_under rows_of
told_base places.UnsignedInteger is = refl
told_base places.SignedInteger is = refl
told_base places.UnsignedEnumeration is = refl
told_base places.SignedEnumeration is = refl
told_base _ is = absurd is

pub base_by_row : (place : Place) (ms : Members) → IsIntegerPlace place → word (codes "preferred-display-base") ms ≡ None → base_told (presence_under place (codes "preferred-display-base")) ≡ Some (base_of ms)
unfolding base_of
base_by_row place ms is none = told_base place is ∙ ap (λ o. Some (unwrap_or (option_and_then (word_in base_words) o) Dec)) (sym none)

-- ---- sizes of packets

pub size_by_row : (given : Given) → (is_on places.PacketFeatures (codes "total-size-field-type") given ≡ true) × (is_on places.PacketFeatures (codes "content-size-field-type") given ≡ true)
unfolding presence_under rows_of
size_by_row given = (refl, refl)

-- ---- clocks

pub no_seconds : default_number places.ClockOffset (codes "seconds") ≡ 0
unfolding presence_under rows_of
no_seconds = refl
