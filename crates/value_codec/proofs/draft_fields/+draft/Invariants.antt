-- The elements up to here are drafted: where the rest fits and lies from here on, all of them fit and lie.
-- A field is drafted by way of an array only where it is one, of elements that nest one array less.
use Rattle.std.proofs.Common.{◌≡◌, ◌+◌, ◌*◌, ◌≤◌, All, drop, length}
use Rattle.ctf_types.specs.FieldTypes.{chain_of}
use Rattle.ctf_types.specs.Fitting.{FieldFits}
use Rattle.ctf_types.specs.Values.{data_of}
use Rattle.value_codec.specs.Writing.{Writes, elements_end, ElementsLie}
use Rattle.value_codec.proofs.draft_fields.+draft.Given as goal

abbrev pub decreases-draft_field : goal.decreases-draft_field
decreases-draft_field l = 3 * length (chain_of l.field.now).lengths

abbrev pub decreases-draft_array : goal.decreases-draft_array
decreases-draft_array l = 3 * length (chain_of l.element.now).lengths + 2

abbrev pub decreases-draft_elements : goal.decreases-draft_elements
decreases-draft_elements l = 3 * length (chain_of l.element.now).lengths + 1

abbrev pub invariant-draft_elements-loop-value : goal.invariant-draft_elements-loop-value
invariant-draft_elements-loop-value l = record {
  fits : All (FieldFits (chain_of l.element).leaf (chain_of l.element).lengths) (data_of (drop l.value-index l.values))
      → All (FieldFits (chain_of l.element).leaf (chain_of l.element).lengths) (data_of l.values);
  position : elements_end l.element l.end (data_of (drop l.value-index l.values)) ≡ elements_end l.element l.at (data_of l.values);
  within : l.end ≤ 8 * length l.bytes;
  writes : Writes l.order
      (λ b pad. ElementsLie l.order b pad l.element l.end (data_of (drop l.value-index l.values)) → ElementsLie l.order b pad l.element l.at (data_of l.values))
      l.at l.end l.initial.bytes l.bytes;
}
