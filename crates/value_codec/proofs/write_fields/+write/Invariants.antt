-- The elements up to here are written: what lies from here on, as the rest of the elements, makes all of them lie there.
-- A field is written by way of an array only where it is one, of elements that nest one array less.
use Rattle.std.proofs.Common.{◌≡◌, ◌+◌, ◌*◌, drop, length}
use Rattle.ctf_types.specs.FieldTypes.{chain_of}
use Rattle.ctf_types.specs.Values.{data_of}
use Rattle.value_codec.specs.Writing.{Writes, elements_end, ElementsLie}
use Rattle.value_codec.proofs.write_fields.+write.Given as goal

abbrev pub decreases-write_field : goal.decreases-write_field
decreases-write_field l = 3 * length (chain_of l.field.now).lengths

abbrev pub decreases-write_array : goal.decreases-write_array
decreases-write_array l = 3 * length (chain_of l.element.now).lengths + 2

abbrev pub decreases-write_elements : goal.decreases-write_elements
decreases-write_elements l = 3 * length (chain_of l.element.now).lengths + 1

abbrev pub invariant-write_elements-loop-value : goal.invariant-write_elements-loop-value
invariant-write_elements-loop-value l = record {
  position : elements_end l.element l.end (data_of (drop l.value-index l.values)) ≡ elements_end l.element l.at (data_of l.values);
  writes : Writes l.order
      (λ b pad. ElementsLie l.order b pad l.element l.end (data_of (drop l.value-index l.values)) → ElementsLie l.order b pad l.element l.at (data_of l.values))
      l.at l.end l.initial.bytes l.bytes;
}
