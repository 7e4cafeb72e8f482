use Rattle.std.proofs.Common.{◌≡◌, ◌+◌, ◌-◌, ◌*◌, ◌≤◌, length}
use Rattle.ctf_types.specs.Bits.{bit_of}
use Rattle.ctf_types.specs.FieldTypes.{chain_of}
use Rattle.ctf_types.specs.Values.{data_of}
use Rattle.value_codec.specs.Reading.{field_at, many_at}
use Rattle.value_codec.proofs.ReadingRest.{after}
use Rattle.value_codec.proofs.read_field.+read.Given as goal

abbrev pub invariant-read_elements-loop-index : goal.invariant-read_elements-loop-index
invariant-read_elements-loop-index l =
    let read = field_at l.order (bit_of l.order l.bytes) l.limit (chain_of l.element).leaf (chain_of l.element).lengths in
    record {
      read_so_far : many_at read l.count l.at ≡ after (data_of l.values.items) (many_at read (l.count - l._index) l.place);
      within : l.place ≤ l.limit;
    }

abbrev pub decreases-read_field : goal.decreases-read_field
decreases-read_field l = 3 * length (chain_of l.field.now).lengths

abbrev pub decreases-read_array : goal.decreases-read_array
decreases-read_array l = 3 * length (chain_of l.element.now).lengths + 2

abbrev pub decreases-read_elements : goal.decreases-read_elements
decreases-read_elements l = 3 * length (chain_of l.element.now).lengths + 1
