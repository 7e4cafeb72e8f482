use Rattle.std.proofs.Common.{◌≡◌, ◌+◌, ◌-◌, ◌≤◌}
use Rattle.ctf_types.specs.Bits.{bit_of, number_at, SameOutside}
use Rattle.bit_codec.specs.Place.{part_of}
use Rattle.bit_codec.proofs.put.put_by_bytes.Given as goal

abbrev pub decreases-loop-done : goal.decreases-loop-done
decreases-loop-done l = l.n - l.done

abbrev pub invariant-loop-done : goal.invariant-loop-done
invariant-loop-done l = record {
  within : l.done ≤ l.n;
  number : number_at l.order (bit_of l.order l.bytes) l.at l.done ≡ part_of l.order l.value l.n 0 l.done;
  others : SameOutside (bit_of l.order l.bytes) (bit_of l.order l.initial.bytes) l.at (l.at + l.done);
}
