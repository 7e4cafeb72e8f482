use Rattle.std.proofs.Common.{◌≡◌, ◌-◌, ◌^◌, ◌<◌, ◌≤◌}
use Rattle.ctf_types.specs.Bits.{bit_of, number_at}
use Rattle.bit_codec.proofs.get.get_by_bytes.Given as goal

abbrev pub decreases-loop-done : goal.decreases-loop-done
decreases-loop-done l = l.n - l.done

abbrev pub invariant-loop-done : goal.invariant-loop-done
invariant-loop-done l = record {
  some : 0 < l.done;
  within : l.done ≤ l.n;
  number : l.value ≡ number_at l.order (bit_of l.order l.bytes) l.at l.done;
  below : l.value < 2 ^ l.done;
}
