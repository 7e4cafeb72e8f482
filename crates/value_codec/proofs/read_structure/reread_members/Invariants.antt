use Rattle.std.proofs.Common.{◌≡◌, ◌≤◌, [], length, take, drop}
use Rattle.ctf_types.specs.Bits.{bit_of}
use Rattle.ctf_types.specs.Values.{data_of}
use Rattle.value_codec.specs.Reading.{members_at}
use Rattle.value_codec.proofs.ReadingRest.{after}
use Rattle.value_codec.proofs.read_structure.reread_members.Given as goal

abbrev pub invariant-loop-i : goal.invariant-loop-i
invariant-loop-i l =
    let values = data_of (take l.i l.places) in
    record {
      read_so_far : members_at l.order (bit_of l.order l.bytes) l.limit [] l.s.members l.at ≡ after values (members_at l.order (bit_of l.order l.bytes) l.limit values (drop l.i l.s.members) l.place);
      count : length l.places ≡ length l.s.members;
      within : l.place ≤ l.limit;
    }
