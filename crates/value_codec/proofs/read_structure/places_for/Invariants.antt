use Rattle.std.proofs.Common.{◌≡◌, length}
use Rattle.value_codec.proofs.read_structure.places_for.Given as goal

abbrev pub invariant-loop-index : goal.invariant-loop-index
invariant-loop-index l = length l.places.items ≡ l._index
