use Rattle.std.proofs.Common.{◌≡◌, ◌≤◌, ◌+◌, length}
use Rattle.number_packets.specs.Lines.{lines_of, joined, numbers_from, numbers_in}
use Rattle.number_packets.proofs.lines.read_numbers.Given as goal

abbrev pub invariant-loop-rest : goal.invariant-loop-rest
invariant-loop-rest l = record {
  found : numbers_in l.text ≡ joined l.numbers.items (numbers_from l.place (lines_of l.rest));
  counted : l.place + length l.rest ≤ length l.text + 1;
}

abbrev pub decreases-loop-rest : goal.decreases-loop-rest
decreases-loop-rest l = length l.rest
