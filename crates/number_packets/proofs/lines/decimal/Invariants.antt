use Rattle.std.proofs.Common.{◌≡◌, ◌≤◌, take}
use Rattle.number_packets.specs.Lines.{decimal_after}
use Rattle.number_packets.proofs.lines.decimal.Given as goal

abbrev pub invariant-loop-digit : goal.invariant-loop-digit
invariant-loop-digit l = record {
  so_far : l.number ≡ decimal_after 0 (take l.digit-index l.line);
  none : l.digit-index ≤ 0 → l.number ≤ 0;
  one : l.digit-index ≤ 1 → l.number ≤ 9;
  two : l.digit-index ≤ 2 → l.number ≤ 99;
}
