use Rattle.std.proofs.Common.{◌≡◌, ◌++◌, ◌≤◌, length, string_bytes}
use Rattle.std.proofs.Math.Utf8.{encodes}
use Rattle.conf_fault.specs.declared.shown.TheConstants.{MOST_CHARACTERS}
use Rattle.conf_fault.proofs.shown.push_cut.Given as goal

abbrev pub invariant-loop-character : goal.invariant-loop-character
invariant-loop-character l = record {
  counted : l.count ≡ length l.yielded;
  few : l.count ≤ MOST_CHARACTERS;
  said : string_bytes l.said ≡ string_bytes l.fn.said ++ encodes l.yielded;
}
