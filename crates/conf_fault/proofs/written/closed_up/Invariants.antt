use Rattle.std.proofs.Common.{◌≡◌, ◌++◌, drop, length, string_bytes}
use Rattle.std.proofs.Math.Utf8.{encodes}
use Rattle.std.specs.Str.{chars}
use Rattle.conf_fault.specs.declared.written.Within.TheVariants.{Between}
use Rattle.conf_fault.specs.Written.{all_kept}
use Rattle.conf_fault.proofs.written.closed_up.Given as goal

-- what is kept of the characters so far, and of those that are left, is what is kept of all
abbrev pub invariant-loop-character : goal.invariant-loop-character
invariant-loop-character l = string_bytes l.words ++ encodes (all_kept l.within (drop (length l.yielded) (chars l.value))) ≡ encodes (all_kept Between (chars l.value))
