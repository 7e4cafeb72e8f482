use Rattle.std.proofs.Common.{◌≡◌, drop}
use Rattle.conf_values.specs.Scalar.{is_printable}
use Rattle.conf_values.proofs.scalar.is_printable.Given as goal

-- the bytes that are left are printable where all of them are
abbrev pub invariant-loop-byte : goal.invariant-loop-byte
invariant-loop-byte l = is_printable l.text ≡ is_printable (drop l.byte-index l.text)
