use Rattle.std.proofs.Common.{take}
use Rattle.std.specs.{Fmt.{HasWritten, IsPlainFormatter}, List.flat_map}
use Rattle.conf_tree.specs.OneLine.{escaped_byte}
use Rattle.conf_tree.proofs.one_line.write_escaped.Given as goal

abbrev pub invariant-loop-byte : goal.invariant-loop-byte
invariant-loop-byte g l =
    IsPlainFormatter l.fn.f → HasWritten g.W.Write.write_str_gives l.fn.f (flat_map escaped_byte (take l.byte-index l.byte-items)) l.f
