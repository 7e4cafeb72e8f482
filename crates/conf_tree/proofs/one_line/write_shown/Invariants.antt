use Rattle.std.specs.{Fmt.{HasWritten, IsPlainFormatter}, List.flat_map}
use Rattle.conf_tree.specs.OneLine.{shown_character}
use Rattle.conf_tree.proofs.one_line.write_shown.Given as goal

abbrev pub invariant-loop-character : goal.invariant-loop-character
invariant-loop-character g l =
    IsPlainFormatter l.fn.f → HasWritten g.W.Write.write_str_gives l.fn.f (flat_map shown_character l.yielded) l.f
