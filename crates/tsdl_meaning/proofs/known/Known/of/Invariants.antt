use Rattle.std.proofs.Common.{◌≡◌, map, take}
use Rattle.tsdl_meaning.proofs.known.Known.of.Given as goal

abbrev pub invariant-loop-clock : goal.invariant-loop-clock
invariant-loop-clock l = l.names ≡ map (λ c. c.name) (take l.clock-index l.clocks)
