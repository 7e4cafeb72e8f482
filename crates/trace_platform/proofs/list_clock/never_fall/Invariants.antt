use Rattle.std.proofs.Common.{◌↔◌, drop}
use Rattle.ctf_types.specs.Packets.{NeverFall}
use Rattle.trace_platform.proofs.list_clock.never_fall.Given as goal

abbrev pub invariant-loop-reading : goal.invariant-loop-reading
invariant-loop-reading l = NeverFall 0 l.readings ↔ NeverFall l.last (drop l.reading-index l.readings)
