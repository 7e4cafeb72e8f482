use Rattle.std.proofs.Common.{◌≡◌, map, length}
use Rattle.trace_text.specs.ScriptObjects.{is_among, told_of}
use Rattle.trace_text.proofs.script_object.is_among.Given as goal

-- one of what is left has the name where one of all has it
abbrev pub invariant-loop-rest : goal.invariant-loop-rest
invariant-loop-rest l = is_among l.name (map told_of l.rest) ≡ is_among l.name (map told_of l.properties)

abbrev pub decreases-loop-rest : goal.decreases-loop-rest
decreases-loop-rest l = length l.rest
