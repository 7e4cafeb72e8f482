use Rattle.std.proofs.Common.{◌≤◌, length, take}
use Rattle.std.specs.List.{count_by}
use Rattle.conf_fault.specs.Stop.{opens}
use Rattle.conf_fault.proofs.json_front.longest_front.Given as goal

-- as many brackets have opened at least as are to be closed
abbrev pub invariant-loop-at : goal.invariant-loop-at
invariant-loop-at l = length l.closing.items ≤ count_by opens (take l.at l.text)
