use Rattle.std.proofs.Common.{◌≡◌, ◌++◌, take, string_bytes}
use Rattle.std.specs.List.{flat_map}
use Rattle.conf_fault.specs.Explanation.{further_step}
use Rattle.conf_fault.proofs.explanation.push_path.Given as goal

abbrev pub invariant-loop-step : goal.invariant-loop-step
invariant-loop-step l = string_bytes l.said ≡ string_bytes l.initial.said ++ flat_map further_step (take l.step-index l.others)
