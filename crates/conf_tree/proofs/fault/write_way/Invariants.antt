use Rattle.std.proofs.Common.{◌≡◌, ℕ, List, ◌++◌, codes, drop, map}
use Rattle.std.specs.{Fmt.{HasWritten, IsPlainFormatter}, List.flat_map}
use Rattle.conf_tree.specs.{FaultWords.{further_place, way_words}, Flaw.place_of}
use Rattle.conf_tree.proofs.fault.write_way.Given as goal

abbrev pub invariant-loop-step : goal.invariant-loop-step
invariant-loop-step g l =
    IsPlainFormatter l.fn.f
    → (done : List ℕ) × HasWritten g.W.Write.write_str_gives l.fn.f done l.f
    × (done ++ (flat_map further_place (map place_of (drop l.step-index l.others)) ++ codes ": ") ≡ way_words (map place_of l.fn.path))
