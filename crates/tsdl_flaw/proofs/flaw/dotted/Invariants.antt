use Rattle.std.proofs.Common.{◌≡◌, ◌++◌, take, string_bytes}
use Rattle.std.specs.List.{flat_map}
use Rattle.tsdl_flaw.specs.Written.{with_dot}
use Rattle.tsdl_flaw.proofs.flaw.dotted.Given as goal

abbrev pub invariant-loop-word : goal.invariant-loop-word
invariant-loop-word l = string_bytes l.dotted ≡ l.name.first ++ flat_map with_dot (take l.word-index l.name.rest)
