use Rattle.std.proofs.Common.{◌≡◌, ◌++◌, drop}
use Rattle.tsdl_meaning.specs.NotedBlocks.{names_in}
use Rattle.tsdl_meaning.proofs.judge.survey.add_names.Given as goal

abbrev pub invariant-loop-item : goal.invariant-loop-item
invariant-loop-item l = l.names ++ names_in (drop l.item-index l.items) ≡ l.fn.names ++ names_in l.items
