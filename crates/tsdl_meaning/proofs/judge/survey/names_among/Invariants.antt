use Rattle.std.proofs.Common.{◌≡◌, ◌++◌, drop}
use Rattle.tsdl_meaning.proofs.TextWords.{flat_map}
use Rattle.tsdl_grammar.specs.Denotes.{clock_in}
use Rattle.tsdl_meaning.specs.NotedBlocks.{names_in}
use Rattle.tsdl_meaning.proofs.judge.survey.names_among.Given as goal

abbrev pub invariant-loop-block : goal.invariant-loop-block
invariant-loop-block l = l.names ++ flat_map names_in (flat_map clock_in (drop l.block-index l.blocks)) ≡ flat_map names_in (flat_map clock_in l.blocks)
