use Rattle.std.proofs.Common.{◌≡◌, ◌++◌, drop, option_map}
use Rattle.tsdl_meaning.proofs.TextWords.{environment_in, flat_map, listed}
use Rattle.tsdl_meaning.proofs.text.facts_of.Given as goal

abbrev pub invariant-loop-block : goal.invariant-loop-block
invariant-loop-block l = listed (option_map (λ fs. fs.now) l.environment) ++ flat_map environment_in (drop l.block-index l.blocks) ≡ flat_map environment_in l.blocks
