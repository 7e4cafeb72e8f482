use Rattle.std.proofs.Common.{◌≡◌, drop}
use Rattle.tsdl_meaning.proofs.TextWords.{clock_meaning, each, flat_map, with_front}
use Rattle.tsdl_grammar.specs.Denotes.{clock_in}
use Rattle.tsdl_meaning.proofs.text.clocks_of.Given as goal

abbrev pub invariant-loop-block : goal.invariant-loop-block
invariant-loop-block l = with_front l.clocks (each clock_meaning (flat_map clock_in (drop l.block-index l.blocks))) ≡ each clock_meaning (flat_map clock_in l.blocks)
