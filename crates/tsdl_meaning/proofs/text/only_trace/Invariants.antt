use Rattle.std.proofs.Common.{◌≡◌, ◌++◌, drop, option_map}
use Rattle.tsdl_meaning.proofs.TextWords.{flat_map, listed, trace_in}
use Rattle.tsdl_meaning.proofs.text.only_trace.Given as goal

abbrev pub invariant-loop-block : goal.invariant-loop-block
invariant-loop-block l = listed (option_map (λ is. is.now) l.trace) ++ flat_map trace_in (drop l.block-index l.blocks) ≡ flat_map trace_in l.blocks
