use Rattle.tsdl_writer.proofs.Printing.{All, IsHeldClock, clock_block, drop, map, take, text_toks, Leaves}
use Rattle.tsdl_writer.proofs.metadata.clocks.Given as goal

abbrev pub invariant-loop-one : goal.invariant-loop-one
invariant-loop-one l = record {
  prints : Leaves l.initial.out l.out (text_toks (map clock_block l.clocks)) (text_toks (map clock_block (drop l.one-index l.clocks)));
  held : All IsHeldClock (take l.one-index l.clocks);
}
