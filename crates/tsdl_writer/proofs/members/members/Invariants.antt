use Rattle.tsdl_writer.proofs.Printing.{drop, flat_map, member_toks_of, Leaves}
use Rattle.tsdl_writer.proofs.members.members.Given as goal

abbrev pub invariant-loop-index : goal.invariant-loop-index
invariant-loop-index l = Leaves l.initial.out l.out (flat_map member_toks_of l.members) (flat_map member_toks_of (drop l.index l.members))
