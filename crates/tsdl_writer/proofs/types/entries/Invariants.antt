use Rattle.tsdl_writer.proofs.Printing.{drop, entry_tree, flat_map, map, next_entry_toks, Leaves}
use Rattle.tsdl_writer.proofs.types.entries.Given as goal

abbrev pub invariant-loop-mapping : goal.invariant-loop-mapping
invariant-loop-mapping l = Leaves l.initial.out l.out (flat_map next_entry_toks (map entry_tree l.others)) (flat_map next_entry_toks (map entry_tree (drop l.mapping-index l.others)))
