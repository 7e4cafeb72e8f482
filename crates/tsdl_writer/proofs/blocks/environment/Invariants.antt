use Rattle.tsdl_writer.proofs.Printing.{All, IsHeldValue, drop, flat_map, map, named_fact_toks, named_fact_tree, take, Leaves}
use Rattle.tsdl_writer.proofs.blocks.environment.Given as goal

abbrev pub invariant-loop-entry : goal.invariant-loop-entry
invariant-loop-entry l = record {
  prints : Leaves l.initial.out l.out (flat_map named_fact_toks (map named_fact_tree l.entries)) (flat_map named_fact_toks (map named_fact_tree (drop l.entry-index l.entries)));
  held : All (λ e. IsHeldValue e.value) (take l.entry-index l.entries);
}
