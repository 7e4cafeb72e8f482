use Rattle.std.proofs.Common.{◌≡◌, drop}
use Rattle.data_types.specs.Alignment.{IsAlignment}
use Rattle.ctf_types.specs.Layout.{largest_align, struct_align}
use Rattle.ctf_types.proofs.alignment.align_of.Given as goal

abbrev pub invariant-loop-index : goal.invariant-loop-index
invariant-loop-index l = record {
  largest_of_rest : largest_align l.largest (drop l.index l.structure.members) ≡ struct_align l.structure;
  alignment : IsAlignment l.largest;
}
