use Rattle.std.proofs.Common.{◌≡◌, ◌≤◌, ◌^◌, drop}
use Rattle.ctf_types.specs.Layout.{members_end}
use Rattle.data_types.specs.Values.{data_of}
use Rattle.ctf_types.proofs.size.members_size.Given as goal

abbrev pub invariant-loop-value : goal.invariant-loop-value
invariant-loop-value l = record {
  end_of_rest : members_end (drop l.index l.structure.members) l.end (drop l.value-index (data_of l.values)) ≡ members_end (drop l.from l.structure.members) l.at (data_of l.values);
  within : l.end ≤ 2 ^ 23;
}
