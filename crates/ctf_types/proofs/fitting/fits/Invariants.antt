use Rattle.std.proofs.Common.{◌≡◌, drop}
use Rattle.ctf_types.specs.Faults.{members_fault}
use Rattle.data_types.specs.Values.{data_of}
use Rattle.ctf_types.proofs.fitting.fits.Given as goal

abbrev pub invariant-loop-index : goal.invariant-loop-index
invariant-loop-index l = members_fault (drop l.index l.structure.members) (drop l.index (data_of l.values)) ≡ members_fault l.structure.members (data_of l.values)
