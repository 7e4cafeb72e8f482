use Rattle.std.proofs.Common.{◌≡◌, drop}
use Rattle.ctf_types.specs.Faults.{field_fault, first_fault}
use Rattle.data_types.specs.FieldTypes.{chain_of}
use Rattle.data_types.specs.Values.{data_of}
use Rattle.ctf_types.proofs.fitting.+fits.Given as goal

abbrev pub invariant-elements_fit-loop-value : goal.invariant-elements_fit-loop-value
invariant-elements_fit-loop-value l =
    let fault = field_fault (chain_of l.element).leaf (chain_of l.element).lengths in
    first_fault fault (drop l.value-index (data_of l.value-items)) ≡ first_fault fault (data_of l.value-items)
