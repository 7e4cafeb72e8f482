use Rattle.std.proofs.Common.{◌≡◌, ◌≤◌, ◌^◌, drop}
use Rattle.data_types.specs.Alignment.{up}
use Rattle.data_types.specs.FieldTypes.{chain_of}
use Rattle.ctf_types.specs.Layout.{end_all, field_end, leaf_align}
use Rattle.data_types.specs.Values.{data_of}
use Rattle.ctf_types.proofs.size.+size.Given as goal

abbrev pub invariant-array_size-loop-inner : goal.invariant-array_size-loop-inner
invariant-array_size-loop-inner l =
    let ends = field_end (chain_of l.element).leaf (chain_of l.element).lengths in
    record {
      end_of_rest : end_all ends l.end (drop l.inner-index (data_of l.inner-items)) ≡ end_all ends (up l.at (leaf_align (chain_of l.element).leaf)) (data_of l.inner-items);
      within : l.end ≤ 2 ^ 23;
    }
