use Rattle.std.proofs.Common.{◌≡◌, ◌++◌, ◌∷◌, ℕ, take, string_bytes, codes}
use Rattle.std.specs.List.{flat_map}
use Rattle.std.specs.Fmt.{decimal}
use Rattle.number_packets.proofs.printed.print_values.Given as goal

abbrev pub invariant-loop-value : goal.invariant-loop-value
invariant-loop-value l =
    string_bytes l.output ≡ string_bytes l.fn.output ++ codes "read:" ++ flat_map (λ (v : ℕ). 32 ∷ decimal v) (take l.value-index l.values)
