-- The names of a script's streams: the first stream that a session would refuse by its name behind those before it.
use Rattle.std.specs.Prelude.{ℕ, suc, List, [], ◌∷◌, ◌++◌, Option, None, Some}
use Rattle.trace_stack.specs.declared.names.NameFault.{NameFault}
use Rattle.trace_stack.specs.StreamNames.{name_fault}

abbrev refused_here : ℕ → Option NameFault → Option (ℕ × NameFault) → Option (ℕ × NameFault)
refused_here i None later = later
refused_here i (Some fault) later = Some (i, fault)

-- of these names behind others, the first of them of index i: the first that is refused, and why
abbrev pub first_refused : List (List ℕ) → ℕ → List (List ℕ) → Option (ℕ × NameFault)
first_refused before i [] = None
first_refused before i (name ∷ names) = refused_here i (name_fault before name) (first_refused (before ++ name ∷ []) (suc i) names)
