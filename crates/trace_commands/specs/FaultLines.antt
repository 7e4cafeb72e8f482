-- The line of what is said of a file. What others wrote stays on it, and reaches no terminal as a command.
use Rattle.std.specs.Prelude.{◌≡◌, ℕ, List, [], ◌∷◌, ◌++◌, codes}
use Rattle.conf_fault.specs.Shown.{shown}

-- the program, the file, and what is said of it
abbrev pub fault_line : List ℕ → List ℕ → List ℕ
fault_line file said = codes "ctftrace: " ++ shown file ++ codes ": " ++ shown said ++ 10 ∷ []

-- a line of a fault in this file
abbrev pub IsFaultLine : List ℕ → List ℕ → Type 0
IsFaultLine file line = (said : List ℕ) × (line ≡ fault_line file said)
