-- How many atoms there are, where they can be counted.
use Rattle.std.specs.Prelude.{◌≡◌, ℕ, ◌-◌, ◌^◌, ◌≤◌, List, length}
use Rattle.tsdl_grammar.specs.declared.atom.Atom.{Atom}

-- the largest index
abbrev pub most : ℕ
most = 2 ^ 64 - 1

-- so many atoms, unless there are more than can be counted
abbrev pub HasLength : List Atom → ℕ → Type 0
HasLength toks n = length toks ≤ most → n ≡ length toks
