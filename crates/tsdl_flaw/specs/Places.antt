-- Places among the atoms of a text.
use Rattle.std.specs.Prelude.{◌≡◌, ℕ, ◌+◌, ◌≤◌, List, length}
use Rattle.tsdl_grammar.specs.declared.atom.Atom.{Atom}
use Rattle.tsdl_flaw.specs.Lengths.{most}

-- the place behind these atoms, of which the first has this index, where each of them has one
abbrev pub StandsBehind : ℕ → List Atom → ℕ → Type 0
StandsBehind at toks place = at + length toks ≤ most → place ≡ at + length toks
