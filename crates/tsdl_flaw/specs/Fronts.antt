-- What stands before a place among the atoms of a text: its front.
use Rattle.std.specs.Prelude.{◌≡◌, List, ◌++◌}
use Rattle.tsdl_grammar.specs.declared.atom.Atom.{Atom}

-- these atoms stand right before the place
abbrev pub Ends : List Atom → List Atom → Type 0
Ends front toks = (others : List Atom) × (front ≡ others ++ toks)

-- these atoms stand somewhere before the place
abbrev pub Holds : List Atom → List Atom → Type 0
Holds front toks = (before : List Atom) × (behind : List Atom) × (front ≡ before ++ (toks ++ behind))
