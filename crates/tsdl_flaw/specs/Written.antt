-- A name as people write it.
use Rattle.std.specs.Prelude.{ℕ, List, ◌∷◌, ◌++◌}
use Rattle.std.specs.List.{flat_map}
use Rattle.tsdl_grammar.specs.declared.tree.Name.{Name}

-- a word behind a dot
abbrev pub with_dot : List ℕ → List ℕ
with_dot w = 46 ∷ w

-- its words with dots between them
abbrev pub written : Name → List ℕ
written n = n.first ++ flat_map with_dot n.rest
