-- Keywords of TSDL for which nothing here has a use, among the atoms of a text.
use Rattle.std.specs.{Prelude.{◌≡◌, ℕ, true, List, Some, slice_get, bytes_eq}, List.list_any}
use Rattle.ctf_types.specs.Names.{unused_keywords}
use Rattle.tsdl_grammar.specs.declared.atom.Atom.{Atom}
use Rattle.tsdl_grammar.specs.declared.atom.Atom.TheVariants as atoms

-- such a keyword stands at a place
abbrev pub IsUnreadAt : List Atom → ℕ → Type 0
IsUnreadAt ts i = (w : List ℕ) × (slice_get ts i ≡ Some (atoms.Word w)) × (list_any (bytes_eq w) unused_keywords ≡ true)
