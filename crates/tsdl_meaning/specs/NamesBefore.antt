-- Names in a set, and the items before a place that have them, each name with a mark behind it.
use Rattle.std.specs.Prelude.{◌≡◌, ℕ, true, List, ◌∷◌, map}
use Rattle.std.specs.List.{Contains, flat_map, list_any}
use Rattle.std.specs.Str.{bytes_eq}
use Rattle.std.specs.BTreeSet.{BTreeSet, contains_text}
use Rattle.std.specs.declared.string.String.{String}
use Rattle.std.specs.declared.alloc.Global.{Global}
use Rattle.tsdl_grammar.specs.declared.token.Mark.{Mark}
use Rattle.tsdl_grammar.specs.declared.token.Mark.TheVariants as marks
use Rattle.tsdl_grammar.specs.declared.atom.Atom.{Atom}
use Rattle.tsdl_grammar.specs.declared.tree.Name.{Name}
use Rattle.tsdl_grammar.specs.declared.tree.Item.{Item}
use Rattle.tsdl_grammar.specs.Spelling.{mark, item_toks}
use Rattle.tsdl_flaw.specs.Fronts.{Ends}
use Rattle.tsdl_flaw.specs.Twice.{heading}
use Rattle.tsdl_flaw.specs.Written.{written}

-- the set has these names and no other
abbrev pub HasNames : BTreeSet (String Global) → List (List ℕ) → Type 0
HasNames names all = (w : List ℕ) → contains_text names w ≡ list_any (bytes_eq w) all

-- one of the items has the name that is written so, with the mark
abbrev pub IsNamed : List Item → Mark → List ℕ → Type 0
IsNamed is m w = (other : Name) × (written other ≡ w) × Contains (map heading is) (other, m)

-- items and their opening brace stand right before the place, and each of the names is one of theirs, with the mark
pub record AreNamed (front : List Atom) (m : Mark) (names : BTreeSet (String Global)) : Type 0 where
  pub items : List Item
  pub ends : Ends front (mark marks.OpenBrace ∷ flat_map item_toks items)
  pub known : (w : List ℕ) → contains_text names w ≡ true → IsNamed items m w
