-- What stands before a place where a tree is judged.
use Rattle.std.specs.Prelude.{◌≡◌, ℕ, ◌⊎◌, Bool, true, false, List, [], ◌∷◌, codes}
use Rattle.std.specs.BTreeSet.{BTreeSet}
use Rattle.std.specs.declared.string.String.{String}
use Rattle.std.specs.declared.alloc.Global.{Global}
use Rattle.tsdl_grammar.specs.declared.token.Mark.TheVariants as marks
use Rattle.tsdl_grammar.specs.declared.atom.Atom.{Atom}
use Rattle.tsdl_grammar.specs.declared.tree.Number.{Number}
use Rattle.tsdl_grammar.specs.declared.tree.Item.{Item}
use Rattle.tsdl_grammar.specs.declared.tree.Value.{Value}
use Rattle.tsdl_grammar.specs.declared.tree.Value.TheVariants as values
use Rattle.tsdl_grammar.specs.Spelling.{mark, word, number_toks}
use Rattle.tsdl_flaw.specs.Fronts.{Ends}
use Rattle.tsdl_flaw.specs.Twice.{begun}
use Rattle.tsdl_flaw.specs.Asked.{is_alignment}
use Rattle.tsdl_flaw.specs.Misfits.{IsMisfit}
use Rattle.tsdl_meaning.specs.NamesBefore.{AreNamed}

-- `align =` or `align (` stands right before the place
abbrev pub IsBehindAlign : List Atom → Type 0
IsBehindAlign front = Ends front (word (codes "align") ∷ mark marks.Equals ∷ []) ⊎ Ends front (word (codes "align") ∷ mark marks.OpenParenthesis ∷ [])

-- and what follows is a misfit unless it is an alignment
abbrev pub AsksAlignment : Number → List Atom → Type 0
AsksAlignment n front = IsBehindAlign front × (is_alignment (values.Number n) ≡ false → IsMisfit front (number_toks n))

-- a type of this word is begun with attributes that have these names
pub record IsTypeBegun (w : List ℕ) (names : BTreeSet (String Global)) (front : List Atom) : Type 0 where
  pub items : List Item
  pub ends : Ends front (begun w items)
  pub named : AreNamed front marks.Equals names

abbrev pub is_name : Value → Bool
is_name (values.Name n) = true
is_name _ = false

-- `{` stands right before the place
abbrev pub IsBehindBrace : List Atom → Type 0
IsBehindBrace front = Ends front (mark marks.OpenBrace ∷ [])
