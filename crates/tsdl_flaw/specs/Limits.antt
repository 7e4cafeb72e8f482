-- What passes a limit: the name of an entry behind as many as a list may have, an alignment, or a length in brackets. The front is what stands before the
-- place, and the piece what stands there.
use Rattle.std.specs.Prelude.{◌≡◌, ℕ, ◌+◌, ◌*◌, ◌<◌, ◌≤◌, ◌⊎◌, List, [], ◌∷◌, ◌++◌, Option, Some, None, length, max, codes}
use Rattle.std.specs.List.{flat_map}
use Rattle.ctf_types.specs.declared.limits.TheConstants.{LARGEST_ALIGN, MAX_ARRAYS, MAX_ELEMENTS, MAX_ENVIRONMENT, MAX_MEMBERS, MAX_RANGES}
use Rattle.tsdl_grammar.specs.declared.token.Mark.TheVariants as marks
use Rattle.tsdl_grammar.specs.declared.atom.Atom.{Atom}
use Rattle.tsdl_grammar.specs.declared.tree.Number.{Number}
use Rattle.tsdl_grammar.specs.declared.tree.Kind.{Kind}
use Rattle.tsdl_grammar.specs.declared.tree.Label.{Label}
use Rattle.tsdl_grammar.specs.declared.tree.Entry.{Entry}
use Rattle.tsdl_grammar.specs.declared.tree.NamedFact.{NamedFact}
use Rattle.tsdl_grammar.specs.declared.tree.MemberTree.{MemberTree}
use Rattle.tsdl_grammar.specs.declared.tree.Bracket.{Bracket}
use Rattle.tsdl_grammar.specs.declared.tree.Bracket.TheVariants as brackets
use Rattle.tsdl_grammar.specs.Spelling.{mark, word, number_toks, kind_toks, label_toks, entry_toks, next_entry_toks, named_fact_toks, member_toks, bracket_toks}
use Rattle.tsdl_grammar.specs.AttributeValues.{natural}
use Rattle.tsdl_flaw.specs.Fronts.{Ends}

-- the name of a member behind as many others as a structure may have
pub record IsMemberTooMany (front piece : List Atom) : Type 0 where
  pub members : List MemberTree
  pub kind : Kind
  pub name : List ℕ
  pub ends : Ends front (mark marks.OpenBrace ∷ flat_map member_toks members ++ kind_toks kind)
  pub many : MAX_MEMBERS ≤ length members
  pub here : piece ≡ word name ∷ []

-- the label of a range behind as many others as an enumeration may have
pub record IsRangeTooMany (front piece : List Atom) : Type 0 where
  pub first : Entry
  pub others : List Entry
  pub label : Label
  pub ends : Ends front (mark marks.OpenBrace ∷ entry_toks first ++ flat_map next_entry_toks others ++ mark marks.Comma ∷ [])
  pub many : MAX_RANGES ≤ 1 + length others
  pub here : piece ≡ label_toks label

-- the name of an environment's entry behind as many others as an environment may have
pub record IsFactTooMany (front piece : List Atom) : Type 0 where
  pub facts : List NamedFact
  pub name : List ℕ
  pub ends : Ends front (mark marks.OpenBrace ∷ flat_map named_fact_toks facts)
  pub many : MAX_ENVIRONMENT ≤ length facts
  pub here : piece ≡ word name ∷ []

-- an alignment above the largest one, behind `align =` or `align (`
pub record IsLargeAlignment (front piece : List Atom) : Type 0 where
  pub number : Number
  pub ends : Ends front (word (codes "align") ∷ mark marks.Equals ∷ []) ⊎ Ends front (word (codes "align") ∷ mark marks.OpenParenthesis ∷ [])
  pub large : LARGEST_ALIGN < number.literal
  pub here : piece ≡ number_toks number

-- how many numbers stand in brackets
abbrev pub depth : List Bracket → ℕ
depth [] = 0
depth (brackets.Count n ∷ bs) = 1 + depth bs
depth (brackets.Member w ∷ bs) = depth bs

-- by how much a length multiplies the elements: an array without any counts as one element
abbrev pub factor : Option ℕ → ℕ
factor None = 1
factor (Some n) = max n 1

-- how many elements an array of these lengths has, a length of 0 counted as 1
abbrev pub elements : List Bracket → ℕ
elements [] = 1
elements (brackets.Count n ∷ bs) = factor (natural n) * elements bs
elements (brackets.Member w ∷ bs) = elements bs

-- the length in a bracket that is one too many, one that makes too many elements, or one of a sequence's elements without bits
pub record IsLongLength (front piece : List Atom) : Type 0 where
  pub before : List Bracket
  pub number : Number
  pub n : ℕ
  pub ends : Ends front (flat_map bracket_toks before ++ mark marks.OpenBracket ∷ [])
  pub here : piece ≡ number_toks number
  pub value : natural number ≡ Some n
  pub passes : (MAX_ARRAYS ≤ depth before) ⊎ (MAX_ELEMENTS < elements before * max n 1) ⊎ ((n ≡ 0) × ((w : List ℕ) × (others : List Bracket) × (before ≡ brackets.Member w ∷ others)))

abbrev pub IsPassed : List Atom → List Atom → Type 0
IsPassed front piece =
    IsMemberTooMany front piece ⊎ IsRangeTooMany front piece ⊎ IsFactTooMany front piece ⊎ IsLargeAlignment front piece ⊎ IsLongLength front piece
