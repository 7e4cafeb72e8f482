-- What a fault says of the text that it stands in, by its kind: of the grammar and the meaning, and neither of the first line, nor of the tokens, nor want of
-- memory. The front is what stands before the fault, and the piece what is wrong there.
use Rattle.std.specs.Prelude.{◌≡◌, ℕ, ◌+◌, ◌⊎◌, List, [], ◌∷◌, ◌++◌, length, codes, string_bytes}
use Rattle.tsdl_grammar.specs.declared.token.Mark.TheVariants as marks
use Rattle.tsdl_grammar.specs.declared.atom.Atom.{Atom}
use Rattle.tsdl_grammar.specs.declared.tree.Name.{Name}
use Rattle.tsdl_grammar.specs.declared.tree.Number.{Number}
use Rattle.tsdl_grammar.specs.declared.fault.MetaFaultKind.{MetaFaultKind}
use Rattle.tsdl_grammar.specs.declared.fault.MetaFaultKind.TheVariants as faults
use Rattle.tsdl_grammar.specs.Spelling.{mark, word, name_toks, number_toks}
use Rattle.tsdl_grammar.specs.Halts.{IsHalt}
use Rattle.tsdl_flaw.specs.Written.{written}
use Rattle.tsdl_flaw.specs.Fronts.{Ends}
use Rattle.tsdl_flaw.specs.Twice.{IsTwice}
use Rattle.tsdl_flaw.specs.Limits.{IsPassed}
use Rattle.tsdl_flaw.specs.Misfits.{IsMisfit}
use Rattle.tsdl_flaw.specs.Unfinished.{IsUnfinished}

-- a name that is written so is spelled first
pub record IsSpelled (piece : List Atom) (name : List ℕ) : Type 0 where
  pub words : Name
  pub behind : List Atom
  pub here : piece ≡ name_toks words ++ behind
  pub same : name ≡ written words

-- a part of the version
abbrev pub IsPartOfVersion : List ℕ → Type 0
IsPartOfVersion name = (name ≡ codes "major") ⊎ (name ≡ codes "minor")

-- the number of the version's part of this name
pub record IsVersionPart (front piece : List Atom) (name : List ℕ) : Type 0 where
  pub part : IsPartOfVersion name
  pub number : Number
  pub ends : Ends front (word name ∷ mark marks.Equals ∷ [])
  pub here : piece ≡ number_toks number

abbrev pub IsUnsupported : List Atom → List Atom → List ℕ → Type 0
IsUnsupported front piece name = IsSpelled piece name ⊎ IsVersionPart front piece name

-- a word behind a bracket
abbrev pub IsBadLength : List Atom → List Atom → Type 0
IsBadLength front piece = Ends front (mark marks.OpenBracket ∷ []) × ((w : List ℕ) × (piece ≡ word w ∷ []))

abbrev pub IsWrong : List Atom → List Atom → MetaFaultKind → Type 0
IsWrong front piece faults.NoMagicLine = ⊥
IsWrong front piece faults.Token = ⊥
IsWrong front piece faults.OutOfMemory = ⊥
IsWrong front piece faults.Syntax = IsMisfit front piece
IsWrong front piece (faults.Unsupported name) = IsUnsupported front piece (string_bytes name)
IsWrong front piece faults.Duplicate = IsTwice front piece
IsWrong front piece faults.NoPacketSize = ⊥
IsWrong front piece faults.BadLength = IsBadLength front piece
IsWrong front piece faults.Limit = IsPassed front piece

-- a fault of this kind from the one place to the other, among atoms that stand behind a front
pub record IsFlaw (front toks : List Atom) (at to : ℕ) (kind : MetaFaultKind) : Type 0 where
  pub before : List Atom
  pub piece : List Atom
  pub behind : List Atom
  pub parts : toks ≡ before ++ (piece ++ behind)
  pub begins : at ≡ length before
  pub ends : to ≡ length before + length piece
  pub wrong : IsWrong (front ++ before) piece kind

-- something else than what is needed, among the atoms of a text or where it ends
abbrev pub IsMisfitAt : List Atom → ℕ → Type 0
IsMisfitAt text at = ((to : ℕ) × IsFlaw [] text at to faults.Syntax) ⊎ ((at ≡ length text) × IsUnfinished text)

-- a fault of a whole text: its atoms stop spelling blocks, or a flaw stands among them, or something is missed where it ends, as the sizes of a stream's packets are
abbrev pub FaultStands : List Atom → ℕ → MetaFaultKind → Type 0
FaultStands text at faults.NoMagicLine = ⊥
FaultStands text at faults.Token = ⊥
FaultStands text at faults.OutOfMemory = ⊥
FaultStands text at faults.Syntax = IsHalt text at ⊎ IsMisfitAt text at
FaultStands text at (faults.Unsupported name) = (to : ℕ) × IsFlaw [] text at to (faults.Unsupported name)
FaultStands text at faults.Duplicate = (to : ℕ) × IsFlaw [] text at to faults.Duplicate
FaultStands text at faults.NoPacketSize = at ≡ length text
FaultStands text at faults.BadLength = (to : ℕ) × IsFlaw [] text at to faults.BadLength
FaultStands text at faults.Limit = (to : ℕ) × IsFlaw [] text at to faults.Limit
