-- Where the atoms of a text stop spelling blocks: those before the place can go on as blocks, and with what stands there they cannot.
use Rattle.std.specs.Prelude.{◌≡◌, ℕ, true, List, [], ◌∷◌, ◌++◌, length}
use Rattle.std.specs.List.{list_all}
use Rattle.tsdl_grammar.specs.declared.atom.Atom.{Atom}
use Rattle.tsdl_grammar.specs.declared.tree.Block.{Block}
use Rattle.tsdl_grammar.specs.Spelling.{text_toks}
use Rattle.tsdl_grammar.specs.Denotes.{is_read}

-- the atoms of some blocks begin so
abbrev pub GoesOn : List Atom → Type 0
GoesOn front = (bs : List Block) × ((later : List Atom) × (text_toks bs ≡ front ++ later))

-- no blocks that are read begin so and go on with the first of these atoms; where there is none, what stands before is no blocks
abbrev pub IsStuck : List Atom → List Atom → Type 0
IsStuck front [] = (bs : List Block) → text_toks bs ≡ front → ⊥
IsStuck front (a ∷ behind) = list_all is_read (front ++ a ∷ []) ≡ true → GoesOn (front ++ a ∷ []) → ⊥

-- the atoms stop spelling blocks at this place, which is at their end where more is missing
pub record IsHalt (toks : List Atom) (at : ℕ) : Type 0 where
  pub before : List Atom
  pub behind : List Atom
  pub parts : toks ≡ before ++ behind
  pub place : at ≡ length before
  pub goes_on : GoesOn before
  pub stuck : IsStuck before behind
