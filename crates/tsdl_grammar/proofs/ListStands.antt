-- The magic line, blanks, and one item after the other at the front of bytes.
use Rattle.std.proofs.Common.{◌≡◌, ℕ, true, List, [], ◌∷◌, ◌++◌, refl}
use Rattle.std.specs.List.{list_all}
use Rattle.tsdl_grammar.specs.declared.piece.Piece.TheVariants as pieces
use Rattle.tsdl_grammar.specs.declared.atom.Atom.{Atom}
use Rattle.tsdl_grammar.specs.{Bytes.is_blank, Tokens.magic_line, Atoms.Spells}
use Rattle.tsdl_grammar.specs.Pieces.{piece_at, comment_at}
use Rattle.tsdl_grammar.proofs.{Runs.and_true, WordStands.blank, Continuation.piece}

-- the magic line in front changes nothing
pub magic : (rest : List ℕ) (meant : List Atom) → Spells rest meant → Spells (magic_line ++ rest) meant
unfolding piece_at comment_at
magic rest meant s = piece pieces.Comment magic_line rest meant refl s

-- blanks in front change nothing
pub blanks : (bs rest : List ℕ) (meant : List Atom) → list_all is_blank bs ≡ true → Spells rest meant → Spells (bs ++ rest) meant
blanks [] rest meant h s = s
blanks (b ∷ bs) rest meant h s = let both = and_true (is_blank b) (list_all is_blank bs) h in blank b (bs ++ rest) meant both.0 (blanks bs rest meant both.1 s)
