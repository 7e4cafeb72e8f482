-- A mark at the front of bytes, and what may follow it: no `=` behind `:`, and no `.` behind `.`.
use Rattle.std.proofs.Common.{◌≡◌, ℕ, false, eqb, List, [], ◌∷◌, get_or, Some, refl, ◌∙◌, option_map}
use Rattle.std.specs.Char.{is_ascii_digit}
use Rattle.tsdl_grammar.specs.{declared.token.Mark.Mark, declared.atom.Atom.Atom}
use Rattle.tsdl_grammar.specs.declared.token.Mark.TheVariants as marks
use Rattle.tsdl_grammar.specs.declared.token.TokenKind.TheVariants as kinds
use Rattle.tsdl_grammar.specs.declared.piece.Piece.TheVariants as pieces
use Rattle.tsdl_grammar.specs.declared.atom.Atom.TheVariants as atoms
use Rattle.tsdl_grammar.specs.{Bytes.{is_blank, is_name_start}, Atoms.Spells}
use Rattle.tsdl_grammar.specs.Pieces.{piece_at, mark_at, mark_cut, one_byte_mark}
use Rattle.tsdl_grammar.proofs.Continuation.{piece}

-- a byte that begins a mark
record BeginsMark (b : ℕ) : Type 0 where
  blank : is_blank b ≡ false
  start : is_name_start b ≡ false
  digit : is_ascii_digit b ≡ false
  quote : eqb b 34 ≡ false
  slash : eqb b 47 ≡ false

at_front : (b : ℕ) (rest : List ℕ) → BeginsMark b → piece_at (b ∷ rest) ≡ mark_at b rest
unfolding piece_at
at_front b rest h = rw (h.blank, h.start, h.digit, h.quote, h.slash) refl

alone : (b : ℕ) (rest : List ℕ) → eqb b 58 ≡ false → eqb b 46 ≡ false → mark_at b rest ≡ option_map (λ m. mark_cut m 1) (one_byte_mark b)
unfolding mark_at
alone b [] c d = refl
alone b (x ∷ []) c d = rw c refl
alone b (x ∷ y ∷ rest) c d = rw (c, d) refl

single : (b : ℕ) (m : Mark) (rest : List ℕ) (meant : List Atom) → BeginsMark b → mark_at b rest ≡ Some (mark_cut m 1) → Spells rest meant → Spells (b ∷ rest) (atoms.Mark m ∷ meant)
single b m rest meant h e s = piece (pieces.Token (kinds.Mark m)) (b ∷ []) rest meant (at_front b rest h ∙ e) s

pub open_brace : (rest : List ℕ) (meant : List Atom) → Spells rest meant → Spells (123 ∷ rest) (atoms.Mark marks.OpenBrace ∷ meant)
open_brace rest meant s = single 123 marks.OpenBrace rest meant (record { blank = refl; start = refl; digit = refl; quote = refl; slash = refl }) (alone 123 rest refl refl) s

pub close_brace : (rest : List ℕ) (meant : List Atom) → Spells rest meant → Spells (125 ∷ rest) (atoms.Mark marks.CloseBrace ∷ meant)
close_brace rest meant s = single 125 marks.CloseBrace rest meant (record { blank = refl; start = refl; digit = refl; quote = refl; slash = refl }) (alone 125 rest refl refl) s

pub open_bracket : (rest : List ℕ) (meant : List Atom) → Spells rest meant → Spells (91 ∷ rest) (atoms.Mark marks.OpenBracket ∷ meant)
open_bracket rest meant s = single 91 marks.OpenBracket rest meant (record { blank = refl; start = refl; digit = refl; quote = refl; slash = refl }) (alone 91 rest refl refl) s

pub close_bracket : (rest : List ℕ) (meant : List Atom) → Spells rest meant → Spells (93 ∷ rest) (atoms.Mark marks.CloseBracket ∷ meant)
close_bracket rest meant s = single 93 marks.CloseBracket rest meant (record { blank = refl; start = refl; digit = refl; quote = refl; slash = refl }) (alone 93 rest refl refl) s

pub open_parenthesis : (rest : List ℕ) (meant : List Atom) → Spells rest meant → Spells (40 ∷ rest) (atoms.Mark marks.OpenParenthesis ∷ meant)
open_parenthesis rest meant s = single 40 marks.OpenParenthesis rest meant (record { blank = refl; start = refl; digit = refl; quote = refl; slash = refl }) (alone 40 rest refl refl) s

pub close_parenthesis : (rest : List ℕ) (meant : List Atom) → Spells rest meant → Spells (41 ∷ rest) (atoms.Mark marks.CloseParenthesis ∷ meant)
close_parenthesis rest meant s = single 41 marks.CloseParenthesis rest meant (record { blank = refl; start = refl; digit = refl; quote = refl; slash = refl }) (alone 41 rest refl refl) s

pub semicolon : (rest : List ℕ) (meant : List Atom) → Spells rest meant → Spells (59 ∷ rest) (atoms.Mark marks.Semicolon ∷ meant)
semicolon rest meant s = single 59 marks.Semicolon rest meant (record { blank = refl; start = refl; digit = refl; quote = refl; slash = refl }) (alone 59 rest refl refl) s

pub comma : (rest : List ℕ) (meant : List Atom) → Spells rest meant → Spells (44 ∷ rest) (atoms.Mark marks.Comma ∷ meant)
comma rest meant s = single 44 marks.Comma rest meant (record { blank = refl; start = refl; digit = refl; quote = refl; slash = refl }) (alone 44 rest refl refl) s

pub equals : (rest : List ℕ) (meant : List Atom) → Spells rest meant → Spells (61 ∷ rest) (atoms.Mark marks.Equals ∷ meant)
equals rest meant s = single 61 marks.Equals rest meant (record { blank = refl; start = refl; digit = refl; quote = refl; slash = refl }) (alone 61 rest refl refl) s

pub minus : (rest : List ℕ) (meant : List Atom) → Spells rest meant → Spells (45 ∷ rest) (atoms.Mark marks.Minus ∷ meant)
minus rest meant s = single 45 marks.Minus rest meant (record { blank = refl; start = refl; digit = refl; quote = refl; slash = refl }) (alone 45 rest refl refl) s

pub plus : (rest : List ℕ) (meant : List Atom) → Spells rest meant → Spells (43 ∷ rest) (atoms.Mark marks.Plus ∷ meant)
plus rest meant s = single 43 marks.Plus rest meant (record { blank = refl; start = refl; digit = refl; quote = refl; slash = refl }) (alone 43 rest refl refl) s

colon_at : (rest : List ℕ) → eqb (get_or rest 0 0) 61 ≡ false → mark_at 58 rest ≡ Some (mark_cut marks.Colon 1)
unfolding mark_at
colon_at [] e = refl
colon_at (x ∷ []) e = rw e refl
colon_at (x ∷ y ∷ rest) e = rw e refl

-- `:` where no `=` follows
pub colon : (rest : List ℕ) (meant : List Atom) → eqb (get_or rest 0 0) 61 ≡ false → Spells rest meant → Spells (58 ∷ rest) (atoms.Mark marks.Colon ∷ meant)
colon rest meant e s = single 58 marks.Colon rest meant (record { blank = refl; start = refl; digit = refl; quote = refl; slash = refl }) (colon_at rest e) s

dot_at : (rest : List ℕ) → eqb (get_or rest 0 0) 46 ≡ false → mark_at 46 rest ≡ Some (mark_cut marks.Dot 1)
unfolding mark_at
dot_at [] e = refl
dot_at (x ∷ []) e = refl
dot_at (x ∷ y ∷ rest) e = rw e refl

-- `.` where no `.` follows
pub dot : (rest : List ℕ) (meant : List Atom) → eqb (get_or rest 0 0) 46 ≡ false → Spells rest meant → Spells (46 ∷ rest) (atoms.Mark marks.Dot ∷ meant)
dot rest meant e s = single 46 marks.Dot rest meant (record { blank = refl; start = refl; digit = refl; quote = refl; slash = refl }) (dot_at rest e) s

assign_at : (rest : List ℕ) → piece_at (58 ∷ 61 ∷ rest) ≡ Some (mark_cut marks.Assign 2)
unfolding piece_at mark_at
assign_at [] = refl
assign_at (x ∷ rest) = refl

-- `:=`
pub assign : (rest : List ℕ) (meant : List Atom) → Spells rest meant → Spells (58 ∷ 61 ∷ rest) (atoms.Mark marks.Assign ∷ meant)
assign rest meant s = piece (pieces.Token (kinds.Mark marks.Assign)) (58 ∷ 61 ∷ []) rest meant (assign_at rest) s

-- `...`
pub ellipsis : (rest : List ℕ) (meant : List Atom) → Spells rest meant → Spells (46 ∷ 46 ∷ 46 ∷ rest) (atoms.Mark marks.Ellipsis ∷ meant)
unfolding piece_at mark_at
ellipsis rest meant s = piece (pieces.Token (kinds.Mark marks.Ellipsis)) (46 ∷ 46 ∷ 46 ∷ []) rest meant refl s
