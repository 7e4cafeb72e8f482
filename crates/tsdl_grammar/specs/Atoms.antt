-- What tokens mean by themselves: a word its bytes, a literal its number, a string what it stands for, a mark itself.
-- A literal above 2^64 - 1 means no number, so no rule of the grammar reads it.
use Rattle.std.specs.Prelude.{◌≡◌, ℕ, ◌-◌, ◌^◌, nat_lt, if◌then◌else◌, List, [], ◌∷◌, ◌++◌, map, length, take, drop, slice_range}
use Rattle.std.specs.Str.{is_utf8}
use Rattle.tsdl_grammar.specs.{declared.atom.Atom.Atom, declared.token.Token.Token, declared.token.TokenKind.TokenKind, declared.piece.Piece.Piece}
use Rattle.tsdl_grammar.specs.declared.piece.Cut.{Cut}
use Rattle.tsdl_grammar.specs.declared.atom.Atom.TheVariants as atoms
use Rattle.tsdl_grammar.specs.declared.token.TokenKind.TheVariants as kinds
use Rattle.tsdl_grammar.specs.{Escapes.unescaped, Literals.literal_of, Tokens.{Splits, Tokenizes}}
use Rattle.tsdl_grammar.specs.declared.piece.Piece.TheVariants as pieces

-- what stands between a string's quotes
abbrev pub content_of : List ℕ → List ℕ
content_of bytes = take (length bytes - 2) (drop 1 bytes)

abbrev pub word_atom : List ℕ → Atom
word_atom bytes = if is_utf8 bytes then atoms.Word bytes else atoms.TooLarge

abbrev pub number_atom : ℕ → Atom
number_atom n = if nat_lt n (2 ^ 64) then atoms.Number n else atoms.TooLarge

abbrev pub text_atom : List ℕ → Atom
text_atom content = if is_utf8 (unescaped content) then atoms.Text (unescaped content) else atoms.TooLarge

-- what the bytes of a token of a kind mean
abbrev pub meaning_of : TokenKind → List ℕ → Atom
meaning_of kinds.Identifier bytes = word_atom bytes
meaning_of kinds.Number bytes = number_atom (literal_of bytes)
meaning_of kinds.Text bytes = text_atom (content_of bytes)
meaning_of (kinds.Mark mark) bytes = atoms.Mark mark

abbrev pub atom_of : List ℕ → Token → Atom
atom_of text token = meaning_of token.kind (slice_range text token.span.start token.span.end)

abbrev pub atoms_of : List ℕ → List Token → List Atom
atoms_of text ts = map (atom_of text) ts

-- what the tokens of a text mean, one after the other
abbrev pub Reads : List ℕ → List Atom → Type 0
Reads text meant = (ts : List Token) × Tokenizes text ts × (meant ≡ atoms_of text ts)

-- what a piece means, if it is a token
abbrev pub piece_atoms : Piece → List ℕ → List Atom
piece_atoms (pieces.Token kind) bytes = meaning_of kind bytes ∷ []
piece_atoms _ bytes = []

-- what the tokens among the pieces of the bytes mean
abbrev pub atoms_along : List ℕ → List Cut → List Atom
atoms_along bytes [] = []
atoms_along bytes (c ∷ cuts) = piece_atoms c.piece (take c.len bytes) ++ atoms_along (drop c.len bytes) cuts

-- the bytes are pieces, of which the tokens mean these atoms: `Reads`, said piece by piece
pub record Spells (bytes : List ℕ) (meant : List Atom) : Type 0 where
  pub cuts : List Cut
  pub splits : Splits bytes cuts []
  pub atoms : meant ≡ atoms_along bytes cuts
