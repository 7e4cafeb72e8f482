-- The atoms of a text, one after the other: what the token at its front means, and what those behind it mean.
use Rattle.std.specs.Prelude.{ℕ, zero, suc, ◌-◌, List, [], ◌∷◌, ◌++◌, length, take, Option, Some, None}
use Rattle.tsdl_grammar.specs.{declared.atom.Atom.Atom, declared.piece.Cut.Cut, declared.front.Front.Front, declared.front.Atoms.Atoms}
use Rattle.tsdl_grammar.specs.declared.atom.Atom.TheVariants as atoms
use Rattle.tsdl_grammar.specs.{Pieces.piece_at, Atoms.{meaning_of, piece_atoms}}

-- what the piece at the front of the bytes means, nothing where none begins there
abbrev pub front_atoms : Option Cut → List ℕ → List Atom
front_atoms None bytes = []
front_atoms (Some c) bytes = piece_atoms c.piece (take c.len bytes)

-- how many of so many bytes behind its first byte the piece at the front has: all where none begins there
abbrev pub passed : Option Cut → ℕ → ℕ
passed None all = all
passed (Some c) all = c.len - 1

-- what the tokens of the bytes mean, of which so many are passed over first
unfoldable pub atoms_behind : ℕ → List ℕ → List Atom
atoms_behind n [] = []
atoms_behind zero (b ∷ bytes) = front_atoms (piece_at (b ∷ bytes)) (b ∷ bytes) ++ atoms_behind (passed (piece_at (b ∷ bytes)) (length bytes)) bytes
atoms_behind (suc n) (b ∷ bytes) = atoms_behind n bytes

-- what the tokens of a text mean, up to its end or to where no piece begins
abbrev pub atoms_in : List ℕ → List Atom
atoms_in text = atoms_behind 0 text

-- what a token means
abbrev pub meant : Front → Atom
meant front = meaning_of front.kind front.bytes.now

-- the word that an atom is, if it is one
abbrev pub word_in : Atom → Option (List ℕ)
word_in (atoms.Word w) = Some w
word_in _ = None

-- the atoms that are gone over, one after the other
abbrev pub shown_behind : Option Front → List Atom → List Atom
shown_behind None behind = []
shown_behind (Some front) behind = meant front ∷ behind

abbrev pub shown : Atoms → List Atom
shown atoms = shown_behind atoms.front (take atoms.count (atoms_in atoms.text.now) ++ atoms_in atoms.more.now)
