-- Writing a text from its end: one more piece in front of bytes that spell their atoms.
use Rattle.std.proofs.Common.{◌≡◌, ℕ, ◌+◌, ◌-◌, List, [], ◌∷◌, ◌++◌, length, take, drop, Some, arith, refl, sym, ap, ◌∙◌, take_at, drop_at, drop-drop}
use Rattle.std.proofs.lemmas.List.{map-append}
use Rattle.tsdl_grammar.specs.{declared.piece.Piece.Piece, declared.piece.Cut.Cut, declared.atom.Atom.Atom}
use Rattle.tsdl_grammar.specs.declared.piece.Piece.TheVariants as pieces
use Rattle.tsdl_grammar.specs.{Pieces.{piece_at, cut}, Tokens.{token_of, tokens_from}}
use Rattle.tsdl_grammar.specs.Atoms.{atom_of, atoms_of, piece_atoms, atoms_along, Reads, Spells}

-- nothing spells nothing
pub nothing : Spells [] []
nothing = record { cuts = []; splits = refl; atoms = refl }

-- one more piece in front
pub piece : (p : Piece) (text rest : List ℕ) (meant : List Atom) → piece_at (text ++ rest) ≡ Some (cut p (length text)) → Spells rest meant → Spells (text ++ rest) (piece_atoms p text ++ meant)
piece p text rest meant e s = record {
  cuts = cut p (length text) ∷ s.cuts;
  splits = (e, rw (drop_at text rest (length text) refl) s.splits);
  atoms = rw (take_at text rest (length text) refl, drop_at text rest (length text) refl) (ap (λ (xs : List Atom). piece_atoms p text ++ xs) s.atoms);
}

one_token : (whole : List ℕ) (p : Piece) (at len : ℕ) → atoms_of whole (token_of p (record { start = at; end = at + len })) ≡ piece_atoms p (take len (drop at whole))
one_token whole pieces.Blank at len = refl
one_token whole pieces.Comment at len = refl
one_token whole (pieces.Token kind) at len = let e : at + len - at ≡ len = omega arith in rw e refl

along : (whole : List ℕ) (at : ℕ) (cuts : List Cut) → atoms_of whole (tokens_from at cuts) ≡ atoms_along (drop at whole) cuts
along whole at [] = refl
along whole at (c ∷ cuts) =
    map-append (atom_of whole) (token_of c.piece (record { start = at; end = at + c.len })) (tokens_from (at + c.len) cuts)
    ∙ ap (λ (xs : List Atom). xs ++ atoms_of whole (tokens_from (at + c.len) cuts)) (one_token whole c.piece at c.len)
    ∙ ap (λ (xs : List Atom). piece_atoms c.piece (take c.len (drop at whole)) ++ xs) (along whole (at + c.len) cuts ∙ ap (λ (bytes : List ℕ). atoms_along bytes cuts) (sym (drop-drop c.len at whole)))

-- what spells atoms reads as them
pub reads : (text : List ℕ) (meant : List Atom) → Spells text meant → Reads text meant
reads text meant s = (tokens_from 0 s.cuts, (s.cuts, s.splits, refl), s.atoms ∙ sym (along text 0 s.cuts))

-- and the other way round
pub spells : (text : List ℕ) (meant : List Atom) → Reads text meant → Spells text meant
spells text meant r = record { cuts = r.1.0; splits = r.1.1; atoms = r.2 ∙ ap (atoms_of text) r.1.2 ∙ along text 0 r.1.0 }
