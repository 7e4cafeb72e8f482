-- The atoms of a text, one after the other, are what its tokens mean.
use Rattle.std.proofs.Common.{◌≡◌, ℕ, zero, suc, ◌-◌, ◌<◌, ◌≤◌, List, [], ◌∷◌, ◌++◌, length, take, drop, Option, Some, None, arith, refl, sym, ap, subst, ◌∙◌, ◌⊎◌, inl, inr, append-nil, length-append}
use Rattle.std.proofs.lemmas.List.{drop_all}
use Rattle.tsdl_grammar.specs.{declared.token.Token.Token, declared.token.TokenKind.TokenKind, declared.piece.Piece.Piece, declared.piece.Cut.Cut}
use Rattle.tsdl_grammar.specs.declared.atom.Atom.{Atom}
use Rattle.tsdl_grammar.specs.declared.piece.Piece.TheVariants as pieces
use Rattle.tsdl_grammar.specs.{Pieces.piece_at, Tokens.{Splits, Tokenizes}}
use Rattle.tsdl_grammar.specs.Atoms.{meaning_of, atoms_of, piece_atoms, atoms_along}
use Rattle.tsdl_grammar.specs.Fronts.{front_atoms, passed, atoms_behind, atoms_in}
use Rattle.tsdl_grammar.proofs.{Splits.nothing_at_the_end, Continuation.spells}

-- passing over some bytes is dropping them
passes : (n : ℕ) (bytes : List ℕ) → atoms_behind n bytes ≡ atoms_in (drop n bytes)
unfolding atoms_behind
passes zero bytes = refl
passes (suc n) [] = refl
passes (suc n) (b ∷ bytes) = passes n bytes

-- where no piece begins there is no atom
pub no_atom : (bytes : List ℕ) → piece_at bytes ≡ None → atoms_in bytes ≡ []
unfolding atoms_behind
no_atom [] e = refl
no_atom (b ∷ bytes) e = rw e (passes (length bytes) bytes ∙ ap atoms_in (drop_all (length bytes) bytes (omega arith)))

behind_one : (bytes : List ℕ) (b len : ℕ) → 0 < len → drop (len - 1) bytes ≡ drop len (b ∷ bytes)
behind_one bytes b zero some = absurd (omega arith)
behind_one bytes b (suc len) some = let e : suc len - 1 ≡ len = omega arith in rw e refl

-- nothing stands behind the last atom
pub nothing_behind : (xs : List Atom) → xs ++ atoms_in [] ≡ xs
nothing_behind xs = ap (λ (ys : List Atom). xs ++ ys) (no_atom [] nothing_at_the_end) ∙ append-nil xs

-- a piece, and what stands behind it
pub one_piece : (bytes : List ℕ) (c : Cut) → piece_at bytes ≡ Some c → 0 < c.len → atoms_in bytes ≡ piece_atoms c.piece (take c.len bytes) ++ atoms_in (drop c.len bytes)
unfolding atoms_behind
one_piece [] c e some = absurd (let f = nothing_at_the_end in cc)
one_piece (b ∷ bytes) c e some =
    rw e (ap (λ (xs : List Atom). piece_atoms c.piece (take c.len (b ∷ bytes)) ++ xs) (passes (c.len - 1) bytes ∙ ap atoms_in (behind_one bytes b c.len some)))

-- a piece that is no token
pub skips : (bytes : List ℕ) (c : Cut) → piece_at bytes ≡ Some c → 0 < c.len → (c.piece ≡ pieces.Blank) ⊎ (c.piece ≡ pieces.Comment) → atoms_in bytes ≡ atoms_in (drop c.len bytes)
skips bytes c e some h =
    one_piece bytes c e some ∙ elim h [ inl blank ↦ rw blank refl | inr comment ↦ rw comment refl ]

-- a piece that is a token
pub takes : (bytes : List ℕ) (c : Cut) (kind : TokenKind) → piece_at bytes ≡ Some c → 0 < c.len → c.piece ≡ pieces.Token kind
    → atoms_in bytes ≡ meaning_of kind (take c.len bytes) ∷ atoms_in (drop c.len bytes)
takes bytes c kind e some is = one_piece bytes c e some ∙ rw is refl

-- a piece of no bytes would have no end
endless : (bytes : List ℕ) (cuts : List Cut) (c : Cut) → piece_at bytes ≡ Some c → c.len ≡ 0 → Splits bytes cuts [] → ⊥
endless bytes [] c e none s = let f : piece_at bytes ≡ None = ap piece_at s ∙ nothing_at_the_end in cc
endless bytes (d ∷ cuts) c e none s =
    let same : c ≡ d = let f = s.0 in cc in
    let stays : drop d.len bytes ≡ bytes = ap (λ (x : Cut). drop x.len bytes) (sym same) ∙ ap (λ (n : ℕ). drop n bytes) none in
    endless bytes cuts c e none (subst (λ (l : List ℕ). Splits l cuts []) stays s.1)

some_bytes : (bytes : List ℕ) (cuts : List Cut) (c : Cut) (n : ℕ) → c.len ≡ n → piece_at bytes ≡ Some c → Splits (drop c.len bytes) cuts [] → 0 < c.len
some_bytes bytes cuts c zero none e s = absurd (endless bytes (c ∷ cuts) c e none (e, s))
some_bytes bytes cuts c (suc n) some e s = omega (arith, some)

-- what the pieces of the bytes mean
along_pieces : (bytes : List ℕ) (cuts : List Cut) → Splits bytes cuts [] → atoms_along bytes cuts ≡ atoms_in bytes
unfolding atoms_behind
along_pieces bytes [] s = rw s refl
along_pieces bytes (c ∷ cuts) s =
    ap (λ (xs : List Atom). piece_atoms c.piece (take c.len bytes) ++ xs) (along_pieces (drop c.len bytes) cuts s.1)
    ∙ sym (one_piece bytes c s.0 (some_bytes bytes cuts c c.len refl s.0 s.1))

-- the atoms of a text are what its tokens mean
pub tokens_mean : (text : List ℕ) (ts : List Token) → Tokenizes text ts → atoms_of text ts ≡ atoms_in text
tokens_mean text ts t = let s = spells text (atoms_of text ts) (ts, t, refl) in s.atoms ∙ along_pieces text s.cuts s.splits

at_most_one : (piece : Piece) (bytes : List ℕ) → length (piece_atoms piece bytes) ≤ 1
at_most_one pieces.Blank bytes = omega arith
at_most_one pieces.Comment bytes = omega arith
at_most_one (pieces.Token kind) bytes = omega arith

one_in_front : (found : Option Cut) (bytes : List ℕ) → length (front_atoms found bytes) ≤ 1
one_in_front None bytes = omega arith
one_in_front (Some c) bytes = at_most_one c.piece (take c.len bytes)

few_behind : (n : ℕ) (bytes : List ℕ) → length (atoms_behind n bytes) ≤ length bytes
unfolding atoms_behind
few_behind n [] = omega arith
few_behind zero (b ∷ bytes) =
    let found = piece_at (b ∷ bytes) in
    let front = front_atoms found (b ∷ bytes) in
    let rest = atoms_behind (passed found (length bytes)) bytes in
    omega (arith, length-append front rest, one_in_front found (b ∷ bytes), few_behind (passed found (length bytes)) bytes)
few_behind (suc n) (b ∷ bytes) = omega (arith, few_behind n bytes)

-- a text has no more atoms than bytes
pub few : (bytes : List ℕ) → length (atoms_in bytes) ≤ length bytes
few bytes = few_behind 0 bytes
