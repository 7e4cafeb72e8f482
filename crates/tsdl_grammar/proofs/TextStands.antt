-- A string at the front of bytes, as it is written, and that a string's token means a text.
use Rattle.std.proofs.Common.{◌≡◌, ℕ, ◌+◌, ◌-◌, List, [], ◌∷◌, ◌++◌, length, take, Some, arith, refl, sym, ap, subst, ◌∙◌, append_assoc, IsUtf8, take_at, length-append}
use Rattle.std.proofs.lemmas.Str.{is_utf8-from_IsUtf8}
use Rattle.tsdl_grammar.specs.declared.token.TokenKind.TheVariants as kinds
use Rattle.tsdl_grammar.specs.declared.piece.Piece.TheVariants as pieces
use Rattle.tsdl_grammar.specs.declared.atom.Atom.{Atom}
use Rattle.tsdl_grammar.specs.declared.atom.Atom.TheVariants as atoms
use Rattle.tsdl_grammar.specs.Escapes.{escaped}
use Rattle.tsdl_grammar.specs.Pieces.{piece_at, cut, text_at}
use Rattle.tsdl_grammar.specs.Atoms.{text_atom, content_of, Spells}
use Rattle.tsdl_grammar.proofs.{Escaping.{content_len-escaped, stands_again}, EscapesUtf8.IsUtf8-escaped, Continuation.piece}

text_at-escaped : (text rest : List ℕ) → IsUtf8 text → piece_at (34 ∷ (escaped text ++ 34 ∷ rest)) ≡ Some (cut (pieces.Token kinds.Text) (2 + length (escaped text)))
unfolding piece_at text_at
text_at-escaped text rest u =
    rw (content_len-escaped text rest, take_at (escaped text) (34 ∷ rest) (length (escaped text)) refl, is_utf8-from_IsUtf8 (escaped text) (IsUtf8-escaped text u)) refl

-- a text between its quotes
abbrev pub quoted : List ℕ → List ℕ
quoted text = 34 ∷ (escaped text ++ 34 ∷ [])

length-quoted : (text : List ℕ) → length (quoted text) ≡ 2 + length (escaped text)
length-quoted text = omega (arith, length-append (escaped text) (34 ∷ []))

content_of-quoted : (text : List ℕ) → content_of (quoted text) ≡ escaped text
content_of-quoted text =
    let k : length (quoted text) - 2 ≡ length (escaped text) = omega (arith, length-quoted text) in
    ap (λ (n : ℕ). take n (escaped text ++ 34 ∷ [])) k ∙ take_at (escaped text) (34 ∷ []) (length (escaped text)) refl

text_atom-quoted : (text : List ℕ) → IsUtf8 text → text_atom (content_of (quoted text)) ≡ atoms.Text text
text_atom-quoted text u = ap text_atom (content_of-quoted text) ∙ rw (stands_again text, is_utf8-from_IsUtf8 text u) refl

-- a string in front; anything may follow it
pub string : (text rest : List ℕ) (meant : List Atom) → IsUtf8 text → Spells rest meant → Spells (quoted text ++ rest) (atoms.Text text ∷ meant)
string text rest meant u s =
    let regrouped : quoted text ++ rest ≡ 34 ∷ (escaped text ++ 34 ∷ rest) = ap (λ (w : List ℕ). 34 ∷ w) (append_assoc (escaped text) (34 ∷ []) rest) in
    let at : piece_at (quoted text ++ rest) ≡ Some (cut (pieces.Token kinds.Text) (length (quoted text))) =
    ap piece_at regrouped ∙ text_at-escaped text rest u ∙ ap (λ (k : ℕ). Some (cut (pieces.Token kinds.Text) k)) (sym (length-quoted text)) in
    subst (λ (a : Atom). Spells (quoted text ++ rest) (a ∷ meant)) (text_atom-quoted text u) (piece (pieces.Token kinds.Text) (quoted text) rest meant at s)
