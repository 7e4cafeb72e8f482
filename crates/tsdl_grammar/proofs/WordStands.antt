-- A blank and a word at the front of bytes, and what may follow a word: no byte that a name has.
use Rattle.std.proofs.Common.{◌≡◌, ℕ, zero, suc, ◌+◌, ◌<◌, true, false, List, [], ◌∷◌, ◌++◌, length, Some, arith, refl, sym, ap, subst, ◌∙◌, IsAscii}
use Rattle.std.specs.List.{prefix_len, list_all}
use Rattle.std.proofs.{lemmas.Bool.Decides.nat_tests, lemmas.Str.{IsUtf8-from_ascii, is_utf8-from_IsUtf8}}
use Rattle.tsdl_grammar.specs.declared.token.TokenKind.TheVariants as kinds
use Rattle.tsdl_grammar.specs.declared.piece.Piece.TheVariants as pieces
use Rattle.tsdl_grammar.specs.declared.atom.Atom.{Atom}
use Rattle.tsdl_grammar.specs.declared.atom.Atom.TheVariants as atoms
use Rattle.tsdl_grammar.specs.{Pieces.{piece_at, cut}, Atoms.{word_atom, Spells}}
use Rattle.tsdl_grammar.specs.Bytes.{is_blank, is_name_start, is_name_byte}
use Rattle.tsdl_grammar.proofs.{Runs.{and_true, prefix_len-whole}, Continuation.piece}

-- a blank in front changes nothing
pub blank : (b : ℕ) (rest : List ℕ) (meant : List Atom) → is_blank b ≡ true → Spells rest meant → Spells (b ∷ rest) meant
unfolding piece_at
blank b rest meant h s = piece pieces.Blank (b ∷ []) rest meant (rw h refl) s

-- a name: a letter or `_`, then letters, digits and `_`
pub record IsName (name : List ℕ) : Type 0 where
  pub first : ℕ
  pub others : List ℕ
  pub parts : name ≡ first ∷ others
  pub starts : is_name_start first ≡ true
  pub goes_on : list_all is_name_byte others ≡ true

word_at : (b : ℕ) (bytes rest : List ℕ) → is_name_start b ≡ true → list_all is_name_byte bytes ≡ true → prefix_len is_name_byte rest ≡ 0
    → piece_at (b ∷ (bytes ++ rest)) ≡ Some (cut (pieces.Token kinds.Identifier) (1 + length bytes))
unfolding piece_at
word_at b bytes rest start inner end = let blank : is_blank b ≡ false = grind (arith, nat_tests) in rw (blank, start, prefix_len-whole is_name_byte bytes rest inner end) refl

name_byte_is_ascii : (b : ℕ) → is_name_byte b ≡ true → b < 128
name_byte_is_ascii b h = grind (arith, nat_tests)

start_goes_on : (b : ℕ) → is_name_start b ≡ true → is_name_byte b ≡ true
start_goes_on b h = grind (arith, nat_tests)

names_are_ascii : (bytes : List ℕ) → list_all is_name_byte bytes ≡ true → IsAscii bytes
names_are_ascii [] h i = omega arith
names_are_ascii (b ∷ bytes) h zero = name_byte_is_ascii b (and_true (is_name_byte b) (list_all is_name_byte bytes) h).0
names_are_ascii (b ∷ bytes) h (suc i) = names_are_ascii bytes (and_true (is_name_byte b) (list_all is_name_byte bytes) h).1 i

-- a word in front, where no byte of a name follows it
pub word : (name rest : List ℕ) (meant : List Atom) → IsName name → prefix_len is_name_byte rest ≡ 0 → Spells rest meant → Spells (name ++ rest) (atoms.Word name ∷ meant)
word name rest meant n end s =
    let ascii : IsAscii name = subst IsAscii (sym n.parts) (names_are_ascii (n.first ∷ n.others) (rw (start_goes_on n.first n.starts) n.goes_on)) in
    let is : word_atom name ≡ atoms.Word name = rw (is_utf8-from_IsUtf8 name (IsUtf8-from_ascii name ascii)) refl in
    let len : 1 + length n.others ≡ length name = rw n.parts (omega arith) in
    let at : piece_at (name ++ rest) ≡ Some (cut (pieces.Token kinds.Identifier) (length name)) =
    ap (λ (w : List ℕ). piece_at (w ++ rest)) n.parts ∙ word_at n.first n.others rest n.starts n.goes_on end ∙ ap (λ (k : ℕ). Some (cut (pieces.Token kinds.Identifier) k)) len in
    subst (λ (a : Atom). Spells (name ++ rest) (a ∷ meant)) is (piece (pieces.Token kinds.Identifier) name rest meant at s)
