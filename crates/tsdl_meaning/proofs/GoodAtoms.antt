-- What the tokens of a text mean: each word is a name that metadata may have, and each number has 64 bits.
use Rattle.std.proofs.Common.{◌≡◌, ℕ, suc, ◌+◌, ◌<◌, ◌^◌, Bool, true, ◌||◌, List, ◌∷◌, ◌++◌, take, drop, Option, Some, None, refl, sym, ap, subst, ◌∙◌, arith, []}
use Rattle.tsdl_meaning.proofs.TextWords.{AllByRecursion, Atom, IsMetadataName, and_true, is_digit, is_identifier, is_letter, is_read, list_all, option_map, prefix_len, ◌==◌, cond_both}
use Rattle.std.specs.Char.{is_ascii_digit}
use Rattle.std.proofs.lemmas.Bool.Decides.{nat_tests}
use Rattle.std.proofs.lemmas.List.Folds.{list_all-append}
use Rattle.tsdl_grammar.specs.declared.atom.Atom.TheVariants as atoms
use Rattle.tsdl_grammar.specs.declared.token.Mark.{Mark}
use Rattle.tsdl_grammar.specs.declared.token.TokenKind.TheVariants as kinds
use Rattle.tsdl_grammar.specs.declared.piece.Piece.{Piece}
use Rattle.tsdl_grammar.specs.declared.piece.Piece.TheVariants as pieces
use Rattle.tsdl_grammar.specs.declared.piece.Cut.{Cut}
use Rattle.tsdl_grammar.specs.Bytes.{is_blank, is_name_start, is_name_byte}
use Rattle.tsdl_grammar.specs.Pieces.{piece_at, text_at, comment_at, mark_at, mark_cut, one_byte_mark}
use Rattle.tsdl_grammar.specs.Tokens.{Splits}
use Rattle.tsdl_grammar.specs.Atoms.{piece_atoms, atoms_along, Reads}
use Rattle.tsdl_grammar.proofs.Continuation.{spells}

-- a word that metadata may have as a name, a number of 64 bits
abbrev pub IsGood : Atom → Type 0
IsGood (atoms.Word w) = IsMetadataName w
IsGood (atoms.Number n) = n < 2 ^ 64
IsGood (atoms.Text s) = Unit {0}
IsGood (atoms.Mark m) = Unit {0}
IsGood atoms.TooLarge = Unit {0}

abbrev pub AreGood : List Atom → Type 0
AreGood meant = AllByRecursion IsGood meant

pub all_join : {A : Type 0} (P : A → Type 0) (xs ys : List A) → AllByRecursion P xs → AllByRecursion P ys → AllByRecursion P (xs ++ ys)
all_join P [] ys g h = h
all_join P (x ∷ xs) ys g h = (g.0, all_join P xs ys g.1 h)

pub all_front : {A : Type 0} (P : A → Type 0) (xs ys : List A) → AllByRecursion P (xs ++ ys) → AllByRecursion P xs
all_front P [] ys h = tt
all_front P (x ∷ xs) ys h = (h.0, all_front P xs ys h.1)

pub all_back : {A : Type 0} (P : A → Type 0) (xs ys : List A) → AllByRecursion P (xs ++ ys) → AllByRecursion P ys
all_back P [] ys h = h
all_back P (x ∷ xs) ys h = all_back P xs ys h.1

-- ---- words

letter_of_start : (b : ℕ) → is_name_start b ≡ true → is_letter b ≡ true
letter_of_start b h = grind (arith, nat_tests)

name_byte_of : (b : ℕ) → is_name_byte b ≡ true → (is_letter b || is_digit b) ≡ true
name_byte_of b h = grind (arith, nat_tests)

-- the run in front passes
run_passes : (p q : ℕ → Bool) → ((b : ℕ) → p b ≡ true → q b ≡ true) → (bytes : List ℕ) → list_all q (take (prefix_len p bytes) bytes) ≡ true
run_passes p q h [] = refl
run_passes p q h (b ∷ bytes) =
    cond_both (p b) (1 + prefix_len p bytes) 0 (λ n. list_all q (take n (b ∷ bytes)) ≡ true)
    (λ t. let s : 1 + prefix_len p bytes ≡ suc (prefix_len p bytes) = omega arith in rw s (rw (h b t) (run_passes p q h bytes))) (λ _. refl)

named : (b : ℕ) (bytes : List ℕ) → is_name_start b ≡ true → is_identifier (take (1 + prefix_len is_name_byte bytes) (b ∷ bytes)) ≡ true
unfolding is_identifier
named b bytes h = grind (arith, letter_of_start b, run_passes is_name_byte (λ d. is_letter d || is_digit d) name_byte_of bytes, h)

-- a piece that is a word is a name
abbrev IsNamed : List ℕ → Piece → ℕ → Type 0
IsNamed bytes pieces.Blank len = Unit {0}
IsNamed bytes pieces.Comment len = Unit {0}
IsNamed bytes (pieces.Token kinds.Identifier) len = is_identifier (take len bytes) ≡ true
IsNamed bytes (pieces.Token kinds.Number) len = Unit {0}
IsNamed bytes (pieces.Token kinds.Text) len = Unit {0}
IsNamed bytes (pieces.Token (kinds.Mark m)) len = Unit {0}

abbrev IsNamedAt : List ℕ → Option Cut → Type 0
IsNamedAt bytes None = Unit {0}
IsNamedAt bytes (Some c) = IsNamed bytes c.piece c.len

comment_named : (whole bytes : List ℕ) → IsNamedAt whole (comment_at bytes)
unfolding comment_at
comment_named whole bytes = grind arith

text_named : (whole bytes : List ℕ) → IsNamedAt whole (text_at bytes)
unfolding text_at
text_named whole bytes = grind arith

one_mark_named : (whole : List ℕ) (o : Option Mark) → IsNamedAt whole (option_map (λ m. mark_cut m 1) o)
one_mark_named whole o = grind arith

mark_named : (whole : List ℕ) (b : ℕ) (bytes : List ℕ) → IsNamedAt whole (mark_at b bytes)
unfolding mark_at
mark_named whole b bytes = grind (arith, one_mark_named whole (one_byte_mark b))

piece_named : (bytes : List ℕ) → IsNamedAt bytes (piece_at bytes)
unfolding piece_at
piece_named [] = tt
piece_named (b ∷ bytes) =
    let P : Option Cut → Type 0 = IsNamedAt (b ∷ bytes) in
    cond_both (is_blank b) _ _ P (λ _. tt) (λ _. cond_both (is_name_start b) _ _ P (λ h. named b bytes h) (λ _. cond_both (is_ascii_digit b) _ _ P (λ _. tt)
    (λ _. cond_both (b == 34) _ _ P (λ _. text_named (b ∷ bytes) bytes) (λ _. cond_both (b == 47) _ _ P (λ _. comment_named (b ∷ bytes) bytes) (λ _. mark_named (b ∷ bytes) b bytes)))))

-- ---- atoms

good_piece : (p : Piece) (bytes : List ℕ) (len : ℕ) → IsNamed bytes p len → list_all is_read (piece_atoms p (take len bytes)) ≡ true → AreGood (piece_atoms p (take len bytes))
good_piece pieces.Blank bytes len n r = tt
good_piece pieces.Comment bytes len n r = tt
good_piece (pieces.Token kinds.Identifier) bytes len n r = grind (arith, nat_tests, n, r)
good_piece (pieces.Token kinds.Number) bytes len n r = grind (arith, nat_tests)
good_piece (pieces.Token kinds.Text) bytes len n r = grind arith
good_piece (pieces.Token (kinds.Mark m)) bytes len n r = (tt, tt)

good_along : (bytes : List ℕ) (cuts : List Cut) → Splits bytes cuts [] → list_all is_read (atoms_along bytes cuts) ≡ true → AreGood (atoms_along bytes cuts)
good_along bytes [] s r = tt
good_along bytes (c ∷ cuts) s r =
    let here = piece_atoms c.piece (take c.len bytes) in
    let rest = atoms_along (drop c.len bytes) cuts in
    let both = and_true (list_all is_read here) (list_all is_read rest) (sym (list_all-append is_read here rest) ∙ r) in
    all_join IsGood here rest (good_piece c.piece bytes c.len (subst (IsNamedAt bytes) s.0 (piece_named bytes)) both.0) (good_along (drop c.len bytes) cuts s.1 both.1)

-- what a text's tokens mean is good
pub good_atoms : (text : List ℕ) (meant : List Atom) → Reads text meant → list_all is_read meant ≡ true → AreGood meant
good_atoms text meant r h =
    let s = spells text meant r in
    subst AreGood (sym s.atoms) (good_along text s.cuts s.splits (ap (list_all is_read) (sym s.atoms) ∙ h))
