-- How texts are shown character by character, and that what is shown stays on one line.
use Rattle.std.proofs.Common.{◌≡◌, ◌≢◌, ℕ, ◌+◌, ◌/◌, ◌%◌, ◌<◌, ◌&&◌, List, [], ◌∷◌, ◌++◌, true, false, if◌then◌else◌, refl, sym, ◌∙◌, ap, arith, append-nil}
use Rattle.std.specs.Prelude.{◌==◌, codes, nat_lt, not}
use Rattle.std.specs.Char.{IsScalar, digit_char}
use Rattle.std.specs.List.{All, flat_map, list_all}
use Rattle.std.specs.Str.{IsUtf8, all_scalars, chars}
use Rattle.std.proofs.lemmas.Bool.{and_parts, cond_both}
use Rattle.std.proofs.lemmas.Bool.Decides.{nat_tests}
use Rattle.std.proofs.lemmas.List.Elements.{All-append, All-cons, All-head, All-nil, All-tail}
use Rattle.std.proofs.lemmas.List.Folds.{list_all-append}
use Rattle.std.proofs.lemmas.Str.{IsUtf8-append, IsUtf8-encode, IsUtf8-from_ascii, IsUtf8-nil, chars-IsAscii, chars-append, chars-nil, chars_past_char, scalars-chars}
use Rattle.std.proofs.lemmas.Str.Ascii.{IsAscii-from_all}
use Rattle.std.proofs.Math.Utf8.{encode}
use Rattle.conf_tree.specs.OneLine.{is_shown, IsOneLine, escaped_byte, shown, shown_character, steers}

-- ---- a character

shown_other : (c : ℕ) → c ≢ 10 → c ≢ 9 → shown_character c ≡ (if steers c then flat_map escaped_byte (encode c) else encode c)
unfolding shown_character
shown_other c n t = grind (arith, nat_tests)

pub shown_steering : (c : ℕ) → c ≢ 10 → c ≢ 9 → steers c ≡ true → shown_character c ≡ flat_map escaped_byte (encode c)
shown_steering c n t e = shown_other c n t ∙ ap (λ b. if b then flat_map escaped_byte (encode c) else encode c) e

pub shown_plain : (c : ℕ) → c ≢ 10 → c ≢ 9 → steers c ≡ false → shown_character c ≡ encode c
shown_plain c n t e = shown_other c n t ∙ ap (λ b. if b then flat_map escaped_byte (encode c) else encode c) e

-- ---- one line

-- a byte of ASCII that is no control character
abbrev pub IsPlain : ℕ → Type 0
IsPlain b = (b < 128) × (is_shown b ≡ true)

-- a text of which no character steers
abbrev pub IsPiece : List ℕ → Type 0
IsPiece text = IsUtf8 text × (list_all is_shown (chars text) ≡ true)

all_shown : (bs : List ℕ) → All IsPlain bs → list_all is_shown bs ≡ true
all_shown [] h = refl
all_shown (b ∷ bs) h = ap (λ x. x && list_all is_shown bs) (All-head IsPlain b bs h).1 ∙ all_shown bs (All-tail IsPlain b bs h)

pub plain_piece : (bs : List ℕ) → All IsPlain bs → IsPiece bs
plain_piece bs h =
    let ascii = IsAscii-from_all bs (λ i d within. (h i d within).0) in
    (IsUtf8-from_ascii bs ascii, ap (list_all is_shown) (chars-IsAscii bs ascii) ∙ all_shown bs h)

digit_plain : (n : ℕ) → n < 16 → IsPlain (digit_char n)
digit_plain n h = grind (arith, nat_tests)

escaped_plain : (b : ℕ) → b < 256 → All IsPlain (escaped_byte b)
escaped_plain b h =
    let high = digit_char (b / 16) in
    let low = digit_char (b % 16) in
    All-cons IsPlain 92 (120 ∷ high ∷ low ∷ []) (omega arith, refl) (All-cons IsPlain 120 (high ∷ low ∷ []) (omega arith, refl)
    (All-cons IsPlain high (low ∷ []) (digit_plain (b / 16) (omega arith)) (All-cons IsPlain low [] (digit_plain (b % 16) (omega arith)) (All-nil IsPlain))))

each_escaped_plain : (bs : List ℕ) → All (λ b. b < 256) bs → All IsPlain (flat_map escaped_byte bs)
each_escaped_plain [] h = All-nil IsPlain
each_escaped_plain (b ∷ bs) h =
    All-append IsPlain (escaped_byte b) (flat_map escaped_byte bs) (escaped_plain b (All-head (λ x. x < 256) b bs h)) (each_escaped_plain bs (All-tail (λ x. x < 256) b bs h))

below : (c n : ℕ) → nat_lt c n ≡ true → c < n
below c n e = grind (arith, nat_tests)

-- the bytes of a character
bytes_fit : (c : ℕ) → c < 65536 → All (λ b. b < 256) (encode c)
unfolding encode
bytes_fit c h =
    let fits = λ (b : ℕ). b < 256 in
    let last : All fits ((128 + c % 64) ∷ []) = All-cons fits (128 + c % 64) [] (omega arith) (All-nil fits) in
    let two : All fits ((128 + c / 64 % 64) ∷ (128 + c % 64) ∷ []) = All-cons fits (128 + c / 64 % 64) ((128 + c % 64) ∷ []) (omega arith) last in
    cond_both (nat_lt c 128) _ _ (All fits) (λ e. All-cons fits c [] (omega (arith, below c 128 e)) (All-nil fits))
    (λ _. cond_both (nat_lt c 2048) _ _ (All fits) (λ e. All-cons fits (192 + c / 64) ((128 + c % 64) ∷ []) (omega (arith, below c 2048 e)) last)
    (λ _. cond_both (nat_lt c 65536) _ _ (All fits) (λ e. All-cons fits (224 + c / 4096) ((128 + c / 64 % 64) ∷ (128 + c % 64) ∷ []) (omega (arith, h)) two)
    (λ _. All-cons fits (240 + c / 262144) ((128 + c / 4096 % 64) ∷ (128 + c / 64 % 64) ∷ (128 + c % 64) ∷ []) (omega (arith, h))
    (All-cons fits (128 + c / 4096 % 64) ((128 + c / 64 % 64) ∷ (128 + c % 64) ∷ []) (omega arith) two))))

steers_within : (c : ℕ) → steers c ≡ true → c < 65536
steers_within c e = grind (arith, nat_tests)

chars_encode : (c : ℕ) → IsScalar c → chars (encode c) ≡ c ∷ []
chars_encode c s = chars_past_char (encode c) [] c (IsUtf8-encode c s) (sym (append-nil (encode c))) ∙ ap (λ cs. c ∷ cs) chars-nil

character_piece : (c : ℕ) → IsScalar c → IsPiece (shown_character c)
unfolding shown_character
character_piece c s =
    cond_both (c == 10) _ _ IsPiece (λ _. plain_piece (codes "\\n") (All-cons IsPlain 92 (110 ∷ []) (omega arith, refl) (All-cons IsPlain 110 [] (omega arith, refl) (All-nil IsPlain))))
    (λ _. cond_both (c == 9) _ _ IsPiece (λ _. plain_piece (codes "\\t") (All-cons IsPlain 92 (116 ∷ []) (omega arith, refl) (All-cons IsPlain 116 [] (omega arith, refl) (All-nil IsPlain))))
    (λ _. cond_both (steers c) _ _ IsPiece (λ e. plain_piece (flat_map escaped_byte (encode c)) (each_escaped_plain (encode c) (bytes_fit c (steers_within c e))))
    (λ e. (IsUtf8-encode c s, ap (list_all is_shown) (chars_encode c s) ∙ ap (λ b. not b && true) e))))

pub piece_append : (xs ys : List ℕ) → IsPiece xs → IsPiece ys → IsPiece (xs ++ ys)
piece_append xs ys p q = (
  IsUtf8-append xs ys p.0 q.0,
  ap (list_all is_shown) (chars-append xs ys p.0) ∙ list_all-append is_shown (chars xs) (chars ys) ∙ ap (λ x. x && list_all is_shown (chars ys)) p.1 ∙ q.1,
)

pub piece_nil : IsPiece []
piece_nil = (IsUtf8-nil, ap (list_all is_shown) chars-nil)

pieces_shown : (cs : List ℕ) → all_scalars cs ≡ true → IsPiece (flat_map shown_character cs)
pieces_shown [] s = piece_nil
pieces_shown (c ∷ cs) s =
    let both = and_parts _ _ s in piece_append (shown_character c) (flat_map shown_character cs) (character_piece c both.0) (pieces_shown cs both.1)

pub piece_shown : (text : List ℕ) → IsUtf8 text → IsPiece (shown text)
piece_shown text u = pieces_shown (chars text) (scalars-chars text u)

-- what is shown stays on one line
pub one_line_shown : (text : List ℕ) → IsUtf8 text → IsOneLine (shown text)
one_line_shown text u = (piece_shown text u).1
