-- The longest piece at the front of a text: a blank, a comment of either kind or a token (CTF 1.8.3, appendix C.1).
-- No piece is there at the end, at a byte that begins none, and at a string or a comment that has no end.
use Rattle.std.specs.Prelude.{ℕ, ◌+◌, min, Bool, true, false, ◌==◌, ◌&&◌, if◌then◌else◌, List, [], ◌∷◌, take, drop, Option, Some, None, is_some, option_map, option_and_then}
use Rattle.std.specs.{List.prefix_len, Str.is_utf8, Char.{is_ascii_digit, is_ascii_hexdigit}}
use Rattle.tsdl_grammar.specs.declared.token.Mark.{Mark}
use Rattle.tsdl_grammar.specs.declared.token.Mark.TheVariants.{OpenBrace, CloseBrace, OpenBracket, CloseBracket, OpenParenthesis, CloseParenthesis, Semicolon, Comma, Colon, Equals, Minus, Plus, Dot, Assign, Ellipsis}
use Rattle.tsdl_grammar.specs.{declared.piece.Piece.Piece, declared.piece.Cut.Cut}
use Rattle.tsdl_grammar.specs.declared.token.TokenKind.TheVariants as kinds
use Rattle.tsdl_grammar.specs.declared.piece.Piece.TheVariants as pieces
use Rattle.tsdl_grammar.specs.Bytes.{is_blank, is_name_start, is_name_byte, is_octal_digit, is_suffix, not_newline}
use Rattle.tsdl_grammar.specs.Escapes.{escaped_byte}

abbrev pub cut : Piece → ℕ → Cut
cut piece len = record { piece = piece; len = len }

-- the bytes up to and with the first `*/`
abbrev pub close_len : List ℕ → Option ℕ
close_len [] = None
close_len (b ∷ []) = None
close_len (b ∷ c ∷ bytes) = if b == 42 && c == 47 then Some 2 else option_map (λ n. 1 + n) (close_len (c ∷ bytes))

-- a comment, of which the first `/` is passed: `//` up to the line's end, or `/*` up to the first `*/`
unfoldable pub comment_at : List ℕ → Option Cut
comment_at [] = None
comment_at (b ∷ bytes) =
    if b == 47 then Some (cut pieces.Comment (2 + prefix_len not_newline bytes))
    else (if b == 42 then option_map (λ n. cut pieces.Comment (2 + n)) (close_len bytes) else None)

-- how many bytes stand before the closing quote, on one line and each backslash with a letter that it escapes;
-- the flag says that a backslash stands in front
abbrev pub content_len : Bool → List ℕ → Option ℕ
content_len after_backslash [] = None
content_len true (b ∷ bytes) = if is_some (escaped_byte b) then option_map (λ n. 1 + n) (content_len false bytes) else None
content_len false (b ∷ bytes) =
    if b == 34 then Some 0 else (if b == 10 then None else option_map (λ n. 1 + n) (content_len (b == 92) bytes))

-- a string in UTF-8, of which the first quote is passed
unfoldable pub text_at : List ℕ → Option Cut
text_at bytes = option_and_then (λ n. if is_utf8 (take n bytes) then Some (cut (pieces.Token kinds.Text) (2 + n)) else None) (content_len false bytes)

-- a leading 0 with the hexadecimal digits behind `0x`, or with the octal digits behind it
abbrev pub zero_len : List ℕ → ℕ
zero_len [] = 1
zero_len (x ∷ []) = 1 + prefix_len is_octal_digit (x ∷ [])
zero_len (x ∷ h ∷ bytes) =
    if x == 120 && is_ascii_hexdigit h then 3 + prefix_len is_ascii_hexdigit bytes else 1 + prefix_len is_octal_digit (x ∷ h ∷ bytes)

-- the prefix and the digits of a literal that begins with a digit
abbrev pub digits_len : List ℕ → ℕ
digits_len [] = 0
digits_len (b ∷ bytes) = if b == 48 then zero_len bytes else 1 + prefix_len is_ascii_digit bytes

-- a literal with its suffix, at most three letters
unfoldable pub number_len : List ℕ → ℕ
number_len bytes = let n = digits_len bytes in n + min 3 (prefix_len is_suffix (drop n bytes))

abbrev pub one_byte_mark : ℕ → Option Mark
one_byte_mark b =
    if b == 123 then Some OpenBrace else (if b == 125 then Some CloseBrace else (if b == 91 then Some OpenBracket else (if b == 93 then Some CloseBracket
    else (if b == 40 then Some OpenParenthesis else (if b == 41 then Some CloseParenthesis else (if b == 59 then Some Semicolon else (if b == 44 then Some Comma
    else (if b == 58 then Some Colon else (if b == 61 then Some Equals else (if b == 45 then Some Minus else (if b == 43 then Some Plus
    else (if b == 46 then Some Dot else None))))))))))))

-- how many of the bytes are one mark: the three of `...`, the two of `:=`, or one
abbrev pub mark_cut : Mark → ℕ → Cut
mark_cut mark len = cut (pieces.Token (kinds.Mark mark)) len

unfoldable pub mark_at : ℕ → List ℕ → Option Cut
mark_at b [] = option_map (λ m. mark_cut m 1) (one_byte_mark b)
mark_at b (c ∷ []) =
    if b == 58 && c == 61 then Some (mark_cut Assign 2) else option_map (λ m. mark_cut m 1) (one_byte_mark b)
mark_at b (c ∷ d ∷ bytes) =
    if b == 58 && c == 61 then Some (mark_cut Assign 2)
    else (if b == 46 && c == 46 && d == 46 then Some (mark_cut Ellipsis 3) else option_map (λ m. mark_cut m 1) (one_byte_mark b))

-- the longest piece at the front
unfoldable pub piece_at : List ℕ → Option Cut
piece_at [] = None
piece_at (b ∷ bytes) =
    if is_blank b then Some (cut pieces.Blank 1)
    else (if is_name_start b then Some (cut (pieces.Token kinds.Identifier) (1 + prefix_len is_name_byte bytes))
    else (if is_ascii_digit b then Some (cut (pieces.Token kinds.Number) (number_len (b ∷ bytes)))
    else (if b == 34 then text_at bytes
    else (if b == 47 then comment_at bytes
    else mark_at b bytes))))
