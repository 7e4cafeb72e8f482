-- The tokens of a metadata text, with the bytes that each one is, and the place at which a text has no tokens.
-- A text is cut into its pieces from the front on, each as long as it can be; blanks and comments are no tokens.
use Rattle.std.specs.Prelude.{◌≡◌, ◌≢◌, ℕ, ◌+◌, ◌≤◌, ◌<◌, List, [], ◌∷◌, ◌++◌, length, drop, Option, Some, None, codes, Result, Ok, Err}
use Rattle.std.specs.Global.{Vec}
use Rattle.tsdl_grammar.specs.{declared.token.Mark.Mark, declared.token.Token.Token, declared.token.Span.Span, declared.piece.Piece.Piece}
use Rattle.tsdl_grammar.specs.{declared.piece.Cut.Cut, declared.fault.MetaFault.MetaFault, declared.fault.MetaFaultKind.MetaFaultKind}
use Rattle.tsdl_grammar.specs.declared.token.Mark.TheVariants as marks
use Rattle.tsdl_grammar.specs.declared.piece.Piece.TheVariants as pieces
use Rattle.tsdl_grammar.specs.declared.fault.MetaFaultKind.TheVariants as faults
use Rattle.tsdl_grammar.specs.Pieces.{piece_at}

-- the line that a metadata text begins with
abbrev pub magic_line : List ℕ
magic_line = codes "/* CTF 1.8 */"

abbrev pub HasMagicLine : List ℕ → Type 0
HasMagicLine text = (rest : List ℕ) × (text ≡ magic_line ++ rest)

-- how each mark is spelled
abbrev pub mark_text : Mark → List ℕ
mark_text marks.OpenBrace = codes "{"
mark_text marks.CloseBrace = codes "}"
mark_text marks.OpenBracket = codes "["
mark_text marks.CloseBracket = codes "]"
mark_text marks.OpenParenthesis = codes "("
mark_text marks.CloseParenthesis = codes ")"
mark_text marks.Semicolon = codes ";"
mark_text marks.Comma = codes ","
mark_text marks.Colon = codes ":"
mark_text marks.Equals = codes "="
mark_text marks.Minus = codes "-"
mark_text marks.Plus = codes "+"
mark_text marks.Dot = codes "."
mark_text marks.Assign = codes ":="
mark_text marks.Ellipsis = codes "..."

-- the bytes are these pieces, one after the other, and then the rest
abbrev pub Splits : List ℕ → List Cut → List ℕ → Type 0
Splits bytes [] rest = bytes ≡ rest
Splits bytes (c ∷ cuts) rest = (piece_at bytes ≡ Some c) × Splits (drop c.len bytes) cuts rest

-- the token that a piece is, if it is one
abbrev pub token_of : Piece → Span → List Token
token_of (pieces.Token kind) span = record { kind = kind; span = span } ∷ []
token_of _ span = []

-- the tokens among the pieces, of which the first begins at a place
abbrev pub tokens_from : ℕ → List Cut → List Token
tokens_from at [] = []
tokens_from at (c ∷ cuts) = token_of c.piece (record { start = at; end = at + c.len }) ++ tokens_from (at + c.len) cuts

-- these are the tokens of the text
abbrev pub Tokenizes : List ℕ → List Token → Type 0
Tokenizes text ts = (cuts : List Cut) × Splits text cuts [] × (ts ≡ tokens_from 0 cuts)

-- where a token begins, or the end of the text
abbrev pub start_of : Option Token → ℕ → ℕ
start_of (Some token) end = token.span.start
start_of None end = end

-- the text has tokens
abbrev pub HasTokens : List ℕ → Type 0
HasTokens text = (ts : List Token) × Tokenizes text ts

-- no piece begins here, and the text has not ended
abbrev pub Stuck : List ℕ → Type 0
Stuck bytes = (bytes ≢ []) × (piece_at bytes ≡ None)

-- the first byte, after blanks, comments and tokens, at which no piece begins
abbrev pub StopsAt : List ℕ → ℕ → Type 0
StopsAt text at = (cuts : List Cut) × (rest : List ℕ) × Splits text cuts rest × Stuck rest × (at + length rest ≡ length text)

-- spans that lie in the text behind a place, one after the other, none of them empty
abbrev pub Rises : ℕ → List Token → ℕ → Type 0
Rises from [] end = from ≤ end
Rises from (t ∷ ts) end = (from ≤ t.span.start) × (t.span.start < t.span.end) × Rises t.span.end ts end

-- what a fault of a text's tokens says of the text, by its kind and place
abbrev pub TokenFault : List ℕ → MetaFaultKind → ℕ → Type 0
TokenFault text faults.NoMagicLine at = (at ≡ 0) × (HasMagicLine text → ⊥)
TokenFault text faults.Token at = HasMagicLine text × StopsAt text at
TokenFault text faults.OutOfMemory at = Unit {0}
TokenFault text _ at = ⊥

-- the tokens, unless memory ran out
abbrev pub GivesTokens : Result (Vec Token) MetaFault → List Token → Type 0
GivesTokens (Ok found) ts = found.items ≡ ts
GivesTokens (Err fault) ts = fault.kind ≡ faults.OutOfMemory
