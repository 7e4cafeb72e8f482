-- How the tokens of metadata are laid out as a text. A block begins a line behind an empty one, tabs indent what stands in it, and each of its
-- attributes, members and environment entries has a line of its own; the type of a member stands on the member's line.
-- The gap in front of a token is known from the innermost brace that is open, from the token before and from the token itself.
use Rattle.std.specs.{Prelude.{ℕ, List, [], ◌∷◌, ◌++◌, codes}, Fmt.decimal}
use Rattle.tsdl_grammar.specs.declared.{token.Mark.Mark, atom.Atom.Atom, tree.Block.Block}
use Rattle.tsdl_grammar.specs.declared.token.Mark.TheVariants as marks
use Rattle.tsdl_grammar.specs.declared.atom.Atom.TheVariants as atoms
use Rattle.tsdl_grammar.specs.{Escapes.escaped, Spelling.text_toks, Tokens.{magic_line, mark_text}}
use Rattle.tsdl_writer.specs.declared.{layout.Depth.Depth, layout.Place.Place, layout.Next.Next}
use Rattle.tsdl_writer.specs.declared.layout.Depth.TheVariants as depths
use Rattle.tsdl_writer.specs.declared.layout.Place.TheVariants as places
use Rattle.tsdl_writer.specs.declared.layout.Next.TheVariants as nexts

-- a text stands between its quotes, and nothing spells a literal that is too large
abbrev pub atom_text : Atom → List ℕ
atom_text (atoms.Word w) = w
atom_text (atoms.Number n) = decimal n
atom_text (atoms.Text s) = codes "\"" ++ escaped s ++ codes "\""
atom_text (atoms.Mark m) = mark_text m
atom_text atoms.TooLarge = []

-- a block's braces hold attributes and structures, a structure's hold types
abbrev pub behind : Mark → Depth → Depth × Place
behind marks.OpenBrace depths.Top = (depths.Block, places.Line)
behind marks.OpenBrace depths.Block = (depths.Structure, places.Line)
behind marks.OpenBrace d = (depths.Type, places.Inside)
behind marks.CloseBrace depths.Type = (depths.Structure, places.Apart)
behind marks.CloseBrace depths.Structure = (depths.Block, places.Apart)
behind marks.CloseBrace d = (depths.Top, places.Apart)
behind marks.Semicolon depths.Type = (depths.Type, places.Apart)
behind marks.Semicolon d = (d, places.Line)
behind marks.OpenBracket d = (d, places.Joined)
behind marks.OpenParenthesis d = (d, places.Joined)
behind marks.Minus d = (d, places.Joined)
behind marks.Plus d = (d, places.Joined)
behind marks.Dot d = (d, places.Dotted)
behind m d = (d, places.Apart)

abbrev pub atom_behind : Atom → Depth → Depth × Place
atom_behind (atoms.Mark m) d = behind m d
atom_behind a d = (d, places.Apart)

abbrev pub mark_next : Mark → Next
mark_next marks.CloseBrace = nexts.Close
mark_next marks.OpenBracket = nexts.Leaning
mark_next marks.CloseBracket = nexts.Leaning
mark_next marks.OpenParenthesis = nexts.Leaning
mark_next marks.CloseParenthesis = nexts.Leaning
mark_next marks.Semicolon = nexts.Leaning
mark_next marks.Comma = nexts.Leaning
mark_next marks.Dot = nexts.Leaning
mark_next m = nexts.Other

abbrev pub next_of : Atom → Next
next_of (atoms.Word w) = nexts.Word
next_of (atoms.Mark m) = mark_next m
next_of a = nexts.Other

-- a new line
abbrev pub line : Depth → List ℕ
line depths.Top = codes "\n\n"
line depths.Block = codes "\n\t"
line d = codes "\n\t\t"

-- a new line for the brace that closes
abbrev pub closing_line : Depth → List ℕ
closing_line depths.Block = codes "\n"
closing_line depths.Structure = codes "\n\t"
closing_line d = line d

-- in a type's braces a space stands behind the first and in front of the last
abbrev pub gap : Place → Next → Depth → List ℕ
gap places.Line nexts.Close d = closing_line d
gap places.Line n d = line d
gap places.Inside nexts.Close d = codes "  "
gap places.Joined n d = []
gap places.Dotted nexts.Word d = []
gap places.Apart nexts.Leaning d = []
gap p n d = codes " "

-- the tokens, and the end of the last line
abbrev pub laid : Depth → Place → List Atom → List ℕ
laid d p [] = codes "\n"
laid d p (a ∷ rest) = gap p (next_of a) d ++ (atom_text a ++ laid (atom_behind a d).0 (atom_behind a d).1 rest)

-- the magic line, and the blocks
abbrev pub text_of : List Block → List ℕ
text_of bs = magic_line ++ laid depths.Top places.Line (text_toks bs)
