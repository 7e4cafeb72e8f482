-- What is laid out spells its tokens again, whatever they are, where each of them can be written.
use Rattle.tsdl_writer.proofs.TreeWords.{AllByRecursion, Atom, Block, IsString, List, Mark, [], arith, codes, eqb, false, get_or, is_digit, is_identifier, is_letter, is_read, list_all, nat_tests, prefix_len, refl, text_toks, true, ℕ, ◌++◌, ◌||◌, ◌∷◌, ◌≡◌}
use Rattle.tsdl_writer.proofs.Writable.{Can, IsWritable}
use Rattle.tsdl_grammar.specs.declared.token.Mark.TheVariants as marks
use Rattle.tsdl_grammar.specs.declared.atom.Atom.TheVariants as atoms
use Rattle.tsdl_grammar.specs.{Bytes.{is_blank, is_name_byte}, Tokens.{HasMagicLine, mark_text}, Atoms.{Spells, Reads}}
use Rattle.tsdl_grammar.proofs.{WordStands.IsName}
use Rattle.tsdl_grammar.proofs.Continuation as continuation
use Rattle.tsdl_grammar.proofs.WordStands as words
use Rattle.tsdl_grammar.proofs.NumberStands as numbers
use Rattle.tsdl_grammar.proofs.TextStands as texts
use Rattle.tsdl_grammar.proofs.MarkStands as mark_steps
use Rattle.tsdl_grammar.proofs.ListStands as lists
use Rattle.tsdl_writer.specs.declared.{layout.Depth.Depth, layout.Place.Place, layout.Next.Next}
use Rattle.tsdl_writer.specs.declared.layout.Depth.TheVariants as depths
use Rattle.tsdl_writer.specs.declared.layout.Place.TheVariants as places
use Rattle.tsdl_writer.specs.Layout.{atom_text, behind, atom_behind, next_of, gap, laid, text_of}

-- ---- names

all_go_on : (bs : List ℕ) → list_all (λ d. is_letter d || is_digit d) bs ≡ true → list_all is_name_byte bs ≡ true
all_go_on [] h = refl
all_go_on (b ∷ bs) h = grind (arith, nat_tests, all_go_on bs, h)

is_name : (w : List ℕ) → is_identifier w ≡ true → IsName w
unfolding is_identifier
is_name [] h = absurd cc
is_name (c ∷ w) h = record { first = c; others = w; parts = refl; starts = grind (arith, nat_tests, h); goes_on = grind (arith, all_go_on w, h) }

-- ---- what stands behind a token

gap_blank : (p : Place) (n : Next) (d : Depth) → list_all is_blank (gap p n d) ≡ true
gap_blank p n d = grind arith

-- no byte of a name, and no `=`
apart : (d : Depth) (rest : List Atom) → let bytes = laid d places.Apart rest in (prefix_len is_name_byte bytes ≡ 0) × (eqb (get_or bytes 0 0) 61 ≡ false)
apart d [] = (refl, refl)
apart d (a ∷ rest) = grind arith

-- no second dot behind a dot
no_dot : (d : Depth) (rest : List Atom) → Can rest → eqb (get_or (laid d places.Dotted rest) 0 0) 46 ≡ false
no_dot d (atoms.Word w ∷ rest) h = let n = is_name w h.0.identifier in grind (arith, nat_tests, n.parts, n.starts)
no_dot d rest h = grind arith

-- ---- tokens

mark_stands : (m : Mark) (d : Depth) (rest : List Atom) → Can rest → Spells (laid (behind m d).0 (behind m d).1 rest) rest
    → Spells (mark_text m ++ laid (behind m d).0 (behind m d).1 rest) (atoms.Mark m ∷ rest)
mark_stands marks.OpenBrace d rest h s = mark_steps.open_brace _ _ s
mark_stands marks.CloseBrace d rest h s = mark_steps.close_brace _ _ s
mark_stands marks.OpenBracket d rest h s = mark_steps.open_bracket _ _ s
mark_stands marks.CloseBracket d rest h s = mark_steps.close_bracket _ _ s
mark_stands marks.OpenParenthesis d rest h s = mark_steps.open_parenthesis _ _ s
mark_stands marks.CloseParenthesis d rest h s = mark_steps.close_parenthesis _ _ s
mark_stands marks.Semicolon d rest h s = mark_steps.semicolon _ _ s
mark_stands marks.Comma d rest h s = mark_steps.comma _ _ s
mark_stands marks.Colon d rest h s = mark_steps.colon _ _ (apart d rest).1 s
mark_stands marks.Equals d rest h s = mark_steps.equals _ _ s
mark_stands marks.Minus d rest h s = mark_steps.minus _ _ s
mark_stands marks.Plus d rest h s = mark_steps.plus _ _ s
mark_stands marks.Dot d rest h s = mark_steps.dot _ _ (no_dot d rest h) s
mark_stands marks.Assign d rest h s = mark_steps.assign _ _ s
mark_stands marks.Ellipsis d rest h s = mark_steps.ellipsis _ _ s

atom_stands : (a : Atom) (d : Depth) (rest : List Atom) → IsWritable a → IsString a → Can rest → Spells (laid (atom_behind a d).0 (atom_behind a d).1 rest) rest
    → Spells (atom_text a ++ laid (atom_behind a d).0 (atom_behind a d).1 rest) (a ∷ rest)
atom_stands (atoms.Word w) d rest h t k s = words.word w (laid d places.Apart rest) rest (is_name w h.identifier) (apart d rest).0 s
atom_stands (atoms.Number n) d rest h t k s = numbers.number n (laid d places.Apart rest) rest h (apart d rest).0 s
atom_stands (atoms.Text x) d rest h t k s = texts.string x (laid d places.Apart rest) rest t s
atom_stands (atoms.Mark m) d rest h t k s = mark_stands m d rest k s
atom_stands atoms.TooLarge d rest h t k s = absurd h

stands : (d : Depth) (p : Place) (meant : List Atom) → Can meant → AllByRecursion IsString meant → Spells (laid d p meant) meant
stands d p [] h t = lists.blanks (codes "\n") [] [] refl continuation.nothing
stands d p (a ∷ rest) h t =
    let s = stands (atom_behind a d).0 (atom_behind a d).1 rest h.1 t.1 in
    lists.blanks (gap p (next_of a) d) (atom_text a ++ laid (atom_behind a d).0 (atom_behind a d).1 rest) (a ∷ rest) (gap_blank p (next_of a) d) (atom_stands a d rest h.0 t.0 h.1 s)

are_read : (meant : List Atom) → Can meant → list_all is_read meant ≡ true
are_read [] h = refl
are_read (a ∷ rest) h = grind (arith, are_read rest h.1, h.0)

-- ---- the text

-- the text of blocks has its magic line, reads as the blocks, and has no word that the grammar lacks
pub text_reads : (bs : List Block) → Can (text_toks bs) → AllByRecursion IsString (text_toks bs) → HasMagicLine (text_of bs) × Reads (text_of bs) (text_toks bs) × (list_all is_read (text_toks bs) ≡ true)
text_reads bs h t =
    let all = laid depths.Top places.Line (text_toks bs) in
    ((all, refl), continuation.reads (text_of bs) (text_toks bs) (lists.magic all (text_toks bs) (stands depths.Top places.Line (text_toks bs) h t)), are_read (text_toks bs) h)
