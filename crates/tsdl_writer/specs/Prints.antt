-- What a call prints, said by what is left to be printed behind it.
use Rattle.std.specs.{Prelude.{◌≡◌, ℕ, List, [], ◌∷◌, ◌++◌, string_bytes}, List.AllByRecursion, Str.IsUtf8}
use Rattle.ctf_types.specs.Shown.{length_name}
use Rattle.tsdl_grammar.specs.declared.atom.Atom.{Atom}
use Rattle.tsdl_grammar.specs.declared.atom.Atom.TheVariants as atoms
use Rattle.tsdl_grammar.specs.{Spelling.number_toks, Tokens.magic_line}
use Rattle.tsdl_writer.specs.declared.{layout.Depth.TheVariants.Top, layout.Place.TheVariants.{Line, Apart}, printer.Printer.Printer, printer.Token.Token}
use Rattle.tsdl_writer.specs.declared.printer.Token.TheVariants as tokens
use Rattle.tsdl_writer.specs.{Trees.whole_number, Layout.laid}

-- what is read of a token that is printed
abbrev pub token_toks : Token → List Atom
token_toks (tokens.Word w) = atoms.Word w.now ∷ []
token_toks (tokens.LengthOf name) = atoms.Word (length_name name.now) ∷ []
token_toks (tokens.Number n) = atoms.Number n ∷ []
token_toks (tokens.Whole z) = number_toks (whole_number z)
token_toks (tokens.Quoted s) = atoms.Text s.now ∷ []
token_toks (tokens.Mark m) = atoms.Mark m ∷ []

-- a string is a text
abbrev pub IsString : Atom → Type 0
IsString (atoms.Text s) = IsUtf8 s
IsString a = Unit {0}

-- with these tokens behind it, the text is whole
pub record Ends (p : Printer) (rest : List Atom) (text : List ℕ) : Type 0 where
  pub whole : string_bytes p.text ++ laid p.depth p.place rest ≡ text
  pub strings : AllByRecursion IsString rest

-- the tokens stand between the two
abbrev pub Prints : Printer → Printer → List Atom → Type 0
Prints old new meant = (rest : List Atom) (text : List ℕ) → Ends new rest text → Ends old (meant ++ rest) text

-- these bytes stand between the two, and what follows stands apart
pub record Puts (old new : Printer) (bytes : List ℕ) : Type 0 where
  pub text : string_bytes new.text ≡ string_bytes old.text ++ bytes
  pub depth : new.depth ≡ old.depth
  pub place : new.place ≡ Apart

-- nothing but the magic line
pub record Begins (p : Printer) : Type 0 where
  pub text : string_bytes p.text ≡ magic_line
  pub depth : p.depth ≡ Top
  pub place : p.place ≡ Line
