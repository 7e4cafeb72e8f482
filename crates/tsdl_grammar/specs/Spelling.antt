-- How trees are spelled in words, numbers, strings and marks: the grammar of the metadata texts that are read
-- (CTF 1.8.3, section 7 and appendix C, narrowed). Each rule of the grammar is one line.
use Rattle.std.specs.Prelude.{ℕ, List, [], ◌∷◌, ◌++◌, Option, Some, None, codes, flat_map}
use Rattle.tsdl_grammar.specs.{declared.token.Mark.Mark, declared.atom.Atom.Atom}
use Rattle.tsdl_grammar.specs.{declared.tree.Sign.Sign, declared.tree.Sign.TheVariants.{Plus, Minus}, declared.tree.Number.Number, declared.tree.Name.Name}
use Rattle.tsdl_grammar.specs.{declared.tree.Value.Value, declared.tree.Attribute.Attribute, declared.tree.Label.Label}
use Rattle.tsdl_grammar.specs.{declared.tree.Label.TheVariants.{Quoted, Bare}, declared.tree.Entry.Entry, declared.tree.Closing.Closing}
use Rattle.tsdl_grammar.specs.{declared.tree.Entries.Entries, declared.tree.Kind.Kind, declared.tree.Bracket.Bracket, declared.tree.MemberTree.MemberTree}
use Rattle.tsdl_grammar.specs.{declared.tree.Structure.Structure, declared.tree.Scope.Scope, declared.tree.Item.Item, declared.tree.Fact.Fact}
use Rattle.tsdl_grammar.specs.{declared.tree.NamedFact.NamedFact, declared.tree.Block.Block}
use Rattle.tsdl_grammar.specs.declared.token.Mark.TheVariants as marks
use Rattle.tsdl_grammar.specs.declared.atom.Atom.TheVariants as atoms
use Rattle.tsdl_grammar.specs.declared.tree.Value.TheVariants as values
use Rattle.tsdl_grammar.specs.declared.tree.Closing.TheVariants as closings
use Rattle.tsdl_grammar.specs.declared.tree.Entries.TheVariants as entries
use Rattle.tsdl_grammar.specs.declared.tree.Kind.TheVariants as kinds
use Rattle.tsdl_grammar.specs.declared.tree.Bracket.TheVariants as brackets
use Rattle.tsdl_grammar.specs.declared.tree.Item.TheVariants as items
use Rattle.tsdl_grammar.specs.declared.tree.Fact.TheVariants as facts
use Rattle.tsdl_grammar.specs.declared.tree.Block.TheVariants as blocks

abbrev pub mark : Mark → Atom
mark m = atoms.Mark m

abbrev pub word : List ℕ → Atom
word w = atoms.Word w

-- [ "-" | "+" ] literal
abbrev pub sign_toks : Option Sign → List Atom
sign_toks None = []
sign_toks (Some Plus) = mark marks.Plus ∷ []
sign_toks (Some Minus) = mark marks.Minus ∷ []

abbrev pub number_toks : Number → List Atom
number_toks n = sign_toks n.sign ++ atoms.Number n.literal ∷ []

-- identifier { "." identifier }
abbrev pub dotted : List ℕ → List Atom
dotted w = mark marks.Dot ∷ word w ∷ []

abbrev pub name_toks : Name → List Atom
name_toks n = word n.first ∷ flat_map dotted n.rest

-- number | string | name
abbrev pub value_toks : Value → List Atom
value_toks (values.Number n) = number_toks n
value_toks (values.Text s) = atoms.Text s ∷ []
value_toks (values.Name n) = name_toks n

-- name "=" value ";"
abbrev pub attr_toks : Attribute → List Atom
attr_toks a = name_toks a.name ++ mark marks.Equals ∷ value_toks a.value ++ mark marks.Semicolon ∷ []

-- "{" .. "}"
abbrev pub braced : List Atom → List Atom
braced inner = mark marks.OpenBrace ∷ inner ++ mark marks.CloseBrace ∷ []

abbrev pub attrs_toks : List Attribute → List Atom
attrs_toks attrs = braced (flat_map attr_toks attrs)

-- "integer" "{" { attribute } "}"
abbrev pub int_toks : List Attribute → List Atom
int_toks attrs = word (codes "integer") ∷ attrs_toks attrs

abbrev pub label_toks : Label → List Atom
label_toks (Quoted s) = atoms.Text s ∷ []
label_toks (Bare w) = word w ∷ []

-- [ "..." number ]
abbrev pub high_toks : Option Number → List Atom
high_toks None = []
high_toks (Some n) = mark marks.Ellipsis ∷ number_toks n

-- (string | identifier) "=" number [ "..." number ]
abbrev pub entry_toks : Entry → List Atom
entry_toks e = label_toks e.label ++ mark marks.Equals ∷ number_toks e.low ++ high_toks e.high

abbrev pub next_entry_toks : Entry → List Atom
next_entry_toks e = mark marks.Comma ∷ entry_toks e

abbrev pub closing_toks : Closing → List Atom
closing_toks closings.Plain = []
closing_toks closings.Comma = mark marks.Comma ∷ []

-- [ entry { "," entry } [ "," ] ]
abbrev pub entries_toks : Entries → List Atom
entries_toks entries.Empty = []
entries_toks (entries.Listed e es closing) = entry_toks e ++ flat_map next_entry_toks es ++ closing_toks closing

abbrev pub kind_toks : Kind → List Atom
kind_toks (kinds.Integer attrs) = int_toks attrs
kind_toks (kinds.Enumeration attrs es) = word (codes "enum") ∷ mark marks.Colon ∷ int_toks attrs ++ braced (entries_toks es)
kind_toks (kinds.Text None) = word (codes "string") ∷ []
kind_toks (kinds.Text (Some attrs)) = word (codes "string") ∷ attrs_toks attrs

-- "[" (number | identifier) "]"
abbrev pub bracket_toks : Bracket → List Atom
bracket_toks (brackets.Count n) = mark marks.OpenBracket ∷ number_toks n ++ mark marks.CloseBracket ∷ []
bracket_toks (brackets.Member w) = mark marks.OpenBracket ∷ word w ∷ mark marks.CloseBracket ∷ []

-- kind identifier { bracket } ";"
abbrev pub member_toks : MemberTree → List Atom
member_toks m = kind_toks m.kind ++ word m.name ∷ flat_map bracket_toks m.brackets ++ mark marks.Semicolon ∷ []

-- [ "align" "(" number ")" ]
abbrev pub align_toks : Option Number → List Atom
align_toks None = []
align_toks (Some n) = word (codes "align") ∷ mark marks.OpenParenthesis ∷ number_toks n ++ mark marks.CloseParenthesis ∷ []

-- "struct" "{" { member } "}" [ "align" "(" number ")" ]
abbrev pub struct_toks : Structure → List Atom
struct_toks s = word (codes "struct") ∷ braced (flat_map member_toks s.members) ++ align_toks s.align

-- name ":=" structure ";"
abbrev pub scope_toks : Scope → List Atom
scope_toks s = name_toks s.name ++ mark marks.Assign ∷ struct_toks s.structure ++ mark marks.Semicolon ∷ []

abbrev pub item_toks : Item → List Atom
item_toks (items.Attribute a) = attr_toks a
item_toks (items.Scope s) = scope_toks s

abbrev pub items_toks : List Item → List Atom
items_toks is = braced (flat_map item_toks is)

abbrev pub fact_toks : Fact → List Atom
fact_toks (facts.Number n) = number_toks n
fact_toks (facts.Text s) = atoms.Text s ∷ []

-- identifier "=" (number | string) ";"
abbrev pub named_fact_toks : NamedFact → List Atom
named_fact_toks f = word f.name ∷ mark marks.Equals ∷ fact_toks f.fact ++ mark marks.Semicolon ∷ []

abbrev pub block_toks : Block → List Atom
block_toks (blocks.Trace is) = word (codes "trace") ∷ items_toks is
block_toks (blocks.Stream is) = word (codes "stream") ∷ items_toks is
block_toks (blocks.Event is) = word (codes "event") ∷ items_toks is
block_toks (blocks.Clock is) = word (codes "clock") ∷ items_toks is
block_toks (blocks.Environment fs) = word (codes "env") ∷ braced (flat_map named_fact_toks fs)

abbrev pub block_and_semicolon : Block → List Atom
block_and_semicolon b = block_toks b ++ mark marks.Semicolon ∷ []

-- { block ";" }
abbrev pub text_toks : List Block → List Atom
text_toks bs = flat_map block_and_semicolon bs
