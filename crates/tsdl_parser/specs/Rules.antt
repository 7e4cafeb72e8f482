-- The rules of the grammar at the front of a list of atoms: names, values and attributes, the entries of enumerations, types, members and
-- structures, scopes, environment entries and blocks, and a whole text's blocks (CTF 1.8.3, section 7 and appendix C).
use Rattle.std.specs.Prelude.{ℕ, List, ◌∷◌, length, Option, Some, Bool, true, false, ◌&&◌, if◌then◌else◌, [], None, codes}
use Rattle.tsdl_grammar.specs.declared.token.Mark.TheVariants as marks
pub use Rattle.tsdl_grammar.specs.declared.{atom.Atom.Atom, tree.Block.Block}
use Rattle.tsdl_grammar.specs.declared.atom.Atom.TheVariants as atoms
use Rattle.tsdl_grammar.specs.declared.{tree.Name.Name, tree.Value.Value, tree.Attribute.Attribute, tree.Number.Number, tree.Label.Label}
use Rattle.tsdl_grammar.specs.declared.{tree.Label.TheVariants.{Quoted, Bare}, tree.Entry.Entry, tree.Closing.Closing, tree.Entries.Entries, tree.Kind.Kind}
use Rattle.tsdl_grammar.specs.declared.{tree.Bracket.Bracket, tree.MemberTree.MemberTree, tree.Structure.Structure, tree.Scope.Scope, tree.Item.Item, tree.Fact.Fact}
use Rattle.tsdl_grammar.specs.declared.tree.NamedFact.{NamedFact}
use Rattle.tsdl_grammar.specs.declared.tree.Value.TheVariants as values
pub use Rattle.tsdl_grammar.specs.Fronts.{shown}
pub use Rattle.tsdl_parser.specs.Parsing.{Outcome, Found, Stopped, ◌>>=◌, Gives, IfHalted, HaltsAmong, Shortens, begins, mark_at, word_at, number_at, many, braced_at, is_mark, names, keyword_at, is_open}
use Rattle.tsdl_grammar.specs.declared.tree.Closing.TheVariants as closings
use Rattle.tsdl_grammar.specs.declared.tree.Entries.TheVariants as entries
use Rattle.tsdl_grammar.specs.declared.tree.Kind.TheVariants as kinds
use Rattle.tsdl_grammar.specs.declared.tree.Bracket.TheVariants as brackets
use Rattle.tsdl_grammar.specs.declared.tree.Item.TheVariants as items
use Rattle.tsdl_grammar.specs.declared.tree.Fact.TheVariants as facts
use Rattle.tsdl_grammar.specs.declared.tree.Block.TheVariants as blocks
use Rattle.tsdl_parser.specs.declared.repetition.Start.{Start}
use Rattle.tsdl_parser.specs.declared.repetition.Start.TheVariants as start

-- "." identifier
unfoldable pub dotted_at : List Atom → Outcome (List ℕ × List Atom)
dotted_at ts = mark_at marks.Dot ts >>= word_at

-- identifier { "." identifier }
unfoldable pub name_at : List Atom → Outcome (Name × List Atom)
name_at ts = do
  first ← word_at ts
  others ← many (begins marks.Dot) dotted_at first.1
  Found (record { first = first.0; rest = others.0 }, others.1)

-- number | string | name
unfoldable pub value_at : List Atom → Outcome (Value × List Atom)
value_at (atoms.Text s ∷ ts) = Found (values.Text s, ts)
value_at (atoms.Word w ∷ ts) = name_at (atoms.Word w ∷ ts) >>= λ n. Found (values.Name n.0, n.1)
value_at ts = number_at ts >>= λ n. Found (values.Number n.0, n.1)

-- "=" value ";" behind a name
unfoldable pub attr_behind : Name → List Atom → Outcome (Attribute × List Atom)
attr_behind name ts = do
  behind ← mark_at marks.Equals ts
  value ← value_at behind
  rest ← mark_at marks.Semicolon value.1
  Found (record { name = name; value = value.0 }, rest)

-- name "=" value ";"
unfoldable pub attr_at : List Atom → Outcome (Attribute × List Atom)
attr_at ts = name_at ts >>= λ name. attr_behind name.0 name.1

-- string | identifier
unfoldable pub label_at : List Atom → Outcome (Label × List Atom)
label_at (atoms.Text s ∷ ts) = Found (Quoted s, ts)
label_at (atoms.Word w ∷ ts) = Found (Bare w, ts)
label_at ts = Stopped (length ts)

-- [ "..." number ]
unfoldable pub high_at : List Atom → Outcome (Option Number × List Atom)
high_at ts =
    if begins marks.Ellipsis ts then (mark_at marks.Ellipsis ts >>= λ behind. number_at behind >>= λ n. Found (Some n.0, n.1))
    else Found (None, ts)

-- (string | identifier) "=" number [ "..." number ]
unfoldable pub entry_at : List Atom → Outcome (Entry × List Atom)
entry_at ts = do
  label ← label_at ts
  behind ← mark_at marks.Equals label.1
  low ← number_at behind
  high ← high_at low.1
  Found (record { label = label.0; low = low.0; high = high.0 }, high.1)

-- a label comes first
unfoldable pub is_labelled : List Atom → Bool
is_labelled (atoms.Text s ∷ ts) = true
is_labelled (atoms.Word w ∷ ts) = true
is_labelled _ = false

-- a comma with a label behind it
unfoldable pub is_next : List Atom → Bool
is_next [] = false
is_next (a ∷ ts) = is_mark marks.Comma a && is_labelled ts

-- "," entry
unfoldable pub next_entry_at : List Atom → Outcome (Entry × List Atom)
next_entry_at ts = mark_at marks.Comma ts >>= entry_at

-- [ "," ]
unfoldable pub closing_at : List Atom → Outcome (Closing × List Atom)
closing_at ts =
    if begins marks.Comma ts then (mark_at marks.Comma ts >>= λ rest. Found (closings.Comma, rest)) else Found (closings.Plain, ts)

-- entry { "," entry } [ "," ]
unfoldable pub listed_at : List Atom → Outcome (Entries × List Atom)
listed_at ts = do
  first ← entry_at ts
  others ← many is_next next_entry_at first.1
  closing ← closing_at others.1
  Found (entries.Listed first.0 others.0 closing.0, closing.1)

-- [ entry { "," entry } [ "," ] ]
unfoldable pub entries_at : List Atom → Outcome (Entries × List Atom)
entries_at ts = if is_labelled ts then listed_at ts else Found (entries.Empty, ts)

-- "integer" "{" { attribute } "}"
unfoldable pub int_at : List Atom → Outcome (List Attribute × List Atom)
int_at ts = keyword_at (codes "integer") ts >>= braced_at attr_at

-- "enum" ":" "integer" "{" { attribute } "}" "{" entries "}"
unfoldable pub enum_at : List Atom → Outcome (Kind × List Atom)
enum_at ts = do
  named ← keyword_at (codes "enum") ts
  behind ← mark_at marks.Colon named
  attrs ← int_at behind
  inside ← mark_at marks.OpenBrace attrs.1
  listed ← entries_at inside
  rest ← mark_at marks.CloseBrace listed.1
  Found (kinds.Enumeration attrs.0 listed.0, rest)

-- "string" [ "{" { attribute } "}" ]
unfoldable pub string_at : List Atom → Outcome (Kind × List Atom)
string_at ts = do
  behind ← keyword_at (codes "string") ts
  if begins marks.OpenBrace behind then (braced_at attr_at behind >>= λ attrs. Found (kinds.Text (Some attrs.0), attrs.1))
      else Found (kinds.Text None, behind)

unfoldable pub kind_at : List Atom → Outcome (Kind × List Atom)
kind_at ts =
    if names (codes "integer") ts then (int_at ts >>= λ attrs. Found (kinds.Integer attrs.0, attrs.1))
    else (if names (codes "enum") ts then enum_at ts else string_at ts)

-- number | identifier
unfoldable pub count_at : List Atom → Outcome (Bracket × List Atom)
count_at (atoms.Word w ∷ ts) = Found (brackets.Member w, ts)
count_at ts = number_at ts >>= λ n. Found (brackets.Count n.0, n.1)

-- "[" (number | identifier) "]"
unfoldable pub bracket_at : List Atom → Outcome (Bracket × List Atom)
bracket_at ts = do
  inside ← mark_at marks.OpenBracket ts
  count ← count_at inside
  rest ← mark_at marks.CloseBracket count.1
  Found (count.0, rest)

-- kind identifier { bracket } ";"
unfoldable pub member_at : List Atom → Outcome (MemberTree × List Atom)
member_at ts = do
  kind ← kind_at ts
  name ← word_at kind.1
  lengths ← many (begins marks.OpenBracket) bracket_at name.1
  rest ← mark_at marks.Semicolon lengths.1
  Found (record { kind = kind.0; name = name.0; brackets = lengths.0 }, rest)

-- [ "align" "(" number ")" ]
unfoldable pub align_at : List Atom → Outcome (Option Number × List Atom)
align_at ts =
    if names (codes "align") ts then (do
      named ← keyword_at (codes "align") ts
      inside ← mark_at marks.OpenParenthesis named
      n ← number_at inside
      rest ← mark_at marks.CloseParenthesis n.1
      Found (Some n.0, rest))
    else Found (None, ts)

-- "struct" "{" { member } "}" [ "align" "(" number ")" ]
unfoldable pub struct_at : List Atom → Outcome (Structure × List Atom)
struct_at ts = do
  named ← keyword_at (codes "struct") ts
  members ← braced_at member_at named
  align ← align_at members.1
  Found (record { members = members.0; align = align.0 }, align.1)

-- ":=" structure ";" behind a name
unfoldable pub scope_behind : Name → List Atom → Outcome (Scope × List Atom)
scope_behind name ts = do
  behind ← mark_at marks.Assign ts
  structure ← struct_at behind
  rest ← mark_at marks.Semicolon structure.1
  Found (record { name = name; structure = structure.0 }, rest)

-- attribute | scope
unfoldable pub item_at : List Atom → Outcome (Item × List Atom)
item_at ts = do
  name ← name_at ts
  if begins marks.Equals name.1 then (attr_behind name.0 name.1 >>= λ a. Found (items.Attribute a.0, a.1))
      else (scope_behind name.0 name.1 >>= λ s. Found (items.Scope s.0, s.1))

-- "{" { attribute | scope } "}" behind a word
unfoldable pub items_at : List ℕ → List Atom → Outcome (List Item × List Atom)
items_at keyword ts = keyword_at keyword ts >>= braced_at item_at

-- number | string
unfoldable pub fact_at : List Atom → Outcome (Fact × List Atom)
fact_at (atoms.Text s ∷ ts) = Found (facts.Text s, ts)
fact_at ts = number_at ts >>= λ n. Found (facts.Number n.0, n.1)

-- identifier "=" (number | string) ";"
unfoldable pub named_fact_at : List Atom → Outcome (NamedFact × List Atom)
named_fact_at ts = do
  name ← word_at ts
  behind ← mark_at marks.Equals name.1
  fact ← fact_at behind
  rest ← mark_at marks.Semicolon fact.1
  Found (record { name = name.0; fact = fact.0 }, rest)

-- the items of a trace, a stream, an event or a clock behind its word, or "env" "{" { identifier "=" (number | string) ";" } "}"
unfoldable pub block_at : List Atom → Outcome (Block × List Atom)
block_at ts =
    if names (codes "trace") ts then (items_at (codes "trace") ts >>= λ x. Found (blocks.Trace x.0, x.1))
    else (if names (codes "stream") ts then (items_at (codes "stream") ts >>= λ x. Found (blocks.Stream x.0, x.1))
    else (if names (codes "event") ts then (items_at (codes "event") ts >>= λ x. Found (blocks.Event x.0, x.1))
    else (if names (codes "clock") ts then (items_at (codes "clock") ts >>= λ x. Found (blocks.Clock x.0, x.1))
    else (keyword_at (codes "env") ts >>= λ named. braced_at named_fact_at named >>= λ x. Found (blocks.Environment x.0, x.1)))))

-- block ";"
unfoldable pub ended_block_at : List Atom → Outcome (Block × List Atom)
ended_block_at ts = do
  block ← block_at ts
  rest ← mark_at marks.Semicolon block.1
  Found (block.0, rest)

-- the text has not ended
abbrev pub has_more : List Atom → Bool
has_more [] = false
has_more (a ∷ ts) = true

-- { block ";" }, up to the end
abbrev pub all_blocks_at : List Atom → Outcome (List Block × List Atom)
all_blocks_at ts = many has_more ended_block_at ts

abbrev pub starts : Start → List Atom → Bool
starts (start.Mark m) = begins m
starts start.NextEntry = is_next
starts start.InBraces = is_open
starts start.InText = has_more
