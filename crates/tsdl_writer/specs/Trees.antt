-- The trees of a configuration's metadata text: integers with their size, alignment, sign, display base as a number, and clock; enumerations with their
-- ranges, strings with their encoding; structures with members, and a dynamic array as its length and then an array of that length (CTF 1.8.3, section 4);
-- the trace's block, the environment where it is not empty, the clocks, the streams by number, the events by stream and number (section 7).
use Rattle.std.specs.Prelude.{ℕ, suc, Bool, true, false, if◌then◌else◌, List, [], ◌∷◌, ◌++◌, map, Option, Some, None, ℤ, pos, negsuc, int_le, codes, ◌+◌, flat_map}
use Rattle.ctf_types.specs.declared.{Base.Base, Base.TheVariants.{Bin, Oct, Dec, Hex}, IntType.IntType, Mapping.Mapping, FieldType.TheVariants.Int}
use Rattle.ctf_types.specs.declared.{Length.TheVariants.{Auto, At}, MemberType.MemberType, MemberType.TheVariants.{Plain, Dyn}, ByteOrder.ByteOrder}
use Rattle.ctf_types.specs.declared.{ByteOrder.TheVariants.{Little, Big}, ClockType.ClockType, EnvironmentEntry.EnvironmentEntry, EnvironmentValue.EnvironmentValue}
use Rattle.ctf_types.specs.declared.{Config.Config, StreamType.StreamType, EventType.EventType}
use Rattle.ctf_types.specs.{Chain.{Leaf, Chain, Number, Labelled, ByteString}, FieldTypes.chain_of, Shown.{length_name, length_type}}
use Rattle.ctf_types.specs.MetadataOf.{header_members, context_numbers, event_header_members}
use Rattle.tsdl_grammar.specs.declared.{atom.Atom.Atom, tree.Sign.TheVariants.Minus, tree.Name.Name, tree.Value.Value, tree.Attribute.Attribute}
use Rattle.tsdl_grammar.specs.declared.{tree.Label.TheVariants.Quoted, tree.Entry.Entry, tree.Entries.Entries, tree.Kind.Kind, tree.Bracket.Bracket}
use Rattle.tsdl_grammar.specs.declared.{tree.MemberTree.MemberTree, tree.Structure.Structure, tree.Item.Item, tree.Fact.Fact, tree.NamedFact.NamedFact, tree.Block.Block}
use Rattle.tsdl_grammar.specs.declared.tree.Number as numbers
use Rattle.tsdl_grammar.specs.declared.tree.Value.TheVariants as values
use Rattle.tsdl_grammar.specs.declared.tree.Closing.TheVariants as closings
use Rattle.tsdl_grammar.specs.declared.tree.Entries.TheVariants as entries
use Rattle.tsdl_grammar.specs.declared.tree.Kind.TheVariants as kinds
use Rattle.tsdl_grammar.specs.declared.tree.Bracket.TheVariants as brackets
use Rattle.tsdl_grammar.specs.Spelling.{member_toks}
use Rattle.uuid.specs.Text.{hyphenated_text, lower}
use Rattle.ctf_types.specs.declared.EnvironmentValue.TheVariants as environment
use Rattle.tsdl_grammar.specs.declared.token.Mark.TheVariants as marks
use Rattle.tsdl_grammar.specs.declared.atom.Atom.TheVariants as atoms
use Rattle.tsdl_grammar.specs.declared.tree.Item.TheVariants as items
use Rattle.tsdl_grammar.specs.declared.tree.Fact.TheVariants as facts
use Rattle.tsdl_grammar.specs.declared.tree.Block.TheVariants as blocks

abbrev pub natural_number : ℕ → numbers.Number
natural_number n = record { sign = None; literal = n }

abbrev pub whole_number : ℤ → numbers.Number
whole_number (pos n) = natural_number n
whole_number (negsuc n) = record { sign = Some Minus; literal = suc n }

abbrev pub one_word : List ℕ → Name
one_word w = record { first = w; rest = [] }

abbrev pub attribute : List ℕ → Value → Attribute
attribute w v = record { name = one_word w; value = v }

abbrev pub natural_attribute : List ℕ → ℕ → Attribute
natural_attribute w n = attribute w (values.Number (natural_number n))

abbrev pub word_attribute : List ℕ → List ℕ → Attribute
word_attribute w v = attribute w (values.Name (one_word v))

abbrev pub flag_word : Bool → List ℕ
flag_word true = codes "true"
flag_word false = codes "false"

abbrev pub base_number : Base → ℕ
base_number Bin = 2
base_number Oct = 8
base_number Dec = 10
base_number Hex = 16

-- `map = clock.NAME.value`
abbrev pub mapping_attributes : Option (List ℕ) → List Attribute
mapping_attributes None = []
mapping_attributes (Some clock) = attribute (codes "map") (values.Name (record { first = codes "clock"; rest = clock ∷ codes "value" ∷ [] })) ∷ []

abbrev pub attributes : ℕ → ℕ → Bool → Base → Option (List ℕ) → List Attribute
attributes size align signed base clock =
    natural_attribute (codes "size") size ∷ natural_attribute (codes "align") align ∷ word_attribute (codes "signed") (flag_word signed)
    ∷ natural_attribute (codes "base") (base_number base) ∷ mapping_attributes clock

abbrev pub integer_attributes : IntType → List Attribute
integer_attributes t = attributes t.size t.align t.signed t.base t.clock

-- the end of a range, where it has more than one number
abbrev pub high_number : ℤ → ℤ → Option numbers.Number
high_number low high = if int_le high low then None else Some (whole_number high)

abbrev pub entry_tree : Mapping → Entry
entry_tree m = record { label = Quoted m.label; low = whole_number m.low; high = high_number m.low m.high }

abbrev pub entry_trees : List Mapping → Entries
entry_trees [] = entries.Empty
entry_trees (m ∷ ms) = entries.Listed (entry_tree m) (map entry_tree ms) closings.Plain

abbrev pub kind_tree : Leaf → Kind
kind_tree (Number t) = kinds.Integer (integer_attributes t)
kind_tree (Labelled t) = kinds.Enumeration (integer_attributes t.int) (entry_trees t.mappings)
kind_tree ByteString = kinds.Text (Some (word_attribute (codes "encoding") (codes "UTF8") ∷ []))

abbrev pub count_bracket : ℕ → Bracket
count_bracket n = brackets.Count (natural_number n)

-- a member of such a type; what stands in front of the static arrays' brackets
abbrev pub member_tree : List ℕ → Chain → List Bracket → MemberTree
member_tree name chain outer = record { kind = kind_tree chain.leaf; name = name; brackets = outer ++ map count_bracket chain.lengths }

-- the length of a dynamic array of this name, and the array itself
abbrev pub length_member : List ℕ → MemberTree
length_member name = member_tree (length_name name) (chain_of (Int length_type)) []

abbrev pub array_member : List ℕ → Chain → MemberTree
array_member name chain = member_tree name chain (brackets.Member (length_name name) ∷ [])

-- a configuration has no dynamic array of a listed length
abbrev pub member_trees : List ℕ × MemberType → List MemberTree
member_trees (name, Plain t) = member_tree name (chain_of t) [] ∷ []
member_trees (name, Dyn t Auto) = length_member name ∷ array_member name (chain_of t) ∷ []
member_trees (name, Dyn t (At i)) = []

abbrev pub structure_tree : List (List ℕ × MemberType) → ℕ → Structure
structure_tree members align = record { members = flat_map member_trees members; align = Some (natural_number align) }

-- how the members for one of a configuration are spelled
abbrev pub member_toks_of : List ℕ × MemberType → List Atom
member_toks_of m = flat_map member_toks (member_trees m)

abbrev pub natural_item : List ℕ → ℕ → Item
natural_item w n = items.Attribute (natural_attribute w n)

abbrev pub word_item : List ℕ → List ℕ → Item
word_item w v = items.Attribute (word_attribute w v)

abbrev pub text_item : List ℕ → List ℕ → Item
text_item w s = items.Attribute (attribute w (values.Text s))

abbrev pub whole_item : List ℕ → ℤ → Item
whole_item w z = items.Attribute (attribute w (values.Number (whole_number z)))

-- attributes where something is given
abbrev pub optional_items : {A : Type 0} → (A → Item) → Option A → List Item
optional_items item None = []
optional_items item (Some x) = item x ∷ []

-- an identifier with hyphens and small letters
abbrev pub uuid_item : List ℕ → Item
uuid_item uuid = text_item (codes "uuid") (hyphenated_text lower uuid)

-- a structure under its name, where it has members
abbrev pub scope_items : Name → List (List ℕ × MemberType) → ℕ → List Item
scope_items name [] align = []
scope_items name (m ∷ ms) align = items.Scope (record { name = name; structure = structure_tree (m ∷ ms) align }) ∷ []

-- how a structure's last line ends
abbrev pub closing : ℕ → List Atom
closing align =
    atoms.Mark marks.CloseBrace ∷ atoms.Word (codes "align") ∷ atoms.Mark marks.OpenParenthesis ∷ atoms.Number align ∷ atoms.Mark marks.CloseParenthesis
    ∷ atoms.Mark marks.Semicolon ∷ []

abbrev pub two_words : List ℕ → List ℕ → Name
two_words a b = record { first = a; rest = b ∷ [] }

abbrev pub order_word : ByteOrder → List ℕ
order_word Little = codes "le"
order_word Big = codes "be"

abbrev pub trace_items : Option (List ℕ) → ByteOrder → List (List ℕ × MemberType) → List Item
trace_items uuid order header =
    natural_item (codes "major") 1 ∷ natural_item (codes "minor") 8 ∷ optional_items uuid_item uuid
    ++ word_item (codes "byte_order") (order_word order) ∷ scope_items (two_words (codes "packet") (codes "header")) header 8

abbrev pub fact_tree : EnvironmentValue → Fact
fact_tree (environment.Whole z) = facts.Number (whole_number z)
fact_tree (environment.Text s) = facts.Text s

abbrev pub named_fact_tree : EnvironmentEntry → NamedFact
named_fact_tree e = record { name = e.name; fact = fact_tree e.value }

abbrev pub environment_blocks : List EnvironmentEntry → List Block
environment_blocks [] = []
environment_blocks (e ∷ es) = blocks.Environment (map named_fact_tree (e ∷ es)) ∷ []

abbrev pub clock_numbers : ClockType → List Item
clock_numbers c =
    natural_item (codes "freq") c.frequency ∷ natural_item (codes "precision") c.precision ∷ whole_item (codes "offset_s") c.offset_seconds
    ∷ natural_item (codes "offset") c.offset_cycles ∷ []

abbrev pub clock_items : ClockType → List Item
clock_items c =
    word_item (codes "name") c.name ∷ optional_items uuid_item c.uuid ++ optional_items (text_item (codes "description")) c.description
    ++ clock_numbers c ++ word_item (codes "absolute") (flag_word c.absolute) ∷ []

abbrev pub stream_items : ℕ → List (List ℕ × MemberType) → List (List ℕ × MemberType) → List (List ℕ × MemberType) → ℕ → List Item
stream_items id context header common align =
    natural_item (codes "id") id
    ∷ scope_items (two_words (codes "packet") (codes "context")) context 8
    ++ scope_items (two_words (codes "event") (codes "header")) header 8
    ++ scope_items (two_words (codes "event") (codes "context")) common align

abbrev pub event_items : ℕ → ℕ → List ℕ → Option ℕ → List (List ℕ × MemberType) → ℕ → List (List ℕ × MemberType) → ℕ → List Item
event_items stream id name level specific align fields fields_align =
    text_item (codes "name") name ∷ natural_item (codes "id") id ∷ natural_item (codes "stream_id") stream
    ∷ optional_items (natural_item (codes "loglevel")) level
    ++ scope_items (one_word (codes "context")) specific align
    ++ scope_items (one_word (codes "fields")) fields fields_align

abbrev pub trace_block : Config → Block
trace_block c = blocks.Trace (trace_items c.uuid c.order (header_members c.header))

abbrev pub clock_block : ClockType → Block
clock_block c = blocks.Clock (clock_items c)

abbrev pub stream_block : ℕ → StreamType → Block
stream_block id s = blocks.Stream (stream_items id (context_numbers s.context ++ s.extras.members) (event_header_members s.event_header) s.common.members s.common.min_align)

abbrev pub event_block : ℕ → ℕ → EventType → Block
event_block stream id e = blocks.Event (event_items stream id e.name e.log_level e.specific.members e.specific.min_align e.payload.members e.payload.min_align)

-- what is made of each item and its number, one after the other
abbrev pub numbered : {A B : Type 0} → (ℕ → A → List B) → ℕ → List A → List B
numbered f n [] = []
numbered f n (x ∷ xs) = f n x ++ numbered f (n + 1) xs

abbrev pub stream_blocks : ℕ → List StreamType → List Block
stream_blocks n ss = numbered (λ id s. stream_block id s ∷ []) n ss

-- the events of one stream
abbrev pub event_blocks : ℕ → ℕ → List EventType → List Block
event_blocks stream n es = numbered (λ id e. event_block stream id e ∷ []) n es

-- the events of all streams
abbrev pub all_event_blocks : ℕ → List StreamType → List Block
all_event_blocks n ss = numbered (λ stream s. event_blocks stream 0 s.events) n ss

abbrev pub blocks_of : Config → List Block
blocks_of c = trace_block c ∷ environment_blocks c.environment ++ map clock_block c.clocks ++ stream_blocks 0 c.streams ++ all_event_blocks 0 c.streams
