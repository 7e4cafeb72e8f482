-- Worked rows of what blocks mean: a small trace of one stream and one event, and texts that mean nothing.
use Rattle.std.proofs.Common.{◌≡◌, ℕ, List, [], ◌∷◌, map, Option, Some, None, refl, codes, option_map, replicate}
use Rattle.ctf_types.specs.{declared.ByteOrder.TheVariants.Big, declared.MemberType.MemberType, declared.MemberType.TheVariants.{Plain, Dyn}}
use Rattle.ctf_types.specs.{Allowed.elements_of, declared.Length.TheVariants.{Auto, At}}
use Rattle.tsdl_grammar.specs.{declared.tree.Number.Number, declared.tree.Name.Name, declared.tree.Attribute.Attribute, declared.tree.Bracket.Bracket}
use Rattle.tsdl_grammar.specs.{declared.tree.MemberTree.MemberTree, declared.tree.Item.Item, declared.tree.Block.Block}
use Rattle.tsdl_grammar.specs.declared.tree.Value.TheVariants as values
use Rattle.tsdl_grammar.specs.declared.tree.Bracket.TheVariants as brackets
use Rattle.tsdl_grammar.specs.declared.tree.Kind.TheVariants as kinds
use Rattle.tsdl_grammar.specs.declared.tree.Item.TheVariants as items
use Rattle.tsdl_grammar.specs.declared.tree.Block.TheVariants as blocks
use Rattle.tsdl_grammar.specs.{AttributeValues.flag_value, Denotes.{text_meta, streams_meaning}}
use Rattle.tsdl_grammar.specs.IntegerMeaning.{Known, int_meaning, int_type, order_value, clock_value}
use Rattle.tsdl_grammar.specs.MemberMeaning.{member_meaning, bracketed, kind_meaning}
use Rattle.tsdl_grammar.specs.StructureMeaning.{struct_meaning, struct_type, members_meaning}
use Rattle.tsdl_grammar.specs.BlockMeaning.{clock_meaning, trace_uuid, header_meaning, stream_meaning, event_meaning, environment_meaning}

abbrev name : List ℕ → Name
name w = record { first = w; rest = [] }

abbrev path : List ℕ → List ℕ → Name
path a b = record { first = a; rest = b ∷ [] }

abbrev number : ℕ → Number
number n = record { sign = None; literal = n }

abbrev count : List ℕ → ℕ → Attribute
count w n = record { name = name w; value = values.Number (number n) }

abbrev word : List ℕ → List ℕ → Attribute
word w v = record { name = name w; value = values.Name (name v) }

abbrev integer : List Attribute → List ℕ → List Bracket → MemberTree
integer attrs w bs = record { kind = kinds.Integer attrs; name = w; brackets = bs }

abbrev scope : Name → List MemberTree → Item
scope n ms = items.Scope (record { name = n; structure = record { members = ms; align = Some (number 8) } })

abbrev size_of : ℕ → List Attribute
size_of n = count (codes "size") n ∷ []

abbrev mapped_to : List ℕ → Attribute
mapped_to w = record { name = name (codes "map"); value = values.Name (record { first = codes "clock"; rest = w ∷ codes "value" ∷ [] }) }

abbrev known : Known
known = record { order = Big; clocks = codes "clk" ∷ [] }

-- an integer has 8 where its size is a multiple of 8, else 1, the network's order is big-endian, and a clock is mapped by its name
integers : (option_map (λ t. t.align) (int_meaning known (size_of 32)) ≡ Some 8)
    × (option_map (λ t. t.align) (int_meaning known (size_of 5)) ≡ Some 1)
    × (option_map (λ t. t.size) (int_meaning known (word (codes "byte_order") (codes "network") ∷ size_of 8)) ≡ Some 8)
    × (option_map (λ t. t.clock) (int_meaning known (mapped_to (codes "clk") ∷ size_of 8)) ≡ Some (Some (codes "clk")))
unfolding int_meaning int_type order_value clock_value
integers = (refl, refl, refl, refl)

-- no size, one above 64 bits, a size that stands twice, an order that isn't the trace's, and a clock that isn't there
no_integers : map (int_meaning known) ([] ∷ size_of 65 ∷ (count (codes "size") 8 ∷ size_of 8) ∷ (word (codes "byte_order") (codes "le") ∷ size_of 8) ∷ (mapped_to (codes "other") ∷ size_of 8) ∷ []) ≡ replicate 5 None
unfolding int_meaning int_type order_value clock_value
no_integers = refl

abbrev trace : Block
trace = blocks.Trace (items.Attribute (word (codes "byte_order") (codes "le")) ∷ items.Attribute (count (codes "minor") 8) ∷ items.Attribute (count (codes "major") 1)
    ∷ scope (path (codes "packet") (codes "header")) (integer (size_of 32) (codes "magic") [] ∷ []) ∷ [])

abbrev stream : List MemberTree → Block
stream ms = blocks.Stream (scope (path (codes "packet") (codes "context")) ms ∷ [])

abbrev sizes : List MemberTree
sizes = integer (size_of 32) (codes "packet_size") [] ∷ integer (size_of 32) (codes "content_size") [] ∷ []

abbrev event : List Bracket → Block
event bs = blocks.Event (items.Attribute (word (codes "name") (codes "e"))
    ∷ scope (name (codes "fields")) (integer (size_of 8) (codes "n") [] ∷ integer (size_of 8) (codes "v") bs ∷ []) ∷ [])

abbrev small : List Bracket → List Block
small bs = trace ∷ stream sizes ∷ event bs ∷ []

abbrev header : List Attribute → List ℕ → Block
header attrs w = blocks.Trace (items.Attribute (word (codes "byte_order") (codes "be")) ∷ items.Attribute (count (codes "major") 1) ∷ items.Attribute (count (codes "minor") 8)
    ∷ scope (path (codes "packet") (codes "header")) (integer attrs w [] ∷ []) ∷ [])

abbrev is_dyn : List ℕ × MemberType → Option ℕ
is_dyn (w, Plain t) = None
is_dyn (w, Dyn t Auto) = None
is_dyn (w, Dyn t (At i)) = Some i

-- blocks stand in any order, a sequence names an unsigned integer member that stands before, and a stream's number in the header has any size
texts : (option_map (λ m. map (λ s. map (λ x. x.0) s.context.members) m.streams) (text_meta (small [])) ≡ Some ((codes "packet_size" ∷ codes "content_size" ∷ []) ∷ []))
    × (option_map (λ m. map (λ s. map (λ e. e.name) s.events) m.streams) (text_meta (event [] ∷ stream sizes ∷ trace ∷ [])) ≡ Some ((codes "e" ∷ []) ∷ []))
    × (option_map (λ m. map (λ s. map (λ e. map is_dyn e.fields.members) s.events) m.streams) (text_meta (small (brackets.Member (codes "n") ∷ []))) ≡ Some (((None ∷ Some 0 ∷ []) ∷ []) ∷ []))
    × (option_map (λ m. m.order) (text_meta (header (size_of 16) (codes "stream_id") ∷ [])) ≡ Some Big)
unfolding text_meta streams_meaning trace_uuid header_meaning environment_meaning stream_meaning event_meaning struct_meaning struct_type members_meaning member_meaning kind_meaning int_meaning int_type bracketed elements_of
texts = (refl, refl, refl, refl)

-- a length that doesn't stand before, no sizes, no stream of an event, no trace, two of them, a stream that stands twice, nine brackets, and a header with a narrow magic number or a signed stream number
no_texts : map text_meta (small (brackets.Member (codes "v") ∷ []) ∷ (trace ∷ stream [] ∷ []) ∷ (trace ∷ event [] ∷ []) ∷ [] ∷ (trace ∷ trace ∷ []) ∷ (trace ∷ stream sizes ∷ stream sizes ∷ [])
    ∷ small (replicate 9 (brackets.Count (number 1))) ∷ (header (size_of 16) (codes "magic") ∷ []) ∷ (header (word (codes "signed") (codes "true") ∷ size_of 16) (codes "stream_id") ∷ []) ∷ []) ≡ replicate 9 None
unfolding text_meta streams_meaning trace_uuid header_meaning environment_meaning stream_meaning event_meaning struct_meaning struct_type members_meaning member_meaning kind_meaning int_meaning int_type bracketed flag_value
no_texts = refl

-- a clock has its defaults, but for its name
clocks : (option_map (λ c. c.frequency) (clock_meaning (items.Attribute (word (codes "name") (codes "clk")) ∷ [])) ≡ Some 1000000000) × (clock_meaning [] ≡ None)
unfolding clock_meaning
clocks = (refl, refl)
