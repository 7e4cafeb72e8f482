-- What each block of a metadata text means (CTF 1.8.3, section 7): the trace's, clocks', streams' and events' attributes with their
-- defaults, and the structures of their scopes. An attribute that no rule names is passed over. A number that is left out is 0.
use Rattle.std.specs.Prelude.{ℕ, Bool, true, false, not, ◌&&◌, ◌||◌, ◌==◌, nat_le, if◌then◌else◌, List, [], ◌∷◌, length, map, Option, Some, pos, codes, option_map, bytes_eq}
use Rattle.std.specs.{Option.option_map_or, List.list_any}
use Rattle.ctf_types.specs.{declared.ByteOrder.ByteOrder, declared.ByteOrder.TheVariants.{Little, Big}, declared.FieldType.TheVariants.{Int, Static}}
use Rattle.ctf_types.specs.{declared.MemberType.MemberType, declared.MemberType.TheVariants.Plain, declared.StructType.StructType, declared.ClockType.ClockType}
use Rattle.ctf_types.specs.{declared.EnvironmentEntry.EnvironmentEntry, declared.EnvironmentValue.EnvironmentValue, declared.Stream.Stream}
use Rattle.ctf_types.specs.declared.Event.{Event}
use Rattle.ctf_types.specs.declared.EnvironmentValue.TheVariants as environment
use Rattle.ctf_types.specs.{Chain.{Leaf, Number}, Packets.own_names, declared.limits.TheConstants.MAX_ENVIRONMENT}
use Rattle.tsdl_grammar.specs.{declared.tree.Attribute.Attribute, declared.tree.Item.Item, declared.tree.Fact.Fact, declared.tree.NamedFact.NamedFact}
use Rattle.tsdl_grammar.specs.declared.tree.Fact.TheVariants as facts
use Rattle.tsdl_grammar.specs.{IntegerMeaning.Known, MemberMeaning.is_unsigned, StructureMeaning.{scope_meaning, has_member}}
use Rattle.tsdl_grammar.specs.Steps.{◌>>=◌, provided, each}
use Rattle.tsdl_grammar.specs.Lookups.{attr, attrs_in, scopes_in, has_parts, no_two}
use Rattle.tsdl_grammar.specs.AttributeValues.{natural_value, whole, whole_value, text_value, word_value, name_value, flag_value, uuid_value, meant_by, with_default, optional}

-- a number of an attribute that is 0 where it is left out
abbrev pub number_or_zero : List ℕ → List Attribute → Option ℕ
number_or_zero w attrs = with_default 0 natural_value (attr w attrs)

abbrev pub order_table : List (List ℕ × ByteOrder)
order_table = (codes "le", Little) ∷ (codes "be", Big) ∷ []

-- `byte_order = le` or `be`
abbrev pub trace_order : List Item → Option ByteOrder
trace_order is = attr (codes "byte_order") (attrs_in is) >>= λ v. word_value v >>= λ w. meant_by order_table w

-- an attribute that is there and has this number
abbrev pub has_number : List ℕ → ℕ → List Item → Bool
has_number w n is = option_map_or (λ m. m == n) (attr w (attrs_in is) >>= natural_value) false

abbrev pub packet_header : List (List ℕ)
packet_header = codes "packet" ∷ codes "header" ∷ []

-- version 1.8, and no scope but the packet header
abbrev pub is_trace : List Item → Bool
is_trace is = has_parts (packet_header ∷ []) is && has_number (codes "major") 1 is && has_number (codes "minor") 8 is

unfoldable pub trace_uuid : List Item → Option (Option (List ℕ))
trace_uuid is = optional uuid_value (attr (codes "uuid") (attrs_in is))

-- an unsigned integer of this size
abbrev pub is_unsigned_of : ℕ → MemberType → Bool
is_unsigned_of size (Plain (Int t)) = not t.signed && t.size == size
is_unsigned_of size _ = false

-- an unsigned integer of 8 bits on any byte
abbrev pub is_byte : Leaf → Bool
is_byte (Number t) = not t.signed && t.size == 8 && t.align == 8
is_byte _ = false

abbrev pub is_flat : List ℕ → Bool
is_flat [] = true
is_flat (n ∷ ns) = false

-- an array of 16 bytes
abbrev pub is_uuid : MemberType → Bool
is_uuid (Plain (Static e n)) = n == 16 && is_flat e.lengths && is_byte e.leaf
is_uuid _ = false

-- `magic`, `uuid` and `stream_id` have their types (CTF 1.8.3, section 5.1)
abbrev pub suits_header : List ℕ × MemberType → Bool
suits_header m =
    if bytes_eq m.0 (codes "magic") then is_unsigned_of 32 m.1
    else (if bytes_eq m.0 (codes "uuid") then is_uuid m.1
    else (if bytes_eq m.0 (codes "stream_id") then is_unsigned m.1 else true))

unfoldable pub header_meaning : Known → List Item → Option StructType
header_meaning known is = scope_meaning known packet_header suits_header (scopes_in is)

unfoldable pub clock_meaning : List Item → Option ClockType
clock_meaning is = let attrs = attrs_in is in provided (has_parts [] is) (do
  name ← attr (codes "name") attrs >>= name_value
  uuid ← optional uuid_value (attr (codes "uuid") attrs)
  description ← optional text_value (attr (codes "description") attrs)
  frequency ← with_default 1000000000 natural_value (attr (codes "freq") attrs)
  precision ← number_or_zero (codes "precision") attrs
  offset_seconds ← with_default (pos 0) whole_value (attr (codes "offset_s") attrs)
  offset_cycles ← number_or_zero (codes "offset") attrs
  absolute ← with_default false flag_value (attr (codes "absolute") attrs)
  Some (record {
    name = name;
    uuid = uuid;
    description = description;
    frequency = frequency;
    precision = precision;
    offset_seconds = offset_seconds;
    offset_cycles = offset_cycles;
    absolute = absolute;
  }))

abbrev pub packet_context : List (List ℕ)
packet_context = codes "packet" ∷ codes "context" ∷ []

abbrev pub event_header : List (List ℕ)
event_header = codes "event" ∷ codes "header" ∷ []

abbrev pub event_context : List (List ℕ)
event_context = codes "event" ∷ codes "context" ∷ []

-- a member whose name has a meaning is an unsigned integer
abbrev pub suits : List (List ℕ) → List ℕ × MemberType → Bool
suits names m = not (list_any (bytes_eq m.0) names) || is_unsigned m.1

-- a stream without its events; its packet context has both sizes
unfoldable pub stream_meaning : Known → List Item → Option Stream
stream_meaning known is = let attrs = attrs_in is in let scopes = scopes_in is in
    provided (has_parts (packet_context ∷ event_header ∷ event_context ∷ []) is) (do
      id ← number_or_zero (codes "id") attrs
      context ← scope_meaning known packet_context (suits own_names) scopes
      header ← scope_meaning known event_header (suits (codes "id" ∷ [])) scopes
      common ← scope_meaning known event_context (λ m. true) scopes
      provided (has_member (codes "packet_size") context.members && has_member (codes "content_size") context.members)
          (Some (record { id = id; context = context; event_header = header; common = common; events = [] })))

abbrev pub specific_context : List (List ℕ)
specific_context = codes "context" ∷ []

abbrev pub fields_scope : List (List ℕ)
fields_scope = codes "fields" ∷ []

-- an event, and the number of its stream
unfoldable pub event_meaning : Known → List Item → Option (ℕ × Event)
event_meaning known is = let attrs = attrs_in is in let scopes = scopes_in is in
    provided (has_parts (specific_context ∷ fields_scope ∷ []) is) (do
      name ← attr (codes "name") attrs >>= name_value
      id ← number_or_zero (codes "id") attrs
      stream ← number_or_zero (codes "stream_id") attrs
      level ← optional natural_value (attr (codes "loglevel") attrs)
      specific ← scope_meaning known specific_context (λ m. true) scopes
      fields ← scope_meaning known fields_scope (λ m. true) scopes
      Some (stream, record { id = id; name = name; log_level = level; specific = specific; fields = fields }))

abbrev pub fact_meaning : Fact → Option EnvironmentValue
fact_meaning (facts.Number n) = option_map environment.Whole (whole n)
fact_meaning (facts.Text s) = Some (environment.Text s)

abbrev pub named_fact_meaning : NamedFact → Option EnvironmentEntry
named_fact_meaning f = option_map (λ value. record { name = f.name; value = value }) (fact_meaning f.fact)

-- no more names than the limit, of which none stands twice
unfoldable pub environment_meaning : List NamedFact → Option (List EnvironmentEntry)
environment_meaning fs = provided (nat_le (length fs) MAX_ENVIRONMENT && no_two bytes_eq (map (λ f. f.name) fs)) (each named_fact_meaning fs)
