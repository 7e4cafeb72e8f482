-- What the meaning of a text says in the subject's words: where each part of an integer, of a structure and of the metadata comes from.
use Rattle.std.specs.Prelude.{◌≡◌, ℕ, ◌<◌, true, false, ◌&&◌, nat_le, List, [], ◌∷◌, length, map, slice_index_or, Some, IsTrue, pos, codes, flat_map, bytes_eq}
use Rattle.ctf_types.specs.{declared.Base.TheVariants.Dec, declared.IntType.IntType, declared.MemberType.MemberType, declared.StructType.StructType}
use Rattle.ctf_types.specs.{declared.ClockType.ClockType, declared.Metadata.Metadata, declared.Stream.Stream, declared.Event.Event}
use Rattle.ctf_types.specs.{Packets.own_names, declared.limits.TheConstants.MAX_MEMBERS}
use Rattle.tsdl_grammar.specs.{declared.tree.Attribute.Attribute, declared.tree.Structure.Structure, declared.tree.Item.Item, declared.tree.Block.Block}
use Rattle.tsdl_grammar.specs.Steps.{◌>>=◌, only, at_most_one, each}
use Rattle.tsdl_grammar.specs.Lookups.{attr, attrs_in, scopes_in, has_parts, no_two}
use Rattle.tsdl_grammar.specs.AttributeValues.{natural_value, whole_value, text_value, name_value, uuid_value, flag_value, with_default, optional}
use Rattle.tsdl_grammar.specs.IntegerMeaning.{Known, default_align, base_value, clock_value, int_attrs, has_only}
use Rattle.tsdl_grammar.specs.MemberMeaning.{is_unsigned}
use Rattle.tsdl_grammar.specs.StructureMeaning.{members_meaning, align_of, align_with, scope_meaning, has_member}
use Rattle.tsdl_grammar.specs.BlockMeaning.{is_trace, trace_order, trace_uuid, header_meaning, clock_meaning, environment_meaning, packet_context, event_header, event_context, suits, specific_context, fields_scope}
use Rattle.tsdl_grammar.specs.Denotes.{trace_in, stream_in, event_in, clock_in, environment_in, known_of, streams_meaning}

-- the attributes of an integer say its parts: the size is there, each other one has its default, and none stands twice
pub record SaysInteger (known : Known) (attrs : List Attribute) (t : IntType) : Type 0 where
  pub once : has_only int_attrs attrs ≡ true
  pub size : (attr (codes "size") attrs >>= natural_value) ≡ Some t.size
  pub align : with_default (default_align t.size) natural_value (attr (codes "align") attrs) ≡ Some t.align
  pub signed : with_default false flag_value (attr (codes "signed") attrs) ≡ Some t.signed
  pub base : with_default Dec base_value (attr (codes "base") attrs) ≡ Some t.base
  pub clock : optional (clock_value known.clocks) (attr (codes "map") attrs) ≡ Some t.clock

-- the attributes of a clock block say its parts
pub record SaysClock (is : List Item) (c : ClockType) : Type 0 where
  pub once : has_parts [] is ≡ true
  pub name : (attr (codes "name") (attrs_in is) >>= name_value) ≡ Some c.name
  pub uuid : optional uuid_value (attr (codes "uuid") (attrs_in is)) ≡ Some c.uuid
  pub description : optional text_value (attr (codes "description") (attrs_in is)) ≡ Some c.description
  pub frequency : with_default 1000000000 natural_value (attr (codes "freq") (attrs_in is)) ≡ Some c.frequency
  pub precision : with_default 0 natural_value (attr (codes "precision") (attrs_in is)) ≡ Some c.precision
  pub offset_seconds : with_default (pos 0) whole_value (attr (codes "offset_s") (attrs_in is)) ≡ Some c.offset_seconds
  pub offset_cycles : with_default 0 natural_value (attr (codes "offset") (attrs_in is)) ≡ Some c.offset_cycles
  pub absolute : with_default false flag_value (attr (codes "absolute") (attrs_in is)) ≡ Some c.absolute

-- a stream block says its number and its structures; its packet context has both sizes
pub record SaysStream (known : Known) (is : List Item) (s : Stream) : Type 0 where
  pub once : has_parts (packet_context ∷ event_header ∷ event_context ∷ []) is ≡ true
  pub id : with_default 0 natural_value (attr (codes "id") (attrs_in is)) ≡ Some s.id
  pub context : scope_meaning known packet_context (suits own_names) (scopes_in is) ≡ Some s.context
  pub header : scope_meaning known event_header (suits (codes "id" ∷ [])) (scopes_in is) ≡ Some s.event_header
  pub common : scope_meaning known event_context (λ m. true) (scopes_in is) ≡ Some s.common
  pub sizes : (has_member (codes "packet_size") s.context.members && has_member (codes "content_size") s.context.members) ≡ true

-- an event block says its stream's number and its own parts
pub record SaysEvent (known : Known) (is : List Item) (stream : ℕ) (e : Event) : Type 0 where
  pub once : has_parts (specific_context ∷ fields_scope ∷ []) is ≡ true
  pub name : (attr (codes "name") (attrs_in is) >>= name_value) ≡ Some e.name
  pub id : with_default 0 natural_value (attr (codes "id") (attrs_in is)) ≡ Some e.id
  pub stream_id : with_default 0 natural_value (attr (codes "stream_id") (attrs_in is)) ≡ Some stream
  pub log_level : optional natural_value (attr (codes "loglevel") (attrs_in is)) ≡ Some e.log_level
  pub specific : scope_meaning known specific_context (λ m. true) (scopes_in is) ≡ Some e.specific
  pub fields : scope_meaning known fields_scope (λ m. true) (scopes_in is) ≡ Some e.fields

-- a structure says its members, no more than the limit, and its minimum alignment
pub record SaysStructure (known : Known) (s : Structure) (t : StructType) : Type 0 where
  pub few : IsTrue (nat_le (length s.members) MAX_MEMBERS)
  pub members : members_meaning known [] s.members ≡ Some t.members
  pub align : (align_of s.align >>= λ align. Some (align_with t.members align)) ≡ Some t.min_align

-- the blocks of a text say the parts of its metadata
pub record SaysMetadata (bs : List Block) (m : Metadata) : Type 0 where
  pub trace : List Item
  pub one_trace : only (flat_map trace_in bs) ≡ Some trace
  pub version : is_trace trace ≡ true
  pub order : trace_order trace ≡ Some m.order
  pub uuid : trace_uuid trace ≡ Some m.uuid
  pub environment : (at_most_one (flat_map environment_in bs) >>= environment_meaning) ≡ Some m.environment
  pub clocks : each clock_meaning (flat_map clock_in bs) ≡ Some m.clocks
  pub clocks_once : no_two bytes_eq (map (λ c. c.name) m.clocks) ≡ true
  pub header : header_meaning (known_of m.order m.clocks) trace ≡ Some m.header
  pub streams : streams_meaning (known_of m.order m.clocks) bs ≡ Some m.streams

-- two texts have the same blocks of each kind, in the same order
pub record SameBlocks (bs cs : List Block) : Type 0 where
  pub traces : flat_map trace_in bs ≡ flat_map trace_in cs
  pub streams : flat_map stream_in bs ≡ flat_map stream_in cs
  pub events : flat_map event_in bs ≡ flat_map event_in cs
  pub clocks : flat_map clock_in bs ≡ flat_map clock_in cs
  pub environments : flat_map environment_in bs ≡ flat_map environment_in cs

-- the numbers rise
abbrev pub NumbersRise : {A : Type 0} → (A → ℕ) → List A → Type 0
NumbersRise number [] = Unit {0}
NumbersRise number (x ∷ []) = Unit {0}
NumbersRise number (x ∷ y ∷ xs) = (number x < number y) × NumbersRise number (y ∷ xs)

-- the member at a place stands before, and is an unsigned integer
pub record NamesLength (before : List (List ℕ × MemberType)) (place : ℕ) : Type 0 where
  pub stands_before : place < length before
  pub unsigned : (d : List ℕ × MemberType) → is_unsigned (slice_index_or before place d).1 ≡ true
