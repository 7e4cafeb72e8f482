-- The table, written out (barectf 3.1, "Configuration object" and the pages below it): each property of each object, whether it has to be there, and what its value
-- is; what each map and each list holds; and the words of classes. Highest numbers of 64 bits, numbers of clocks and streams, and lengths of texts are as docs/LIMITS.md has them.
use Rattle.std.proofs.Common.{◌≡◌, ℕ, ℤ, List, [], ◌∷◌, Option, Some, None, refl, true, false}
use Rattle.std.specs.Prelude.{codes, pos, negsuc}
use Rattle.conf_table.specs.declared.place.Place.{Place}
use Rattle.conf_table.specs.declared.place.Place.TheVariants as places
use Rattle.conf_table.specs.declared.row.Presence.{Presence}
use Rattle.conf_table.specs.declared.row.Presence.TheVariants.{Needed, Optional, Number, Flag, Decimal, ByteAlignment, OneOrder, WithIdentifier, WithClock, UntilResolved}
use Rattle.conf_table.specs.declared.row.Content.{Content}
use Rattle.conf_table.specs.declared.row.Content.TheVariants.{At, Anything}
use Rattle.conf_table.specs.declared.row.Content.TheVariants as contents
use Rattle.conf_table.specs.declared.row.Keys.{Keys}
use Rattle.conf_table.specs.declared.row.Keys.TheVariants as keys
use Rattle.conf_table.specs.declared.row.Entries.{Entries}
use Rattle.conf_table.specs.declared.words.Words.TheVariants.{ByteOrder, DisplayBase}
use Rattle.conf_table.specs.Classes.{ClassWord, class_words}
use Rattle.conf_table.specs.Table.{Told, told, rows_of, entries_of}

-- numbers of 64 bits with a sign, and those without one
abbrev least : ℤ
least = negsuc 9223372036854775807

abbrev most : ℤ
most = pos 9223372036854775807

abbrev unsigned : Content
unsigned = contents.Whole (pos 0) (pos 18446744073709551615)

-- an alignment is a power of two
abbrev alignment : Content
alignment = contents.PowerOfTwo 4096

abbrev on : Presence
on = Flag true

abbrev off : Presence
off = Flag false

-- ---- objects

root : rows_of places.Root ≡ told (codes "trace") Needed (At places.Trace) ∷ told (codes "options") Optional Anything ∷ []
unfolding rows_of
root = refl

trace : rows_of places.Trace ≡ told (codes "type") Needed (At places.TraceType) ∷ told (codes "environment") Optional (At places.Environment) ∷ []
unfolding rows_of
trace = refl

trace_type : rows_of places.TraceType ≡
    told (codes "trace-byte-order") OneOrder (contents.Word ByteOrder)
    ∷ told (codes "native-byte-order") OneOrder (contents.Word ByteOrder)
    ∷ told (codes "uuid") Optional contents.IdentifierOrAuto
    ∷ told (codes "clock-types") Optional (At places.ClockTypes)
    ∷ told (codes "data-stream-types") Optional (At places.StreamTypes)
    ∷ told (codes "$features") Optional (At places.TraceFeatures)
    ∷ told (codes "$field-type-aliases") Optional (At places.FieldTypeAliases)
    ∷ told (codes "$log-level-aliases") Optional (At places.LogLevelAliases)
    ∷ []
unfolding rows_of
trace_type = refl

trace_features : rows_of places.TraceFeatures ≡
    told (codes "magic-field-type") on (At places.MagicFeature)
    ∷ told (codes "uuid-field-type") WithIdentifier (At places.IdentifierFeature)
    ∷ told (codes "data-stream-type-id-field-type") on (At places.Feature)
    ∷ []
unfolding rows_of
trace_features = refl

clock_type : rows_of places.ClockType ≡
    told (codes "frequency") (Number 1000000000) (contents.Whole (pos 1) (pos 18446744073709551615))
    ∷ told (codes "description") Optional (contents.Text 4096)
    ∷ told (codes "uuid") Optional contents.Identifier
    ∷ told (codes "precision") (Number 0) unsigned
    ∷ told (codes "offset") Optional (At places.ClockOffset)
    ∷ told (codes "origin-is-unix-epoch") on contents.Flag
    ∷ told (codes "$c-type") Optional Anything
    ∷ []
unfolding rows_of
clock_type = refl

clock_offset : rows_of places.ClockOffset ≡ told (codes "seconds") (Number 0) (contents.Whole least most) ∷ told (codes "cycles") (Number 0) unsigned ∷ []
unfolding rows_of
clock_offset = refl

stream_type : rows_of places.StreamType ≡
    told (codes "$is-default") off contents.OneFlag
    ∷ told (codes "$default-clock-type-name") Optional contents.ClockName
    ∷ told (codes "$features") Optional (At places.StreamFeatures)
    ∷ told (codes "packet-context-field-type-extra-members") Optional (At places.ExtraMembers)
    ∷ told (codes "event-record-common-context-field-type") Optional (At places.StructureType)
    ∷ told (codes "event-record-types") Optional (At places.EventTypes)
    ∷ []
unfolding rows_of
stream_type = refl

stream_features : rows_of places.StreamFeatures ≡ told (codes "packet") Optional (At places.PacketFeatures) ∷ told (codes "event-record") Optional (At places.EventRecordFeatures) ∷ []
unfolding rows_of
stream_features = refl

packet_features : rows_of places.PacketFeatures ≡
    told (codes "total-size-field-type") on (At places.SizeFeature)
    ∷ told (codes "content-size-field-type") on (At places.SizeFeature)
    ∷ told (codes "beginning-timestamp-field-type") WithClock (At places.Feature)
    ∷ told (codes "end-timestamp-field-type") WithClock (At places.Feature)
    ∷ told (codes "discarded-event-records-counter-snapshot-field-type") on (At places.Feature)
    ∷ told (codes "sequence-number-field-type") off (At places.Feature)
    ∷ []
unfolding rows_of
packet_features = refl

event_record_features : rows_of places.EventRecordFeatures ≡
    told (codes "type-id-field-type") on (At places.Feature) ∷ told (codes "timestamp-field-type") WithClock (At places.Feature) ∷ []
unfolding rows_of
event_record_features = refl

event_type : rows_of places.EventType ≡
    told (codes "log-level") Optional (contents.Level most)
    ∷ told (codes "specific-context-field-type") Optional (At places.StructureType)
    ∷ told (codes "payload-field-type") Optional (At places.StructureType)
    ∷ []
unfolding rows_of
event_type = refl

member : rows_of places.Member ≡ told (codes "$inherit") UntilResolved (At places.FieldType) ∷ told (codes "field-type") Needed (At places.MemberType) ∷ []
unfolding rows_of
member = refl

-- ---- field types: each has a class, and may inherit

abbrev type_rows : List Told → List Told
type_rows rest = told (codes "class") Needed contents.Class ∷ told (codes "$inherit") UntilResolved (At places.FieldType) ∷ rest

abbrev integer_rows : List Told
integer_rows =
    told (codes "size") Needed (contents.Whole (pos 1) (pos 64))
    ∷ told (codes "alignment") ByteAlignment alignment
    ∷ told (codes "preferred-display-base") Decimal (contents.Word DisplayBase)
    ∷ []

field_type : rows_of places.FieldType ≡ type_rows []
unfolding rows_of
field_type = refl

unsigned_integer : rows_of places.UnsignedInteger ≡ type_rows integer_rows
unfolding rows_of
unsigned_integer = refl

signed_integer : rows_of places.SignedInteger ≡ type_rows integer_rows
unfolding rows_of
signed_integer = refl

unsigned_enumeration : rows_of places.UnsignedEnumeration ≡ type_rows (told (codes "mappings") Needed (At places.Mappings) ∷ integer_rows)
unfolding rows_of
unsigned_enumeration = refl

signed_enumeration : rows_of places.SignedEnumeration ≡ type_rows (told (codes "mappings") Needed (At places.Mappings) ∷ integer_rows)
unfolding rows_of
signed_enumeration = refl

string : rows_of places.Str ≡ type_rows []
unfolding rows_of
string = refl

static_array : rows_of places.StaticArray ≡
    type_rows (told (codes "element-field-type") Needed (At places.ElementType) ∷ told (codes "length") Needed (contents.Whole (pos 0) (pos 1048576)) ∷ [])
unfolding rows_of
static_array = refl

dynamic_array : rows_of places.DynamicArray ≡ type_rows (told (codes "element-field-type") Needed (At places.DynamicElementType) ∷ [])
unfolding rows_of
dynamic_array = refl

structure : rows_of places.Structure ≡ type_rows (told (codes "members") Optional (At places.Members) ∷ told (codes "minimum-alignment") (Number 1) alignment ∷ [])
unfolding rows_of
structure = refl

-- the words of each class, those of one class beside one another
abbrev class : List ℕ → Place → ClassWord
class word place = record { word = word; place = place }

classes : class_words ≡
    class (codes "unsigned-integer") places.UnsignedInteger
    ∷ class (codes "unsigned-int") places.UnsignedInteger
    ∷ class (codes "uint") places.UnsignedInteger
    ∷ class (codes "signed-integer") places.SignedInteger
    ∷ class (codes "signed-int") places.SignedInteger
    ∷ class (codes "sint") places.SignedInteger
    ∷ class (codes "unsigned-enumeration") places.UnsignedEnumeration
    ∷ class (codes "unsigned-enum") places.UnsignedEnumeration
    ∷ class (codes "uenum") places.UnsignedEnumeration
    ∷ class (codes "signed-enumeration") places.SignedEnumeration
    ∷ class (codes "signed-enum") places.SignedEnumeration
    ∷ class (codes "senum") places.SignedEnumeration
    ∷ class (codes "string") places.Str
    ∷ class (codes "str") places.Str
    ∷ class (codes "static-array") places.StaticArray
    ∷ class (codes "dynamic-array") places.DynamicArray
    ∷ class (codes "structure") places.Structure
    ∷ class (codes "struct") places.Structure
    ∷ []
unfolding class_words
classes = refl

-- ---- maps and lists

abbrev holds : Keys → Option ℕ → Content → Option Entries
holds by most content = Some (record { keys = by; most = most; content = content })

environment : entries_of places.Environment ≡ holds keys.PlainName (Some 256) (contents.WholeOrText least most 4096)
unfolding entries_of
environment = refl

field_type_aliases : entries_of places.FieldTypeAliases ≡ holds keys.Name (Some 1024) (At places.FieldType)
unfolding entries_of
field_type_aliases = refl

log_level_aliases : entries_of places.LogLevelAliases ≡ holds keys.Name (Some 1024) (contents.Whole (pos 0) most)
unfolding entries_of
log_level_aliases = refl

clock_types : entries_of places.ClockTypes ≡ holds keys.PlainName (Some 64) (At places.ClockType)
unfolding entries_of
clock_types = refl

stream_types : entries_of places.StreamTypes ≡ holds keys.Name (Some 64) (At places.StreamType)
unfolding entries_of
stream_types = refl

event_types : entries_of places.EventTypes ≡ holds keys.Name (Some 1024) (At places.EventType)
unfolding entries_of
event_types = refl

entry : entries_of places.Entry ≡ holds keys.PlainName None (At places.Member)
unfolding entries_of
entry = refl

mappings : entries_of places.Mappings ≡ holds keys.Label None (At places.Ranges)
unfolding entries_of
mappings = refl

members : entries_of places.Members ≡ holds keys.Index (Some 256) (At places.Entry)
unfolding entries_of
members = refl

extra_members : entries_of places.ExtraMembers ≡ holds keys.Index (Some 256) (At places.Entry)
unfolding entries_of
extra_members = refl

ranges : entries_of places.Ranges ≡ holds keys.Index None (At places.Range)
unfolding entries_of
ranges = refl

range : entries_of places.Range ≡ holds keys.Index None (contents.Whole least (pos 18446744073709551615))
unfolding entries_of
range = refl
