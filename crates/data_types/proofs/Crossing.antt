-- Which of this crate's types may cross threads: each of them, owned or shared.
-- Each is shown once, from its parts, since a search that goes down through a whole configuration ends at its limits.
--     T-send, T-sync      of T as a list's, a box's or an option's        T-field-send, T-field-sync      of T as a struct's field
--     crossing      these, those of the types that search finds by itself, and the logic's own: `search crossing depth 20` shows it of a type that holds them
use denote.Param.Send.{IsSend, IsSync, sendable}
use Rattle.std.proofs.Crossing.{crosses}
use Rattle.indexmap.proofs.map.IndexMap.TheSendSync as map
use Rattle.plain_lists.proofs.text.Text.TheSendSync as text
use Rattle.plain_lists.proofs.bytes.Bytes.TheSendSync as bytes
use Rattle.plain_lists.proofs.list_of.ListOf.TheSendSync as list
use Rattle.data_types.proofs.arg_fault.ArgFault.TheSendSync as fault
use Rattle.data_types.proofs.base.Base.TheSendSync as base
use Rattle.data_types.proofs.byte_order.ByteOrder.TheSendSync as order
use Rattle.data_types.proofs.clock_type.ClockType.TheSendSync as clock
use Rattle.data_types.proofs.enum_type.EnumType.TheSendSync as enumeration
use Rattle.data_types.proofs.enum_type.Mapping.TheSendSync as mapping
use Rattle.data_types.proofs.environment.EnvironmentEntry.TheSendSync as environment
use Rattle.data_types.proofs.environment.EnvironmentValue.TheSendSync as environment_value
use Rattle.data_types.proofs.features.ContextFeatures.TheSendSync as context
use Rattle.data_types.proofs.features.EventFeatures.TheSendSync as event_header
use Rattle.data_types.proofs.features.HeaderFeatures.TheSendSync as header
use Rattle.data_types.proofs.int_type.IntType.TheSendSync as int
use Rattle.data_types.proofs.member_type.Length.TheSendSync as length
use Rattle.data_types.proofs.field_type.Element.TheLaws.TheKnot as types
use Rattle.data_types.proofs.value.Values.TheLaws.TheKnot as values
use Rattle.data_types.specs.contracts.field_type.Element as Element
use Rattle.data_types.specs.contracts.field_type.FieldType as FieldType
use Rattle.data_types.specs.contracts.member_type.MemberType as MemberType
use Rattle.data_types.specs.contracts.members.Members as Members
use Rattle.data_types.specs.contracts.struct_type.StructType as StructType
use Rattle.data_types.specs.contracts.config.EventType as EventType
use Rattle.data_types.specs.contracts.config.StreamType as StreamType
use Rattle.data_types.specs.contracts.config.Config as Config
use Rattle.data_types.specs.contracts.metadata.Event as Event
use Rattle.data_types.specs.contracts.metadata.Stream as Stream
use Rattle.data_types.specs.contracts.metadata.Metadata as Metadata
use Rattle.data_types.specs.contracts.value.Value as Value
use Rattle.data_types.specs.contracts.value.Values as Values
use Rattle.data_types.specs.contracts.args.Args as Args
use Rattle.data_types.specs.contracts.packet.Record as Record
use Rattle.data_types.specs.contracts.packet.ReadPacket as ReadPacket

ruleset plain = (sendable, crosses, text.the_send, text.the_sync, list.the_send, list.the_sync, bytes.the_send, bytes.the_sync)

pub Element-send : IsSend Element.the_row
Element-send = search (plain, types.crosses, int.the_send, enumeration.the_send) depth 20

pub Element-sync : IsSync Element.the_row
Element-sync = search (plain, types.crosses, int.the_sync, enumeration.the_sync) depth 20

pub FieldType-field-send : IsSend FieldType.the_field.row
FieldType-field-send = search (plain, Element-send, int.the_field_send, enumeration.the_field_send) depth 20

pub FieldType-field-sync : IsSync FieldType.the_field.row
FieldType-field-sync = search (plain, Element-sync, int.the_field_sync, enumeration.the_field_sync) depth 20

pub FieldType-send : IsSend FieldType.the_row
FieldType-send = search (sendable, FieldType-field-send) depth 20

pub FieldType-sync : IsSync FieldType.the_row
FieldType-sync = search (sendable, FieldType-field-sync) depth 20

pub MemberType-field-send : IsSend MemberType.the_field.row
MemberType-field-send = search (sendable, FieldType-field-send, length.the_field_send) depth 20

pub MemberType-field-sync : IsSync MemberType.the_field.row
MemberType-field-sync = search (sendable, FieldType-field-sync, length.the_field_sync) depth 20

pub MemberType-send : IsSend MemberType.the_row
MemberType-send = search (sendable, MemberType-field-send) depth 20

pub MemberType-sync : IsSync MemberType.the_row
MemberType-sync = search (sendable, MemberType-field-sync) depth 20

pub Members-send : IsSend Members.the_row
Members-send = search (sendable, crosses, map.the_send, MemberType-send) depth 20

pub Members-sync : IsSync Members.the_row
Members-sync = search (sendable, crosses, map.the_sync, MemberType-sync) depth 20

pub StructType-field-send : IsSend StructType.the_field.row
StructType-field-send = search (sendable, Members-send) depth 20

pub StructType-field-sync : IsSync StructType.the_field.row
StructType-field-sync = search (sendable, Members-sync) depth 20

pub StructType-send : IsSend StructType.the_row
StructType-send = search (sendable, StructType-field-send) depth 20

pub StructType-sync : IsSync StructType.the_row
StructType-sync = search (sendable, StructType-field-sync) depth 20

pub EventType-field-send : IsSend EventType.the_field.row
EventType-field-send = search (sendable, StructType-field-send, text.the_send) depth 20

pub EventType-field-sync : IsSync EventType.the_field.row
EventType-field-sync = search (sendable, StructType-field-sync, text.the_sync) depth 20

pub EventType-send : IsSend EventType.the_row
EventType-send = search (sendable, EventType-field-send) depth 20

pub EventType-sync : IsSync EventType.the_row
EventType-sync = search (sendable, EventType-field-sync) depth 20

pub StreamType-field-send : IsSend StreamType.the_field.row
StreamType-field-send = search (sendable, StructType-field-send, EventType-send, text.the_send, list.the_send, context.the_field_send, event_header.the_field_send) depth 20

pub StreamType-field-sync : IsSync StreamType.the_field.row
StreamType-field-sync = search (sendable, StructType-field-sync, EventType-sync, text.the_sync, list.the_sync, context.the_field_sync, event_header.the_field_sync) depth 20

pub StreamType-send : IsSend StreamType.the_row
StreamType-send = search (sendable, StreamType-field-send) depth 20

pub StreamType-sync : IsSync StreamType.the_row
StreamType-sync = search (sendable, StreamType-field-sync) depth 20

pub Config-field-send : IsSend Config.the_field.row
Config-field-send = search (sendable, StreamType-send, list.the_send, order.the_field_send, environment.the_send, clock.the_send, header.the_field_send) depth 20

pub Config-field-sync : IsSync Config.the_field.row
Config-field-sync = search (sendable, StreamType-sync, list.the_sync, order.the_field_sync, environment.the_sync, clock.the_sync, header.the_field_sync) depth 20

pub Config-send : IsSend Config.the_row
Config-send = search (sendable, Config-field-send) depth 20

pub Config-sync : IsSync Config.the_row
Config-sync = search (sendable, Config-field-sync) depth 20

pub Event-field-send : IsSend Event.the_field.row
Event-field-send = search (sendable, StructType-field-send, text.the_send) depth 20

pub Event-field-sync : IsSync Event.the_field.row
Event-field-sync = search (sendable, StructType-field-sync, text.the_sync) depth 20

pub Event-send : IsSend Event.the_row
Event-send = search (sendable, Event-field-send) depth 20

pub Event-sync : IsSync Event.the_row
Event-sync = search (sendable, Event-field-sync) depth 20

pub Stream-field-send : IsSend Stream.the_field.row
Stream-field-send = search (sendable, StructType-field-send, Event-send, list.the_send) depth 20

pub Stream-field-sync : IsSync Stream.the_field.row
Stream-field-sync = search (sendable, StructType-field-sync, Event-sync, list.the_sync) depth 20

pub Stream-send : IsSend Stream.the_row
Stream-send = search (sendable, Stream-field-send) depth 20

pub Stream-sync : IsSync Stream.the_row
Stream-sync = search (sendable, Stream-field-sync) depth 20

pub Metadata-field-send : IsSend Metadata.the_field.row
Metadata-field-send = search (sendable, StructType-field-send, Stream-send, list.the_send, order.the_field_send, environment.the_send, clock.the_send) depth 20

pub Metadata-field-sync : IsSync Metadata.the_field.row
Metadata-field-sync = search (sendable, StructType-field-sync, Stream-sync, list.the_sync, order.the_field_sync, environment.the_sync, clock.the_sync) depth 20

pub Metadata-send : IsSend Metadata.the_row
Metadata-send = search (sendable, Metadata-field-send) depth 20

pub Metadata-sync : IsSync Metadata.the_row
Metadata-sync = search (sendable, Metadata-field-sync) depth 20

pub Values-send : IsSend Values.the_row
Values-send = search (plain, values.crosses) depth 20

pub Values-sync : IsSync Values.the_row
Values-sync = search (plain, values.crosses) depth 20

pub Value-field-send : IsSend Value.the_field.row
Value-field-send = search (sendable, Values-send, bytes.the_send) depth 20

pub Value-field-sync : IsSync Value.the_field.row
Value-field-sync = search (sendable, Values-sync, bytes.the_sync) depth 20

pub Value-send : IsSend Value.the_row
Value-send = search (sendable, Value-field-send) depth 20

pub Value-sync : IsSync Value.the_row
Value-sync = search (sendable, Value-field-sync) depth 20

pub Args-field-send : IsSend Args.the_field.row
Args-field-send = search (sendable, Values-send) depth 20

pub Args-field-sync : IsSync Args.the_field.row
Args-field-sync = search (sendable, Values-sync) depth 20

pub Args-send : IsSend Args.the_row
Args-send = search (sendable, Args-field-send) depth 20

pub Args-sync : IsSync Args.the_row
Args-sync = search (sendable, Args-field-sync) depth 20

pub Record-field-send : IsSend Record.the_field.row
Record-field-send = search (sendable, Values-send) depth 20

pub Record-field-sync : IsSync Record.the_field.row
Record-field-sync = search (sendable, Values-sync) depth 20

pub Record-send : IsSend Record.the_row
Record-send = search (sendable, Record-field-send) depth 20

pub Record-sync : IsSync Record.the_row
Record-sync = search (sendable, Record-field-sync) depth 20

pub ReadPacket-field-send : IsSend ReadPacket.the_field.row
ReadPacket-field-send = search (sendable, Values-send, Record-send, list.the_send) depth 20

pub ReadPacket-field-sync : IsSync ReadPacket.the_field.row
ReadPacket-field-sync = search (sendable, Values-sync, Record-sync, list.the_sync) depth 20

pub ReadPacket-send : IsSend ReadPacket.the_row
ReadPacket-send = search (sendable, ReadPacket-field-send) depth 20

pub ReadPacket-sync : IsSync ReadPacket.the_row
ReadPacket-sync = search (sendable, ReadPacket-field-sync) depth 20

-- of the types that search finds by itself
pub ruleset leaves = (text.the_send, text.the_sync, bytes.the_send, bytes.the_sync, list.the_send, list.the_sync, fault.the_send, fault.the_sync, fault.the_field_send, fault.the_field_sync, base.the_send, base.the_sync, base.the_field_send, base.the_field_sync, order.the_send, order.the_sync, order.the_field_send, order.the_field_sync, clock.the_send, clock.the_sync, clock.the_field_send, clock.the_field_sync, int.the_send, int.the_sync, int.the_field_send, int.the_field_sync, mapping.the_send, mapping.the_sync, mapping.the_field_send, mapping.the_field_sync, enumeration.the_send, enumeration.the_sync, enumeration.the_field_send, enumeration.the_field_sync, environment_value.the_send, environment_value.the_sync, environment_value.the_field_send, environment_value.the_field_sync, environment.the_send, environment.the_sync, environment.the_field_send, environment.the_field_sync, context.the_send, context.the_sync, context.the_field_send, context.the_field_sync, event_header.the_send, event_header.the_sync, event_header.the_field_send, event_header.the_field_sync, header.the_send, header.the_sync, header.the_field_send, header.the_field_sync, length.the_send, length.the_sync, length.the_field_send, length.the_field_sync)

pub ruleset crossing = (sendable, crosses, leaves, Element-send, Element-sync, Members-send, Members-sync, Values-send, Values-sync, FieldType-send, FieldType-sync, FieldType-field-send, FieldType-field-sync, MemberType-send, MemberType-sync, MemberType-field-send, MemberType-field-sync, StructType-send, StructType-sync, StructType-field-send, StructType-field-sync, EventType-send, EventType-sync, EventType-field-send, EventType-field-sync, StreamType-send, StreamType-sync, StreamType-field-send, StreamType-field-sync, Config-send, Config-sync, Config-field-send, Config-field-sync, Event-send, Event-sync, Event-field-send, Event-field-sync, Stream-send, Stream-sync, Stream-field-send, Stream-field-sync, Metadata-send, Metadata-sync, Metadata-field-send, Metadata-field-sync, Value-send, Value-sync, Value-field-send, Value-field-sync, Args-send, Args-sync, Args-field-send, Args-field-sync, Record-send, Record-sync, Record-field-send, Record-field-sync, ReadPacket-send, ReadPacket-sync, ReadPacket-field-send, ReadPacket-field-sync)
