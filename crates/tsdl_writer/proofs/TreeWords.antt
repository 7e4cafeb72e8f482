-- The words of configurations, trees and tokens that the proofs speak of, and the lemmas that many of them take.
pub use Rattle.std.proofs.Common.{All, Bool, Contains, IfSome, IsUtf8, List, None, OnOk, Option, Result, SFits, Some, [], add-one, ap, append-nil, append_assoc, arith, bytes_eq, codes, drop, eq-eqb, eqb, false, flat_map, get_or, inl, inr, int_le, is_none, le-leb, length, length-append, lit<, lt-ltb, ltb, map, max, mod-eq_of_lt, nat_le, nat_lt, negsuc, not, option_map, pos, refl, rules, slice_get, subst, suc, sym, take, take_all, to_z-of_z, true, w64, zero, ℕ, ℤ, ◌%◌, ◌&&◌, ◌*◌, ◌++◌, ◌+◌, ◌-◌, ◌<◌, ◌==◌, ◌^◌, ◌||◌, ◌∙◌, ◌∷◌, ◌≡◌, ◌≤ℤ◌, ◌≤◌}
pub use Rattle.ctf_types.proofs.{AllowedMembers.{metadata_name_of_plain, no_members_shown, struct_is_allowed}, AllowedMetadata.{metadata_is_allowed, struct_with-members}}
pub use Rattle.ctf_types.specs.Allowed.{HasBits, IsField, Where, IsByteType, IsIdentity, IsLeaf, IsMagic, IsMappedTo, IsMetadata, IsNest, IsRange, IsStream, IsStruct, IsUnsigned}
pub use Rattle.ctf_types.specs.AllowedConfig.{IsClockType, IsConfig, IsConfigMember, IsConfigStruct, IsEventType, IsStreamType}
pub use Rattle.ctf_types.specs.{Chain.{ByteString, Labelled, Leaf, Number}, FieldTypes.chain_of, Members.names_in}
pub use Rattle.ctf_types.specs.{Packets.own_names, declared.limits.TheConstants.MAX_ENVIRONMENT}
pub use Rattle.ctf_types.specs.MetadataOf.{context_numbers, event_header_members, header_members, number_member, struct_with, uuid_member}
pub use Rattle.ctf_types.specs.{Names.{IsMetadataName, IsPlainName, is_digit, is_letter, unused_keywords}, Shown.{length_name, length_type, shown_struct}}
unfoldable pub use Rattle.ctf_types.specs.{Allowed.AreMembers, MetadataOf.{context_of, event_header_of, event_of, header_of, metadata_of, stream_of, streams_of}}
unfoldable pub use Rattle.ctf_types.specs.{Names.is_identifier, Shown.shown_members}
pub use Rattle.ctf_types.specs.declared.{Base.Base, Base.TheVariants.Bin, ByteOrder.ByteOrder, ByteOrder.TheVariants.{Big, Little}, ClockType.ClockType, Config.Config}
pub use Rattle.ctf_types.specs.declared.{EnvironmentEntry.EnvironmentEntry, EnvironmentValue.EnvironmentValue, Event.Event, EventType.EventType, FieldType.FieldType}
pub use Rattle.ctf_types.specs.declared.{FieldType.TheVariants.{Int, Static}, IntType.IntType, Length.TheVariants.{At, Auto}, Mapping.Mapping, MemberType.MemberType}
pub use Rattle.ctf_types.specs.declared.{MemberType.TheVariants.{Dyn, Plain}, Stream.Stream, StreamType.StreamType, StructType.StructType}
pub use Rattle.std.proofs.lemmas.{Bool.{cases_Bool, cases_lt, false≢true}, Bool.Decides.nat_tests, Int.ints, List.{drop_all, drop_more, length-map, take_rest}}
pub use Rattle.std.proofs.lemmas.{List.Concat.{flat_map-append}, List.Elements.{All-contains, All-head, All-map, All-more, All-tail, All-weaker, recursion_from_All}}
pub use Rattle.std.proofs.lemmas.{Map.Keys.{IsDistinct-head, IsDistinct-tail}, Slice.Eq.{bytes_eq-Decides}}
pub use Rattle.std.specs.{Int.w128, List.{AllByRecursion, IsDistinct, list_all, list_any, prefix_len}}
pub use Rattle.tsdl_grammar.proofs.TypeParts.{int_type-own, struct_type-gives}
pub use Rattle.tsdl_grammar.specs.AttributeValues.{natural_value, optional, signed_of, whole}
pub use Rattle.tsdl_grammar.specs.BlockMeaning.{event_context, event_header, fields_scope, is_byte, is_trace, is_unsigned_of, is_uuid, named_fact_meaning, packet_context, packet_header, specific_context, suits, suits_header, trace_order}
pub use Rattle.tsdl_grammar.specs.Denotes.{Denotes, clock_in, environment_in, event_in, have_streams, is_read, known_of, stream_in, trace_in, with_events}
pub use Rattle.tsdl_grammar.specs.{IntegerMeaning.{Known, int_type}, MemberMeaning.{are_lengths, arrays_of, count_of, entries_of, high_of, is_unsigned, length_place}}
pub use Rattle.tsdl_grammar.specs.Spelling.{align_toks, attr_toks, block_and_semicolon, braced, bracket_toks, entries_toks, entry_toks, fact_toks, high_toks, int_toks, item_toks, kind_toks, member_toks, name_toks, named_fact_toks, next_entry_toks, number_toks, text_toks}
pub use Rattle.tsdl_grammar.specs.{Steps.{at_most_one, by_number, each, ◌>>=◌}, StructureMeaning.{align_of, align_with, has_member, scope_meaning, structure_of}}
unfoldable pub use Rattle.tsdl_grammar.specs.AttributeValues.{flag_value, uuid_value}
unfoldable pub use Rattle.tsdl_grammar.specs.BlockMeaning.{clock_meaning, environment_meaning, event_meaning, header_meaning, stream_meaning, trace_uuid}
unfoldable pub use Rattle.tsdl_grammar.specs.{Denotes.{streams_meaning, text_meta}, IntegerMeaning.{base_value, clock_value, int_meaning}}
unfoldable pub use Rattle.tsdl_grammar.specs.MemberMeaning.{bracketed, entry_meaning, enum_meaning, kind_meaning, member_meaning, text_meaning}
unfoldable pub use Rattle.tsdl_grammar.specs.StructureMeaning.{members_meaning, struct_meaning}
pub use Rattle.tsdl_grammar.specs.declared.{atom.Atom.Atom, token.Mark.Mark, tree.Block.Block, tree.Item.Item, tree.Name.Name, tree.Structure.Structure}
pub use Rattle.tsdl_writer.specs.{Held.{IsHeld, IsHeldClock, IsHeldUuid, IsHeldValue}, Prints.{Begins, Ends, IsString, Prints, token_toks}}
pub use Rattle.tsdl_writer.specs.Trees.{all_event_blocks, array_member, attributes, base_number, blocks_of, clock_block, clock_items, clock_numbers, closing, count_bracket, entry_tree, entry_trees, environment_blocks, event_block, event_blocks, event_items, fact_tree, flag_word, high_number, integer_attributes, kind_tree, length_member, mapping_attributes, member_toks_of, member_tree, member_trees, named_fact_tree, natural_attribute, natural_item, natural_number, numbered, one_word, optional_items, order_word, scope_items, stream_block, stream_blocks, stream_items, structure_tree, text_item, trace_block, trace_items, two_words, uuid_item, whole_item, whole_number, word_attribute, word_item}
unfoldable pub use Rattle.tsdl_writer.specs.Written.{written}
pub use Rattle.tsdl_writer.specs.declared.printer.Printer.{Printer}
pub use Rattle.uuid.specs.Text.{hyphenated_text, lower}
