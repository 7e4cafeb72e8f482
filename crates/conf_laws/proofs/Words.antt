-- The words and lemmas of std and of the crates below that the proofs speak of, and those of the definitions.
pub use Rattle.std.proofs.{Math.Bool.and-false, Math.Nat.{mul-one, one-le-mul}, Math.Pow.pow_mono}
pub use Rattle.std.proofs.lemmas.Bool.{agree_below_at, and_cases, and_from, and_parts, cases_lt, false_from_ne_true, false≢true, leb-false}
pub use Rattle.std.proofs.lemmas.Bool.{leb-true, ltb-false, or_cases, or_left, or_parts, or_right, true≢false}
pub use Rattle.std.proofs.lemmas.List.Elements.{All-append, All-cons, All-contains, All-from_recursion, All-map, All-nil, All-push, All-weaker}
pub use Rattle.std.proofs.lemmas.{Bool.Decides.nat_tests, Cmp.{nat_list_cmp_total, tied_itself}, List.Folds.{list_all_at, list_any_at}, Map.Text.is_eq-slice_cmp, Nat.mul-le}
pub use Rattle.std.proofs.lemmas.{List.{append-nil, length-map, map-append}, Option.same_Some, Slice.Eq.bytes_eq-Decides}
pub use Rattle.std.specs.{Cmp.Lexicographic.slice_cmp, List.{All, AllByRecursion, list_any}, Option.option_map_or, Prelude.⊤, Str.bytes_eq}
unfoldable pub use Rattle.std.specs.{List.IsDistinct, List.Sorted.IsStrictlySortedBy}
pub use Rattle.conf_tree.specs.{Flaw.{Flaw, Place as PathPart, here, index, key, within}, Order.{AllAbove, Ascends, IsInOrder, ItemsAscend, MembersAscend}}
pub use Rattle.conf_tree.specs.{Reading.{at, flag_of, needed, optional, text_of, wanted, ◌>>=◌}, Walk.{HasMember, refusal}}
pub use Rattle.ctf_types.specs.declared.limits.TheConstants.{LARGEST_ALIGN, MAX_ARRAYS, MAX_CLOCK_TYPES, MAX_CONFIG_MEMBERS, MAX_CONFIG_RANGES, MAX_ELEMENTS, MAX_ENVIRONMENT, MAX_EVENT_TYPES, MAX_LABEL_BYTES, MAX_STREAM_TYPES, MAX_TEXT_BYTES}
pub use Rattle.conf_tree.specs.declared.fault_kind.FaultKind.{FaultKind, TheVariants.{Limit, Missing, NameClash, OutOfRange, ReservedName, Unknown, WrongKind}}
unfoldable pub use Rattle.conf_tree.specs.Reading.{whole_of}
pub use Rattle.conf_values.proofs.LeafFlawLaws.{control_there, found_there, lacks_refused, listed as word_listed, name_refused, none_refused, plain_name_refused}
pub use Rattle.conf_values.proofs.LeafFlawLaws.{refused_here_or_next, whole_refused}
pub use Rattle.conf_values.proofs.Steps.{both_read, is_passed, ok_same, read_there}
pub use Rattle.conf_values.specs.LeafFlaws.{IsControl, IsNoConfigText, IsNoFlag, IsNoList, IsNoName, IsNoObject, IsNoPlainName, IsNoText, IsNoUuid, IsNoWhole, IsNoWordOf}
pub use Rattle.conf_values.specs.{Parts.proved, Scalar.is_printable}
unfoldable pub use Rattle.conf_values.specs.{Name.{is_reserved, name_of, plain_name_of}, Scalar.{as_natural, uuid_in}}
pub use Rattle.serde_json.proofs.Views.{get_member-put, get_member-put_other}
pub use Rattle.serde_json.specs.Data.{Data, Items, Members, array, boolean, item, member, no_items, no_members, null, number, object, string, unsigned}
pub use Rattle.serde_json.specs.{Events.{items_len, members_len}, Find.{as_array, as_bool, as_integer, as_number, as_object, as_str, get_item, get_member}}
unfoldable pub use Rattle.conf_table.specs.{Classes.{admits_class, class_of, class_words, is_class}, Table.{content_under, entries_of, presence_under, rows_of}}
unfoldable pub use Rattle.conf_table.specs.Words.{words_of}
pub use Rattle.conf_table.specs.{Classes.{ClassWord, class_in, class_named, class_said, is_dynamic_array, is_static_array, is_unsigned_integer}, Table.{Told, is_by_index, row_in}}
pub use Rattle.conf_table.specs.{declared.place.Place.Place, declared.row.Content.Content, declared.row.Content.TheVariants.{At, Level, OneFlag, Text, Whole, WholeOrText}}
pub use Rattle.conf_table.specs.{declared.row.Entries.Entries, declared.row.Keys.Keys, declared.row.Presence.Presence, declared.row.Presence.TheVariants.Needed}
unfoldable pub use Rattle.conf_judge.specs.Flaws.{all_there, class_rule, is_left_out, orders_there, other_class, resolved_content}
unfoldable pub use Rattle.conf_judge.specs.{Forms.{any_object, feature as feature_form, form_of, itself_of, size_feature}, Known.{behind, inside}}
unfoldable pub use Rattle.conf_judge.specs.Leaves.{leaf_of, level, power_of, whole_from, whole_or_text}
unfoldable pub use Rattle.conf_judge.specs.Limits.{arrays_fit, fits, is_outermost, key_fits, place_fits, power_fits, ranges_fit}
unfoldable pub use Rattle.conf_judge.specs.Names.{free_of, is_dynamic, key_by, key_of, names_beside}
unfoldable pub use Rattle.conf_judge.specs.Numbers.{inside_of, is_inside, natural_in, numbers_in, numbers_of, pair_of, range_of}
unfoldable pub use Rattle.conf_judge.specs.{Places.{is_position, item_content, own_place, place_of_properties}, Shapes.{is_identifier, shape_of}}
pub use Rattle.conf_judge.specs.Flaws.{admitted, configuration_flaws, content_flaws, inner_flaws, is_needed, is_null, item_flaws, left_out, member_flaws}
pub use Rattle.conf_judge.specs.{Flaws.{property_flaws, row_there, rows_there, told_by}, Known.{Known, is_true, nothing, says_default, with_taken}}
pub use Rattle.conf_judge.specs.Limits.{at_least_one, at_most, bytes_fit, configuration_limits, content_limits, count_of, elements, elements_in_array, inner_limits}
pub use Rattle.conf_judge.specs.Limits.{item_limits, member_limits, ranges_in as counted_ranges, times, within_limit}
pub use Rattle.conf_judge.specs.{Names.{class_of_member, is_taken, take, take_all, take_each, with_names}, Numbers.{all_numbers, end_of, single_of}}
pub use Rattle.conf_judge.specs.{Leaves.{is_power_of_two, only_if}, Shapes.{element_has_bits, has_bits, is_byte, is_eight, is_number}}
unfoldable pub use Rattle.conf_draft.specs.{Alignments.alignment, Clocks.{clock_type, clock_types}, Enumerations.enumeration, Environments.environment}
unfoldable pub use Rattle.conf_draft.specs.{Events.{event_type, event_types}, Features.{byte_of, context, event_header, feature, header, identifier, mapped, size, timestamp}}
unfoldable pub use Rattle.conf_draft.specs.{FieldTypes.{length_of, of_class}, Integers.{align_of as integer_align, base_of, integer, made as integer_made, size_of}}
unfoldable pub use Rattle.conf_draft.specs.{Lookups.{list, natural, object as object_at, properties, word}, Members.{behind as behind_done, member_type}}
unfoldable pub use Rattle.conf_draft.specs.{Streams.{stream_type, stream_types}, Structures.{align_of, extra_members, listed, made, structure, structure_of}}
unfoldable pub use Rattle.conf_draft.specs.Traces.{asks_number, draft_of_root, draft_of_trace, draft_of_type}
pub use Rattle.conf_draft.specs.{Alignments.{alignment_of, is_alignment}, Clocks.clocks_in, Enumerations.{high, labels_in, low, ranges_in}}
pub use Rattle.conf_draft.specs.Defaults.{default_number, is_on, number_or_default, of_stream, of_trace}
pub use Rattle.conf_draft.specs.{Environments.{entries_in, entry_value}, Events.level_of, Features.{byte_type, feature_of, magic_type, number_type}}
pub use Rattle.conf_draft.specs.{FieldTypes.{element, field_type}, Integers.default_align, Lookups.said_behind, Members.{member_of as member_said, members_behind}}
pub use Rattle.conf_draft.specs.{Streams.clock_of, Structures.align_for, Traces.{draft_of, draft_with}, declared.draft.Draft.Draft}
unfoldable pub use Rattle.ctf_types.specs.{Allowed.elements_of, AllowedConfig.LabelsInOrder, Names.is_identifier as is_name, Shown.shown_members}
pub use Rattle.ctf_types.specs.Allowed.{IsNest}
pub use Rattle.ctf_types.specs.AllowedConfig.{AreConfigMembers, InByteOrder, IsClockType, IsConfig, IsConfigLeaf, IsConfigMember, IsConfigStruct, IsEnumeration}
pub use Rattle.ctf_types.specs.{AllowedConfig.{IsEnvironmentValue, IsEventType, IsPlainUnsigned, IsRangeOf, IsStreamType, OnlyIf, highest, lowest}, FieldTypes.chain_of, Members.names_in}
pub use Rattle.ctf_types.specs.{Names.{IsConfigName, IsConfigText, IsPlainName, unused_keywords, used_keywords}, Packets.own_names, Shown.length_name}
pub use Rattle.ctf_types.specs.{declared.ClockType.ClockType, declared.Config.Config, declared.ContextFeatures.ContextFeatures, declared.EnvironmentEntry.EnvironmentEntry}
pub use Rattle.ctf_types.specs.{declared.EventFeatures.EventFeatures, declared.EventType.EventType, declared.FieldType.FieldType}
pub use Rattle.ctf_types.specs.{declared.FieldType.TheVariants.{Enum, Int, Static, Str}, declared.HeaderFeatures.HeaderFeatures, declared.IntType.IntType}
pub use Rattle.ctf_types.specs.{declared.Length.TheVariants.{At as AtMember, Auto}, declared.Mapping.Mapping, declared.MemberType.MemberType}
pub use Rattle.ctf_types.specs.{declared.MemberType.TheVariants.{Dyn, Plain}, declared.StreamType.StreamType, declared.StructType.StructType}
pub use Rattle.conf_laws.specs.Around.{Around, HasBehind, HasBits, HasDefault, HasNumber, IsBehindDefault, IsBeside, IsDynamic, IsTaken, Parts, SaysDefault, TakesName}
pub use Rattle.conf_laws.specs.{Around.{enumeration_around, item_of, levels_around, member_of}, Rules.{KeepsRules, KeepsStreamRules, RecordHasBits}}
pub use Rattle.conf_laws.specs.TableFlaws.{HasNoBits, HasNotItsRows, IsByte, IsFlawOf, IsIdentifier, IsLeftOut, IsNoClassAt, IsNoShapeAt, IsPropertyOf}
pub use Rattle.conf_laws.specs.TableLimits.{HasElement, HasTooManyElements, IsArray, IsLargeNumber, IsLongText, Nest, PassesAt, PassesBy, PassesLimitOf, product}
pub use Rattle.conf_laws.specs.ValueFlaws.{IsNoDefault, IsNoEntry, IsNoFeature, IsNoKey, IsNoLabel, IsNoLevel, IsNoMemberName, IsNoNameAt, IsNoPowerOfTwo, IsNoRange}
pub use Rattle.conf_laws.specs.ValueFlaws.{IsNoSizeFeature, IsNoSomeList, IsNoSomeObject, IsNoValueOf, IsNoWholeOrText, IsNoneAt, IsPair, IsPowerOfTwo, IsRange, IsWhole}
pub use Rattle.conf_laws.specs.ValueFlaws.{words_of_classes}
pub use Rattle.ctf_types.proofs.Ends.{divisors_of_pow}
pub use Rattle.uuid.specs.Text.{parsed}
pub use Rattle.conf_table.specs.declared.place.Place.TheVariants as places
pub use Rattle.conf_table.specs.declared.row.Content.TheVariants as contents
pub use Rattle.conf_table.specs.declared.row.Keys.TheVariants as keys
pub use Rattle.conf_table.specs.declared.row.Presence.TheVariants as presences
pub use borrow.Author.Differences.{below_in, le-false, le-true, lt_out}
